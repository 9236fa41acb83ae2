-- The cell that a step takes is the first that was found: of highest premium, or a closed unit. Assumes nothing.
use Prim.Native.Nat.{ℕ, ◌*◌, ◌<◌, ◌≤◌}
use native.Mathlib.Omega.{arith}
use mathlib.Core.Path.{◌≡◌, ap₂, refl, subst, sym}
use mathlib.Core.Bool.{Bool}
use mathlib.Core.List.{List, [], ◌∷◌}
use lib.Dec.{T}
use lib.IntN.{ℤ}
use lib.ListN.{get_or, length}
use Rattle.std.specs.Prelude.{Option, Some, None}
use Rattle.area.specs.Stages.{Standing, Stands}
use Rattle.choices.specs.Picks.{found_first}
use Rattle.game.specs.Grid.{Grid, column_of, safe, zero_cell}
use Rattle.game.specs.Lists.{has}
use Rattle.game.specs.Moves.{Move, left}
use Rattle.game.specs.Position.{Position, Tidy, closed, closed_units}
use Rattle.game.specs.Rounds.{Choice, choice, chords, clicks, moves_at, step_of, top_cells, unit_cells, width}
use Rattle.game.proofs.Choices.{choice_none, looked→, never_stuck, premium_pays, top→, unit→}
use Rattle.game.proofs.Legal.{zero_poor}
use Rattle.game.proofs.Members.{has_head}
use Rattle.game.proofs.Rounds.{safe_left}
use Rattle.rounds.specs.Promises.{column_after}

-- what was found is the first
found_has : (xs : List ℕ) (r : Option ℕ) (i : ℕ) → r ≡ Some i → r ≡ found_first xs → T (has i xs) × (get_or xs 0 0 ≡ i)
found_has [] r i e f = let z : ◌≡◌ {A = ℕ} 0 1 = cc in absurd (omega arith)
found_has (x ∷ xs) r i e f = let q : x ≡ i = cc in (has_head i x xs (sym q), q)

found_none : (xs : List ℕ) (r : Option ℕ) → r ≡ None → r ≡ found_first xs → xs ≡ []
found_none [] r e f = refl
found_none (x ∷ xs) r e f = let z : ◌≡◌ {A = ℕ} 0 1 = cc in absurd (omega arith)

module _ (rows columns : ℕ) (w : List ℤ) (r : Option ℕ) where
  -- it lies on the grid
  pub unit_inside : (i : ℕ) → Standing rows columns w → ((g : Grid) (s : Position) (old : List ℤ) → Stands rows columns g s old w → r ≡ found_first (unit_cells g s)) → r ≡ Some i
      → i < rows * columns
  unit_inside i h f e =
      let g = h.grid in
      let s = h.position in
      let u = unit→ g s i (found_has (unit_cells g s) r i e (f g s h.old h.stands)).0 in
      omega (arith, u.inside, ap₂ ◌*◌ h.stands.rows_are h.stands.columns_are)

  pub top_inside : (openedOnly : Bool) (i : ℕ) → Standing rows columns w
      → ((g : Grid) (s : Position) (old : List ℤ) → Stands rows columns g s old w → r ≡ found_first (top_cells openedOnly g s)) → r ≡ Some i
      → i < rows * columns
  top_inside openedOnly i h f e =
      let g = h.grid in
      let s = h.position in
      let z = ap₂ ◌*◌ h.stands.rows_are h.stands.columns_are in
      let t = top→ openedOnly g s i (found_has (top_cells openedOnly g s) r i e (f g s h.old h.stands)).0 in
      omega (arith, (looked→ openedOnly g s i t.is_looked).0)

  -- what holds of the moves made and of the column handed on, P, holds of those of the definition
  module _ (g : Grid) (s : Position) (P : List Move → ℕ → Type 0) where
    -- ---- one L

    pub unit_taken : (i : ℕ) → r ≡ Some i → r ≡ found_first (unit_cells g s) → (T (safe g i) → T (closed s i) → P (left i ∷ []) (column_of g i))
        → P (left (get_or (unit_cells g s) 0 0) ∷ []) (column_of g (get_or (unit_cells g s) 0 0))
    unit_taken i e f q =
        let h = found_has (unit_cells g s) r i e f in
        let u = unit→ g s i h.0 in
        rw h.1 (q u.is_safe u.is_closed)

    -- ---- a step

    module _ (openedOnly : Bool) (from : ℕ) (f : r ≡ found_first (top_cells openedOnly g s)) where
      pub top_taken : (i : ℕ) → Tidy g s → r ≡ Some i → (T (safe g i) → (T (zero_cell g i) → ⊥) → P (moves_at g s i) from)
          → P (step_of g s (choice openedOnly g s) 0).moves (column_after g (choice openedOnly g s) from)
      unfolding choice
      top_taken i tidy e q =
          let v = top→ openedOnly g s i (found_has (top_cells openedOnly g s) r i e f).0 in
          let k = looked→ openedOnly g s i v.is_looked in
          go (top_cells openedOnly g s) (found_has (top_cells openedOnly g s) r i e f)
          (q k.1 (λ u. let p = zero_poor g s i tidy (record { inside = k.0; none = u }) in let c = premium_pays g s i v.reaches in absurd (omega arith)))
        where
          go : (ts : List ℕ) → T (has i ts) × (get_or ts 0 0 ≡ i) → P (moves_at g s i) from
              → let c = elim ts as (λ _. Choice) [ [] ↦ clicks (unit_cells g s) | x ∷ xs ↦ chords (x ∷ xs) ] in
              P (step_of g s c 0).moves (column_after g c from)
          go [] h m = absurd h.0
          go (x ∷ xs) h m = rw h.1 m

      pub click_taken : Tidy g s → 1 ≤ closed_units g s → r ≡ None
          → (1 ≤ length (unit_cells g s) → top_cells openedOnly g s ≡ [] → P (left (get_or (unit_cells g s) 0 0) ∷ []) (column_of g (get_or (unit_cells g s) 0 0)))
          → P (step_of g s (choice openedOnly g s) 0).moves (column_after g (choice openedOnly g s) from)
      click_taken p h e q =
          let z = found_none (top_cells openedOnly g s) r e f in
          let n = choice_none openedOnly g s z in
          let l : 1 ≤ length (unit_cells g s) = subst (λ (c : Choice). 1 ≤ width c) n (never_stuck openedOnly g s p (safe_left g s p h)) in
          rw n (q l z)
