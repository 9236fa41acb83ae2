-- What the numbers of a work area that stands for a position say of each cell: its premium, whether it is looked at, whether it is a closed unit. Assumes nothing.
use borrow.Author.Tests.{le-ltb, lt-ltb, ne_eqb}
use Prim.Native.Nat.{ℕ, ◌+◌, ◌-◌, ◌<◌, ◌≤◌, suc, zero}
use native.Mathlib.Omega.{arith}
use native.Mathlib.Decide.{dec_lt}
use mathlib.Core.Path.{◌∙◌, ◌≡◌, ap, refl, subst, sym}
use mathlib.Core.Bool.{Bool, ◌&&◌, ◌||◌, cond, false, not, true}
use mathlib.Core.List.{List}
use lib.Dec.{T, eqb, leb, leb→le, le→leb}
use lib.IntN.{◌-ℤ◌, negsuc, pos, ℤ}
use lib.Signed.{le_z}
use Rattle.area.proofs.Held.{Holds, one_more}
use Rattle.area.specs.Numbers.{first_at, content_at}
use Rattle.area.specs.Stages.{content, raised}
use Rattle.choices.specs.Tests.{looked_at, unit_at}
use Rattle.game.specs.Grid.{Grid, cells, mine, number, safe, size, zero_cell}
use Rattle.game.specs.Lists.{has, keep, range}
use Rattle.game.specs.Openings.{first_label}
use Rattle.game.specs.Position.{Position, closed, cost, gain, opened, premium}
use Rattle.game.specs.Rounds.{closed_unit_cell, least_chosen, looked, unit_cells}
use Rattle.game.proofs.Labels.{first-label}
use Rattle.game.proofs.Members.{has_keep, has_range, keep_ext, keep_has}
use Rattle.game.proofs.Ranges.{cost_range}
use Rattle.game.proofs.Squares.{cells→, →cells}
use Rattle.game.proofs.Truth.{T→true, and_both, and_left, and_right, iff, no→false}

-- ---- premiums by what is kept of them

-- a difference of 0 or more, and one below
not_below : (a b : ℕ) → b ≤ a → pos a -ℤ pos b ≡ pos (a - b)
not_below a zero h = ap pos (omega arith)
not_below a (suc b) h = rw (le-ltb a (suc b) h)

below : (a b : ℕ) → a < b → pos a -ℤ pos b ≡ negsuc (b - suc a)
below a zero h = absurd (omega arith)
below a (suc b) h = rw (lt-ltb a (suc b) h)

-- the order of two differences
differences : (a b c d : ℕ) → le_z (pos a -ℤ pos b) (pos c -ℤ pos d) ≡ leb (a + d) (c + b)
differences a b c d = go (dec_lt a b) (dec_lt c d)
  where
    same : (j k m n : ℕ) → (j ≤ k → m ≤ n) → (m ≤ n → j ≤ k) → leb j k ≡ leb m n
    same j k m n f h = iff (leb j k) (leb m n) (λ t. le→leb m n (f (leb→le j k t))) (λ t. le→leb j k (h (leb→le m n t)))

    go : Dec (a < b) → Dec (c < d) → le_z (pos a -ℤ pos b) (pos c -ℤ pos d) ≡ leb (a + d) (c + b)
    go (yes p) (yes q) = rw (below a b p, below c d q) (same (d - suc c) (b - suc a) (a + d) (c + b) (λ l. omega arith) (λ l. omega arith))
    go (yes p) (no q) = let k : d ≤ c = omega arith in rw (below a b p, not_below c d k) (sym (T→true (leb (a + d) (c + b)) (le→leb (a + d) (c + b) (omega arith))))
    go (no p) (yes q) = let k : b ≤ a = omega arith in rw (not_below a b k, below c d q) (sym (no→false (leb (a + d) (c + b)) (λ t. less (leb→le (a + d) (c + b) t) k q)))
      where
        less : a + d ≤ c + b → b ≤ a → c < d → ⊥
        less l k q = omega arith
    go (no p) (no q) =
        let k : b ≤ a = omega arith in
        let m : d ≤ c = omega arith in
        rw (not_below a b k, not_below c d m) (same (a - b) (c - d) (a + d) (c + b) (λ l. omega arith) (λ l. omega arith))

-- a safe cell's raised premium, without a cut at 0
raised_safe : (g : Grid) (s : Position) (i : ℕ) → i < size g → T (safe g i) → raised g s i + cost g s i ≡ 10 + gain g s i
unfolding raised
raised_safe g s i h t = go (mine g i) t
  where
    go : (b : Bool) → T (not b) → cond b 0 (10 + gain g s i - cost g s i) + cost g s i ≡ 10 + gain g s i
    go true u = absurd u
    go false u = omega (arith, (cost_range g s i h t).1)

-- a mine has none
pub raised→safe : (g : Grid) (s : Position) (i : ℕ) → 1 ≤ raised g s i → T (safe g i)
unfolding raised
raised→safe g s i h = go (mine g i) h
  where
    go : (b : Bool) → 1 ≤ cond b 0 (10 + gain g s i - cost g s i) → T (not b)
    go true k = absurd (omega arith)
    go false k = tt

-- safe cells are in the order of their premiums
module _ (g : Grid) (s : Position) (i j : ℕ) (hi : i < size g) (hj : j < size g) (si : T (safe g i)) (sj : T (safe g j)) where
  pub premium→raised : T (le_z (premium g s i) (premium g s j)) → raised g s i ≤ raised g s j
  unfolding premium
  premium→raised t =
      omega (
        arith,
        leb→le (gain g s i + cost g s j) (gain g s j + cost g s i) (subst T (differences (gain g s i) (cost g s i) (gain g s j) (cost g s j)) t),
        raised_safe g s i hi si,
        raised_safe g s j hj sj,
      )

  pub raised→premium : raised g s i ≤ raised g s j → T (le_z (premium g s i) (premium g s j))
  unfolding premium
  raised→premium h =
      subst T (sym (differences (gain g s i) (cost g s i) (gain g s j) (cost g s j)))
      (le→leb (gain g s i + cost g s j) (gain g s j + cost g s i) (omega (arith, raised_safe g s i hi si, raised_safe g s j hj sj)))

-- a premium of 0 is kept as 10
module _ (g : Grid) (s : Position) (i : ℕ) (h : i < size g) (t : T (safe g i)) where
  pub reaches→ : T (le_z least_chosen (premium g s i)) → 10 ≤ raised g s i
  unfolding premium
  reaches→ u =
      omega (arith, leb→le (0 + cost g s i) (gain g s i + 0) (subst T (differences 0 0 (gain g s i) (cost g s i)) u), raised_safe g s i h t)

  pub →reaches : 10 ≤ raised g s i → T (le_z least_chosen (premium g s i))
  unfolding premium
  →reaches k =
      subst T (sym (differences 0 0 (gain g s i) (cost g s i))) (le→leb (0 + cost g s i) (gain g s i + 0) (omega (arith, raised_safe g s i h t)))

-- ---- tests of a cell

module _ (g : Grid) (s : Position) (w : List ℤ) (r : Holds g s w) where
  looked_there : (openedOnly : Bool) (i : ℕ) → i < size g → looked_at openedOnly w i ≡ (opened s i || not openedOnly)
  looked_there openedOnly i h = ap (λ (k : ℕ). not openedOnly || eqb k 1) (r.states i h) ∙ swapped (not openedOnly) (opened s i)
    where
      swapped : (a b : Bool) → (a || b) ≡ (b || a)
      swapped true true = refl
      swapped true false = refl
      swapped false true = refl
      swapped false false = refl

  pub looked→ : (openedOnly : Bool) (i : ℕ) → T (has i (looked openedOnly g s)) → (i < size g) × T (safe g i) × T (looked_at openedOnly w i)
  looked→ openedOnly i t =
      let k = keep_has (λ i. safe g i && (opened s i || not openedOnly)) i (cells g) t in
      let h = cells→ g i k.0 in
      (h, and_left (safe g i) (opened s i || not openedOnly) k.1, rw (looked_there openedOnly i h) (and_right (safe g i) (opened s i || not openedOnly) k.1))

  pub →looked : (openedOnly : Bool) (i : ℕ) → i < size g → T (safe g i) → T (looked_at openedOnly w i) → T (has i (looked openedOnly g s))
  →looked openedOnly i h t u =
      has_keep (λ i. safe g i && (opened s i || not openedOnly)) i (cells g) (→cells g i h)
      (and_both (safe g i) (opened s i || not openedOnly) t (subst T (looked_there openedOnly i h) u))

  -- a closed safe cell of number 0 or without label
  pub unit_there : (i : ℕ) → i < size g → closed_unit_cell g s i ≡ unit_at w i
  unfolding content
  unit_there i h =
      sym (ap (λ (k : ℕ). eqb k 0 && not (eqb (content_at w i) 0) && (eqb (content_at w i) 1 || eqb (first_at w i) 0)) (r.states i h)
      ∙ ap (λ (k : ℕ). closed s i && not (eqb k 0) && (eqb k 1 || eqb (first_at w i) 0)) (r.contents i h)
      ∙ ap (λ (k : ℕ). closed s i && not (eqb (content g i) 0) && (eqb (content g i) 1 || eqb k 0)) (r.firsts i h)
      ∙ go (mine g i) (closed s i)
      ∙ ap (λ (b : Bool). safe g i && closed s i && (zero_cell g i || b)) (sym (first-label g i)))
    where
      go : (b c : Bool) → (c && not (eqb (cond b 0 (1 + number g i)) 0) && (eqb (cond b 0 (1 + number g i)) 1 || eqb (first_label g i) 0))
          ≡ (not b && c && (eqb (number g i) 0 || (not b && eqb (first_label g i) 0)))
      go true true = refl
      go true false = refl
      go false true = rw (ne_eqb (1 + number g i) 0 (λ e. omega arith), one_more (number g i))
      go false false = refl

  pub units_there : unit_cells g s ≡ keep (unit_at w) (range 0 (size g))
  unfolding unit_cells
  units_there = keep_ext (closed_unit_cell g s) (unit_at w) (range 0 (size g)) (λ i t. unit_there i (has_range 0 (size g) i t).1)
