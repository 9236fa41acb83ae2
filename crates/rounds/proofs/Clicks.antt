-- One L on a closed safe cell of number 1 or more opens it alone: no premium of another cell rises, so where none reaches 0 none does after it. Assumes nothing.
use Prim.Native.Nat.{ℕ, ◌*◌, ◌+◌, ◌-◌, ◌<◌, ◌≤◌}
use native.Mathlib.Omega.{arith}
use native.Mathlib.Decide.{ℕ_discrete}
use mathlib.Core.Path.{◌∙◌, ◌≡◌, ap, subst, sym}
use mathlib.Core.Bool.{Bool, ◌||◌, cond, false, not, true}
use mathlib.Core.List.{List, [], ◌∷◌}
use lib.Dec.{T, T_not, eqb}
use lib.IntN.{ℤ}
use lib.ListN.{get_or, set}
use lib.Seq.{get_or-set_other}
use Rattle.area.proofs.Held.{held_numbers}
use Rattle.area.specs.Numbers.{premium_at}
use Rattle.area.specs.Stages.{Stands, raised}
use Rattle.choices.specs.Tests.{looked_at}
use Rattle.choices.specs.Tops.{column_top, column_units}
use Rattle.choices.proofs.Below.{in-column}
use Rattle.choices.proofs.Columns.{column_low}
use Rattle.choices.proofs.Tops.{none_reaches}
use Rattle.game.specs.Grid.{Grid, column_of, mine, safe, size, square, zero_cell}
use Rattle.game.specs.Moves.{after, left}
use Rattle.game.specs.Openings.{unlabelled}
use Rattle.game.specs.Position.{Position, cell_unit, closed, cost, gain, unopened}
use Rattle.game.specs.Rounds.{top_cells}
use Rattle.game.proofs.Counts.{count_mono}
use Rattle.game.proofs.Narrow.{play_left}
use Rattle.game.proofs.Owners.{closed_unopened}
use Rattle.game.proofs.Reveal.{reveal_one}
use Rattle.game.proofs.Truth.{and_both, and_left, and_right}
use Rattle.rounds.proofs.Quiet.{same-cost, same-openings, same_units}

module _ (g : Grid) (s : Position) (i : ℕ) (is_safe : T (safe g i)) (shut : T (closed s i)) (numbered : T (zero_cell g i) → ⊥) where
  -- it alone is opened
  opened_alone : after g s (left i ∷ []) ≡ set s i 1
  opened_alone = play_left g s i is_safe ∙ reveal_one g s i is_safe shut numbered

  other : (j : ℕ) → (j ≡ i → ⊥) → get_or (set s i 1) j 0 ≡ get_or s j 0
  other j n = get_or-set_other s i j 1 0 n

  -- a unit that is closed after it was closed before
  still_closed : (k : ℕ) → T (cell_unit g (set s i 1) k) → T (cell_unit g s k)
  still_closed k t =
      and_both (unlabelled g k) (unopened s k) (and_left (unlabelled g k) (unopened (set s i 1) k) t)
      (elim (ℕ_discrete k i) [
        | yes e ↦ subst (λ (x : ℕ). T (unopened s x)) (sym e) (closed_unopened s i shut)
        | no n ↦ subst (λ (x : ℕ). T (not (eqb x 1))) (other k n) (and_right (unlabelled g k) (unopened (set s i 1) k) t)
      ])

  -- what a chord there gains does not rise
  gain_falls : (j : ℕ) → gain g (set s i 1) j ≤ gain g s j
  unfolding gain
  gain_falls j =
      omega (
        arith,
        same-openings g s (set s i 1) j (λ o f t k u. other k (λ e. numbered (subst (λ (x : ℕ). T (zero_cell g x)) e (f.zero-cell k u).none))),
        count_mono (cell_unit g (set s i 1)) (cell_unit g s) (square g j) still_closed,
      )

  -- nor what it takes change
  cost_stays : (j : ℕ) → (j ≡ i → ⊥) → cost g (set s i 1) j ≡ cost g s j
  cost_stays j n = same-cost g s (set s i 1) j (other j n) (λ k t m. other k (λ e. T_not (mine g i) is_safe (subst (λ (x : ℕ). T (mine g x)) e m)))

  raised_falls : (j : ℕ) → (j ≡ i → ⊥) → raised g (set s i 1) j ≤ raised g s j
  unfolding raised
  raised_falls j n = go (mine g j)
    where
      go : (b : Bool) → cond b 0 (10 + gain g (set s i 1) j - cost g (set s i 1) j) ≤ cond b 0 (10 + gain g s j - cost g s j)
      go true = omega arith
      go false = omega (arith, gain_falls j, cost_stays j n)

  -- ---- in the work area

  module _ (rows columns : ℕ) (old w w' : List ℤ) (st : Stands rows columns g s old w) (st' : Stands rows columns g (after g s (left i ∷ [])) old w')
      (c : ℕ) (inside : c < columns) (beside : c ≡ column_of g i → ⊥) where
    stands : Stands rows columns g (set s i 1) old w'
    stands = subst (λ (p : Position). Stands rows columns g p old w') opened_alone st'

    apart : (j : ℕ) → column_of g j ≡ c → j ≡ i → ⊥
    apart j e q = beside (sym e ∙ ap (column_of g) q)

    -- another column has the closed units that it had
    pub click_units : column_units w' rows c ≡ column_units w rows c
    click_units = same_units rows columns g s (set s i 1) old w w' st stands c inside (λ j l e. other j (apart j e))

    -- and no premium in it reaches 0
    pub click_low : (openedOnly : Bool) → top_cells openedOnly g s ≡ [] → column_top openedOnly w' rows c ≡ column_top openedOnly w rows c
    click_low openedOnly none =
        column_low openedOnly w' rows c (λ row h t. let k = in-column rows columns g st.rows_are st.columns_are row c h inside in after_it (c * rows + row) k.0 (apart (c * rows + row) k.1) t)
        ∙ sym (column_low openedOnly w rows c (λ row h t. before_it (c * rows + row) (in-column rows columns g st.rows_are st.columns_are row c h inside).0 t))
      where
        before_it : (j : ℕ) → j < size g → T (looked_at openedOnly w j) → premium_at w j ≤ 9
        before_it j h t = none_reaches openedOnly rows columns g s old w st none j h t

        after_it : (j : ℕ) → j < size g → (j ≡ i → ⊥) → T (looked_at openedOnly w' j) → premium_at w' j ≤ 9
        after_it j h n t =
            let v = held_numbers rows columns g s old w st in
            let v' = held_numbers rows columns g (set s i 1) old w' stands in
            let same = v'.states j h ∙ other j n ∙ sym (v.states j h) in
            omega (
              arith,
              v'.premiums j h,
              v.premiums j h,
              raised_falls j n,
              before_it j h (subst (λ (k : ℕ). T (not openedOnly || eqb k 1)) same t),
            )
