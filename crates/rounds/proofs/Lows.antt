-- What is closed after moves was closed before, so the lowest closed unit never moves back, and the column that a step hands on has none before it. Assumes nothing.
use Prim.Native.Nat.{ℕ, ◌*◌, ◌+◌, ◌<◌, ◌≤◌}
use native.Mathlib.Omega.{arith}
use native.Mathlib.Nat.{mul-le-mul_right}
use mathlib.Core.Path.{◌∙◌, ◌≡◌, ap, ap₂, subst, sym}
use mathlib.Core.Bool.{Bool, ◌&&◌, ◌||◌}
use mathlib.Core.List.{List, [], ◌∷◌}
use lib.Dec.{T}
use lib.IntN.{ℤ}
use lib.ListN.{get_or, length}
use Rattle.area.proofs.Held.{held_numbers}
use Rattle.area.specs.Stages.{Stands}
use Rattle.choices.specs.Tests.{NoUnitBelow, unit_at}
use Rattle.game.specs.Grid.{Grid, cells, column_of, row_of, safe, size, zero_cell}
use Rattle.game.specs.Moves.{after}
use Rattle.game.specs.Openings.{unlabelled}
use Rattle.game.specs.Position.{Position, Tidy, closed, closed_units}
use Rattle.game.specs.Rounds.{Choice, after_step, choice, chords, clicks, closed_unit_cell, step_of, top_cells, unit_cells, width}
use Rattle.choices.proofs.Held.{unit_there}
use Rattle.choices.proofs.Passing.{first_there}
use Rattle.game.proofs.Choices.{never_stuck}
use Rattle.game.proofs.Falls.{step_fewer}
use Rattle.game.proofs.Members.{get_d_has, keep_has}
use Rattle.game.proofs.Reveal.{Fewer}
use Rattle.game.proofs.Rounds.{safe_left}
use Rattle.game.proofs.Runs.{choice_fits}
use Rattle.game.proofs.Squares.{cells→, column_lt, index_of}
use Rattle.game.proofs.Truth.{and_both, and_left, and_right}
use Rattle.rounds.specs.Promises.{column_after}

-- no closed unit comes back below a place
pub low_stays : (rows columns : ℕ) (g : Grid) (s : Position) (old w w' : List ℤ) (t : Position) (k : ℕ) → Stands rows columns g s old w → Stands rows columns g t old w'
    → Fewer s t → k ≤ rows * columns → NoUnitBelow w k → NoUnitBelow w' k
low_stays rows columns g s old w w' t k st st' fewer h n = record { none = on }
  where
    on : (j : ℕ) → j < k → T (unit_at w' j) → ⊥
    on j b a =
        let ins : j < size g = omega (arith, ap₂ ◌*◌ st.rows_are st.columns_are) in
        let u : T (closed_unit_cell g t j) = subst T (sym (unit_there g t w' (held_numbers rows columns g t old w' st') j ins)) a in
        let f = and_left (safe g j && closed t j) (zero_cell g j || unlabelled g j) u in
        let c = fewer j (and_right (safe g j) (closed t j) f) in
        n.none j b (subst T (unit_there g s w (held_numbers rows columns g s old w st) j ins)
        (and_both (safe g j && closed s j) (zero_cell g j || unlabelled g j) (and_both (safe g j) (closed s j) (and_left (safe g j) (closed t j) f) c)
        (and_right (safe g j && closed t j) (zero_cell g j || unlabelled g j) u)))

-- ---- the column that is handed on

-- that of the first closed unit lies on the grid, and there is none before it
first_low : (rows columns : ℕ) (g : Grid) (s : Position) (old w : List ℤ) → Stands rows columns g s old w → 1 ≤ length (unit_cells g s)
    → (column_of g (get_or (unit_cells g s) 0 0) ≤ columns) × NoUnitBelow w (column_of g (get_or (unit_cells g s) 0 0) * rows)
unfolding unit_cells
first_low rows columns g s old w st h =
    let i = get_or (unit_cells g s) 0 0 in
    let u = keep_has (closed_unit_cell g s) i (cells g) (get_d_has (unit_cells g s) 0 h) in
    let first = first_there (closed_unit_cell g s) 0 (size g) i (omega arith) (cells→ g i u.0) u.1 in
    let low : column_of g i * rows + row_of g i ≡ i = ap (λ (k : ℕ). column_of g i * k + row_of g i) (sym st.rows_are) ∙ index_of g i in (
      omega (arith, column_lt g i first.1, st.columns_are),
      record {
        none = λ j l t. first.3 j (omega arith) (omega (arith, low))
            (subst T (sym (unit_there g s w (held_numbers rows columns g s old w st) j (omega (arith, low, first.1)))) t);
      },
    )

-- the column lies on the grid after the step too, and no closed unit comes back before it
pub low_goes_on : (openedOnly : Bool) (rows columns : ℕ) (g : Grid) (s : Position) (old w w' : List ℤ) (from to : ℕ) → Stands rows columns g s old w → Tidy g s
    → Stands rows columns g (after g s (step_of g s (choice openedOnly g s) 0).moves) old w' → 1 ≤ closed_units g s → to ≡ column_after g (choice openedOnly g s) from
    → (from ≤ columns) × NoUnitBelow w (from * rows) → (to ≤ columns) × NoUnitBelow w' (to * rows)
unfolding choice
low_goes_on openedOnly rows columns g s old w w' from to st f st' h e n =
    let some = never_stuck openedOnly g s f (safe_left g s f h) in
    let k : (to ≤ columns) × NoUnitBelow w (to * rows) = rw e (go (top_cells openedOnly g s) some) in (
      k.0,
      low_stays rows columns g s old w w' (after_step g s (step_of g s (choice openedOnly g s) 0)) (to * rows) st st'
          (step_fewer g s (step_of g s (choice openedOnly g s) 0) f (choice_fits openedOnly g s 0 some)) (omega (arith, mul-le-mul_right rows k.0)) k.1,
    )
  where
    go : (ts : List ℕ) → 1 ≤ width (elim ts as (λ _. Choice) [ [] ↦ clicks (unit_cells g s) | x ∷ xs ↦ chords (x ∷ xs) ])
        → let c = column_after g (elim ts as (λ _. Choice) [ [] ↦ clicks (unit_cells g s) | x ∷ xs ↦ chords (x ∷ xs) ]) from in (c ≤ columns) × NoUnitBelow w (c * rows)
    go [] l = first_low rows columns g s old w st l
    go (x ∷ xs) l = n
