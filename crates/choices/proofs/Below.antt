-- No closed unit below a place, one cell after the other; a cell and its column; what the search has found when it ends. Assumes nothing.
use Prim.Native.Nat.{ℕ, ◌*◌, ◌+◌, ◌<◌}
use native.Mathlib.Omega.{arith}
use native.Mathlib.Nat.{mul_comm}
use native.Mathlib.Decide.{ℕ_discrete}
use mathlib.Core.Path.{◌∙◌, ◌≡◌, ap, ap₂, subst, sym}
use mathlib.Core.Bool.{false, true}
use mathlib.Core.List.{List}
use lib.Dec.{T}
use lib.IntN.{ℤ}
use Rattle.area.proofs.Held.{held_numbers}
use Rattle.area.specs.Stages.{Stands}
use Rattle.area.proofs.Cells.{cell_below}
use Rattle.std.specs.Prelude.{Option, Some, None}
use Rattle.choices.specs.Picks.{found_column, found_first}
use Rattle.choices.specs.Tests.{NoUnitBelow, unit_at}
use Rattle.game.specs.Grid.{Grid, column_of, index, size}
use Rattle.game.specs.Lists.{keep, range}
use Rattle.game.specs.Position.{Position}
use Rattle.game.specs.Rounds.{unit_cells}
use Rattle.game.proofs.Squares.{index-column, index-lt}
use Rattle.choices.proofs.Held.{units_there}
use Rattle.choices.proofs.Passing.{found_at, found_none}

pub one_more : (w : List ℤ) (k m : ℕ) → NoUnitBelow w k → unit_at w k ≡ false → m ≡ k + 1 → NoUnitBelow w m
one_more w k m n e r = record { none = go }
  where
    go : (j : ℕ) → j < m → T (unit_at w j) → ⊥
    go j h t =
        elim (ℕ_discrete j k) [
          | yes q ↦ subst T e (rw q at t)
          | no q ↦ n.none j (omega arith) t
        ]

-- ---- what is found

-- the cell in a row of a column
pub in-column : (rows columns : ℕ) (g : Grid) → g.rows ≡ rows → g.columns ≡ columns → (row c : ℕ) → row < rows → c < columns
    → (c * rows + row < size g) × (column_of g (c * rows + row) ≡ c)
in-column rows columns g r q row c h k =
    let l : row < g.rows = omega arith in
    let e : index g row c ≡ c * rows + row = ap (λ (n : ℕ). c * n + row) r in
    (subst (λ (n : ℕ). n < size g) e (index-lt g row c l (omega arith)), sym (ap (column_of g) e) ∙ index-column g row c l)

-- the cell is the first closed unit, and the column is its own
abbrev pub IsLowest : ℕ → ℕ → List ℤ → Option ℕ → ℕ → Type 0
IsLowest rows columns w found column =
    (g : Grid) (s : Position) (old : List ℤ) → Stands rows columns g s old w → (found ≡ found_first (unit_cells g s)) × (column ≡ found_column g found)

module _ (rows columns : ℕ) (w : List ℤ) where
  -- the cells that were searched are those of the grid
  all_cells : (g : Grid) (s : Position) (old : List ℤ) → Stands rows columns g s old w → unit_cells g s ≡ keep (unit_at w) (range 0 (rows * columns))
  all_cells g s old t =
      units_there g s w (held_numbers rows columns g s old w t)
      ∙ ap (λ (k : ℕ). keep (unit_at w) (range 0 k)) (ap₂ ◌*◌ t.rows_are t.columns_are)

  -- past the last column
  pub none_lowest : NoUnitBelow w (columns * rows) → IsLowest rows columns w None columns
  none_lowest n g s old t = (
    found_none (unit_at w) (rows * columns) (λ j h. n.none j (omega (arith, mul_comm columns rows))) ∙ sym (ap found_first (all_cells g s old t)),
    sym t.columns_are,
  )

  -- at the first closed unit
  pub at_lowest : (column row : ℕ) → column < columns → row < rows → true ≡ unit_at w (column * rows + row) → NoUnitBelow w (column * rows + row)
      → IsLowest rows columns w (Some (column * rows + row)) column
  at_lowest column row h k u n g s old t = (
    found_at (unit_at w) (rows * columns) (column * rows + row) (cell_below rows columns row column k h) (subst T u tt) n.none ∙ sym (ap found_first (all_cells g s old t)),
    sym (in-column rows columns g t.rows_are t.columns_are row column k h).1,
  )
