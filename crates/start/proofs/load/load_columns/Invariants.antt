-- `start::load::load_columns`: the rows passed are loaded in these columns; all rows are the columns. Assumes nothing.
use Prim.Native.Nat.{ℕ, ◌-◌, ◌≤◌}
use mathlib.Core.Path.{◌≡◌}
use mathlib.Core.List.{List}
use lib.IntN.{ℤ}
use lib.ListN.{length}
use Rattle.game.specs.Lists.{range, fold}
use Rattle.area.specs.Numbers.{grid_of}
use Rattle.area.specs.Squares.{row_cells}
use Rattle.start.specs.Passes.{load_cell}
use Rattle.start.proofs.load.load_columns.Given as goal

-- a row is loaded in the columns from a to before b
abbrev pub in_row : ℕ → ℕ → List ℤ → ℕ → ℕ → List ℤ → ℕ → List ℤ
in_row rows columns grid a b w row = fold (load_cell (grid_of rows columns grid)) w (row_cells rows row a b)

abbrev pub invariant-loop-row : goal.invariant-loop-row
invariant-loop-row l =
    (l.row ≤ l.rows) × (l.work ≡ fold (in_row l.rows l.columns l.grid l.from l.to) l.initial.work (range 0 l.row)) × (length l.work ≡ length l.initial.work)

abbrev pub decreases-loop-row : goal.decreases-loop-row
decreases-loop-row l = l.rows - l.row
