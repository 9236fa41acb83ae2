-- `start::load::load_row`: the columns passed are loaded, and the sums carried are those before the column. Assumes nothing.
use Prim.Native.Nat.{◌-◌, ◌≤◌}
use mathlib.Core.Path.{◌≡◌}
use lib.ListN.{length}
use Rattle.game.specs.Lists.{fold}
use Rattle.area.specs.Numbers.{grid_of}
use Rattle.area.specs.Squares.{row_cells}
use Rattle.mine_sums.specs.Carried.{Before}
use Rattle.start.specs.Passes.{load_cell}
use Rattle.start.proofs.load.load_row.Given as goal

abbrev pub invariant-loop-column : goal.invariant-loop-column
invariant-loop-column l =
    (l.from ≤ l.column) × (l.column ≤ l.to) × (l.work ≡ fold (load_cell (grid_of l.rows l.columns l.grid)) l.initial.work (row_cells l.rows l.row l.from l.column)) × (length l.work ≡ length l.initial.work)
    × Before (grid_of l.rows l.columns l.grid) l.row l.column l.sums

abbrev pub decreases-loop-column : goal.decreases-loop-column
decreases-loop-column l = l.to - l.column
