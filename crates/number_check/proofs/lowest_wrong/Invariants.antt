-- `number_check::lowest_wrong`: the lowest cell at fault of the rows passed. Assumes nothing.
use Prim.Native.Nat.{◌-◌, ◌≤◌}
use Rattle.area.specs.Numbers.{grid_of}
use Rattle.number_check.proofs.Rows.{SoFar}
use Rattle.number_check.proofs.lowest_wrong.Given as goal

abbrev pub invariant-loop-row : goal.invariant-loop-row
invariant-loop-row l = (l.row ≤ l.rows) × SoFar (grid_of l.rows l.columns l.grid) l.row l.limit l.lowest

abbrev pub decreases-loop-row : goal.decreases-loop-row
decreases-loop-row l = l.rows - l.row
