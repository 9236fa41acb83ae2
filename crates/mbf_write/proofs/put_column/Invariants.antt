-- `mbf_write::put_column`: the bytes put so far are those of the rows passed. Assumes nothing.
use Prim.Native.Nat.{◌+◌, ◌-◌, ◌*◌, ◌≤◌}
use mathlib.Core.Path.{◌≡◌}
use lib.ListN.{length}
use Rattle.area.specs.Numbers.{grid_of}
use Rattle.mbf_write.specs.Mines.{Listed}
use Rattle.mbf_write.proofs.put_column.Given as goal

abbrev pub invariant-loop-row : goal.invariant-loop-row
invariant-loop-row l =
    (l.row ≤ l.rows) × (length l.file ≡ length l.initial.file) × Listed (grid_of l.rows l.columns l.grid) (l.column * l.rows) (l.column * l.rows + l.row) l.initial.file l.at l.file l.next

abbrev pub decreases-loop-row : goal.decreases-loop-row
decreases-loop-row l = l.rows - l.row
