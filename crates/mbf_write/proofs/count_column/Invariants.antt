-- `mbf_write::count_column`: the mines counted so far are those of the rows passed. Assumes nothing.
use Prim.Native.Nat.{◌+◌, ◌-◌, ◌*◌, ◌≤◌}
use mathlib.Core.Path.{◌≡◌}
use lib.ListN.{length}
use Rattle.area.specs.Numbers.{grid_of}
use Rattle.mbf_write.specs.Mines.{mines_from}
use Rattle.mbf_write.proofs.count_column.Given as goal

abbrev pub invariant-loop-row : goal.invariant-loop-row
invariant-loop-row l =
    (l.row ≤ l.rows) × (l.mines ≤ l.row) × (l.mines ≡ length (mines_from (grid_of l.rows l.columns l.grid) (l.column * l.rows) (l.column * l.rows + l.row)))

abbrev pub decreases-loop-row : goal.decreases-loop-row
decreases-loop-row l = l.rows - l.row
