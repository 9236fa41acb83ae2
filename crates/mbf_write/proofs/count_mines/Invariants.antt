-- `mbf_write::count_mines`: the mines counted so far are those of the columns passed. Assumes nothing.
use Prim.Native.Nat.{◌-◌, ◌*◌, ◌≤◌}
use mathlib.Core.Path.{◌≡◌}
use lib.ListN.{length}
use Rattle.area.specs.Numbers.{grid_of}
use Rattle.mbf_write.specs.Mines.{mines_from}
use Rattle.mbf_write.proofs.count_mines.Given as goal

abbrev pub invariant-loop-column : goal.invariant-loop-column
invariant-loop-column l = (l.column ≤ l.columns) × (l.mines ≡ length (mines_from (grid_of l.rows l.columns l.grid) 0 (l.column * l.rows)))

abbrev pub decreases-loop-column : goal.decreases-loop-column
decreases-loop-column l = l.columns - l.column
