-- `mbf_write::put_mines`: the bytes put so far are those of the columns passed. Assumes nothing.
use Prim.Native.Nat.{◌-◌, ◌*◌, ◌≤◌}
use mathlib.Core.Path.{◌≡◌}
use lib.ListN.{length}
use Rattle.area.specs.Numbers.{grid_of}
use Rattle.mbf_write.specs.Mines.{Listed}
use Rattle.mbf_write.proofs.put_mines.Given as goal

abbrev pub invariant-loop-column : goal.invariant-loop-column
invariant-loop-column l =
    (l.column ≤ l.columns) × (length l.file ≡ length l.initial.file) × Listed (grid_of l.rows l.columns l.grid) 0 (l.column * l.rows) l.initial.file 4 l.file l.next

abbrev pub decreases-loop-column : goal.decreases-loop-column
decreases-loop-column l = l.columns - l.column
