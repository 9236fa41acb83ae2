-- `label`: once the columns before one were looked at, the openings that begin in them are labelled; the columns left fall. Assumes nothing.
use Prim.Native.Nat.{◌*◌, ◌-◌, ◌≤◌}
use mathlib.Core.Path.{◌≡◌}
use lib.ListN.{length}
use Rattle.openings.specs.Numbering.{Numbered}
use Rattle.openings.proofs.label.Given as goal

abbrev pub invariant-loop-column : goal.invariant-loop-column
invariant-loop-column l =
    (l.column ≤ l.columns) × (length l.work ≡ length l.initial.work) × (l.count ≤ l.column * l.rows) × Numbered l.rows l.columns l.initial.work (l.column * l.rows) l.count l.work

abbrev pub decreases-loop-column : goal.decreases-loop-column
decreases-loop-column l = l.columns - l.column
