-- `play::sweep_right`: the columns passed are one run of cells; a column without the label ends the walk. Assumes nothing.
use Prim.Native.Nat.{◌*◌}
use Rattle.play.specs.Walks.{SweptOver}
use Rattle.play.proofs.sweep_right.Given as goal

abbrev pub invariant-loop-right : goal.invariant-loop-right
invariant-loop-right l =
    SweptOver l.label (l.column * l.rows) (l.right * l.rows) l.initial.work l.work
