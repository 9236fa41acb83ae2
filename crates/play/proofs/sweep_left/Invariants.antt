-- `play::sweep_left`: the columns passed are one run of cells; a column without the label ends the walk. Assumes nothing.
use Prim.Native.Nat.{◌+◌, ◌*◌}
use Rattle.play.specs.Walks.{SweptOver}
use Rattle.play.proofs.sweep_left.Given as goal

abbrev pub invariant-loop-left : goal.invariant-loop-left
invariant-loop-left l =
    SweptOver l.label (l.left * l.rows) (l.column * l.rows + l.rows) l.initial.work l.work
