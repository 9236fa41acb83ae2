-- `play::sweep`: what stands after so many cells is the sweep of the run so far. Assumes nothing.
use Prim.Native.Nat.{◌≤◌, ◌-◌}
use Rattle.play.specs.Walks.{RunSwept}
use Rattle.play.proofs.sweep.Given as goal

abbrev pub invariant-loop-index : goal.invariant-loop-index
invariant-loop-index l =
    (l.found ≤ l.index - l.first) × RunSwept l.label l.first l.index l.initial.work l.found l.work
