-- `early::walks::labelled_in`: no cell passed is a 0-cell with a label. Assumes nothing.
use mathlib.Core.Path.{◌≡◌}
use mathlib.Core.Bool.{false}
use Rattle.game.specs.Lists.{range, some_of}
use Rattle.early.specs.Walks.{labelled_zero}
use Rattle.early.proofs.walks.labelled_in.Given as goal

abbrev pub invariant-loop-index : goal.invariant-loop-index
invariant-loop-index l =
    some_of (labelled_zero l.work) (range l.first l.index) ≡ false
