-- `walk`: the cells below the index were looked at, and so many units lack. Assumes nothing.
use Rattle.early.proofs.Looked.{Looked}
use Rattle.early.proofs.walks.walk.Given as goal

abbrev pub invariant-loop-index : goal.invariant-loop-index
invariant-loop-index l = Looked l.rows l.columns l.cells l.limit l.units l.initial.work l.index l.tally l.work
