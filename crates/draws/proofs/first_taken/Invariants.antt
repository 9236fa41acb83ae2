-- `draws::first_taken`: each word so far was spent, so the rest of the words decides. Assumes nothing.
use Rattle.draws.proofs.Words.{Midway}
use Rattle.draws.proofs.first_taken.Given as goal

abbrev pub invariant-loop-k : goal.invariant-loop-k
invariant-loop-k l = Midway l.bytes l.n l.bound l.at l.words l.k
