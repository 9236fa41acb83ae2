-- `lavgerin::strict::lavgerin_strict_at_least`, whether 3BV is at least so many units: what the call keeps, as its answer tells it. Assumes nothing.
use Rattle.c_answers.proofs.Returns.{returned}
use Rattle.lavgerin.proofs.strict.lavgerin_strict_at_least.Goals as goal

pub returns : goal.returns
returns c = returned c.at_least-answer.ensures c.tell_enough.ensures
