-- `lavgerin::lavgerin_three_bv`, 3BV: what the call keeps, as its answer tells it. Assumes nothing.
use Rattle.c_answers.proofs.Returns.{returned}
use Rattle.lavgerin.proofs.lavgerin_three_bv.Goals as goal

pub returns : goal.returns
returns c = returned c.three_bv-answer.ensures c.tell_count.ensures
