-- `lavgerin::lavgerin_write_mbf`, a file written: what the call keeps, as its answer tells it. Assumes nothing.
use Rattle.c_answers.proofs.Returns.{returned_run}
use Rattle.lavgerin.proofs.lavgerin_write_mbf.Goals as goal

pub returns : goal.returns
returns c = returned_run c.write-answer.ensures c.tell_count.ensures
