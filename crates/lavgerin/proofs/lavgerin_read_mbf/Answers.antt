-- `lavgerin::lavgerin_read_mbf`, a file read: what the call keeps, as its answer tells it. Assumes nothing.
use Rattle.c_answers.proofs.Returns.{returned_grid}
use Rattle.lavgerin.proofs.lavgerin_read_mbf.Goals as goal

pub returns : goal.returns
returns c = returned_grid c.read-answer.ensures c.tell_board.ensures
