-- `lavgerin::lavgerin_replay`, replay: what the call keeps, as its answer tells it. Assumes nothing.
use Rattle.c_answers.proofs.Returns.{returned_three}
use Rattle.lavgerin.proofs.lavgerin_replay.Goals as goal

pub returns : goal.returns
returns c = returned_three c.replay-answer.ensures c.tell_played.ensures
