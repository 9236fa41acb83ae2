-- `lavgerin::strict::lavgerin_strict_random_round`, a random round: what the call keeps, as its answer tells it. Assumes nothing.
use Rattle.c_answers.proofs.Returns.{returned_list_two}
use Rattle.lavgerin.proofs.strict.lavgerin_strict_random_round.Goals as goal

pub returns : goal.returns
returns c = returned_list_two (rw c.mode_by-mode.ensures at c.random_round-answer.ensures) c.tell_roll.ensures
