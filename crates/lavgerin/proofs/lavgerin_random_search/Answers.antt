-- `lavgerin::lavgerin_random_search`, random search: what the call keeps, as its answer tells it. Assumes nothing.
use Rattle.c_answers.proofs.Returns.{returned_two}
use Rattle.lavgerin.proofs.lavgerin_random_search.Goals as goal

pub returns : goal.returns
returns c = returned_two (rw c.mode_by-mode.ensures at c.random_search-answer.ensures) c.tell_roll.ensures
