-- `lavgerin::lavgerin_keyed_search`, a keyed search: what the call keeps, as its answer tells it. Assumes nothing.
use Rattle.c_answers.proofs.Returns.{returned_key}
use Rattle.lavgerin.proofs.lavgerin_keyed_search.Goals as goal

pub returns : goal.returns
returns c = returned_key (rw (c.mode_by-mode.ensures, c.key_by-given.ensures) at c.keyed_search-answer.ensures) _ c.tell_keyed.ensures
