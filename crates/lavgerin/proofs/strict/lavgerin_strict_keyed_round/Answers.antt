-- `lavgerin::strict::lavgerin_strict_keyed_round`, a keyed round in its strict form: what the call keeps, as its answer tells it. Assumes nothing.
use Rattle.c_answers.proofs.Returns.{returned_list_key}
use Rattle.lavgerin.proofs.strict.lavgerin_strict_keyed_round.Goals as goal

pub returns : goal.returns
returns c = returned_list_key (rw (c.mode_by-mode.ensures, c.key_by-given.ensures) at c.keyed_round-answer.ensures) _ c.tell_keyed.ensures
