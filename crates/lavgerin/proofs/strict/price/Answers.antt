-- `lavgerin::strict::price`, greedy or openings-first: what the call keeps, as its answer tells it. Assumes nothing.
use Rattle.c_answers.proofs.Returns.{returned_list}
use Rattle.lavgerin.proofs.strict.price.Goals as goal

pub returns : goal.returns
returns c = returned_list c.price-answer.ensures c.tell_count.ensures
