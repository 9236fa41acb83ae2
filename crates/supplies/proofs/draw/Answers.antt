-- `supplies::draw`: the supply tells what it draws from. Assumes nothing.
use Rattle.supplies.proofs.draw.Goals as goal

pub returns-in-Some-clause-draw_grows : goal.returns-in-Some-clause-draw_grows
returns-in-Some-clause-draw_grows c = rw c.in-Some.is c.draw_of_key.ensures.draw_grows
