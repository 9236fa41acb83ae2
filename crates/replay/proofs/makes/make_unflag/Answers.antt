-- `replay::makes::make_unflag`: a cell without flag is refused; from any other it is taken away. Assumes nothing.
use Rattle.replay.proofs.Making.{unflag_played, unflag_refused}
use Rattle.replay.proofs.makes.make_unflag.Goals as goal

pub returns-then-state-ne2 : goal.returns-then-state-ne2
returns-then-state-ne2 c = let a = c.args in
    let n = c.state-state in
    λ g s old t k. unflag_refused a.rows a.columns g s old a.work.now a.index c.requires.has_cells.1 t n.result n.ensures.0 c.if-state-ne2.true

pub returns : goal.returns
returns c = let a = c.args in
    let n = c.state-state in
    let p = c.put_state in
    λ g s old t k. unflag_played a.rows a.columns g s old a.work.now a.index c.requires.has_cells.1 t n.result a.left p.new.work n.ensures.0 c.if-state-ne2.false p.ensures k
