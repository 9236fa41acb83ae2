-- `replay::makes::make_flag`: a cell that isn't closed is refused; any other is flagged. Assumes nothing.
use Rattle.replay.proofs.Making.{flag_played, flag_refused}
use Rattle.replay.proofs.makes.make_flag.Goals as goal

pub returns-then-state-ne0 : goal.returns-then-state-ne0
returns-then-state-ne0 c = let a = c.args in
    let n = c.state-state in
    λ g s old t k. flag_refused a.rows a.columns g s old a.work.now a.index c.requires.has_cells.1 t n.result n.ensures.0 c.if-state-ne0.true

pub returns : goal.returns
returns c = let a = c.args in
    let n = c.state-state in
    let p = c.put_state in
    λ g s old t k. flag_played a.rows a.columns g s old a.work.now a.index c.requires.has_cells.1 t n.result a.left p.new.work n.ensures.0 c.if-state-ne0.false p.ensures k
