-- `replay::makes::make_left`: a cell that isn't closed is refused; any other is clicked, as a safe cell and as a mine. Assumes nothing.
use Rattle.replay.proofs.Making.{left_played, left_refused}
use Rattle.replay.proofs.makes.make_left.Goals as goal

pub returns-then-state-ne0 : goal.returns-then-state-ne0
returns-then-state-ne0 c = let a = c.args in
    let n = c.state in
    λ g s old t k. left_refused a.rows a.columns g s old a.work.now a.index c.requires.has_cells.1 t n.result n.ensures.0 c.if-state-ne0.true

pub returns : goal.returns
returns c = let a = c.args in
    let n = c.state in
    let q = c.click-shown in
    let p = c.click-clicked in
    λ g s old t k. left_played a.rows a.columns g s old a.work.now a.index c.requires.has_cells.1 t n.result a.left q.result p.result q.new.work p.new.work
    n.ensures.0 c.if-state-ne0.false q.ensures p.ensures k
