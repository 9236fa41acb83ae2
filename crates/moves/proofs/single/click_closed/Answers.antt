-- `moves::single::click_closed`: the state that is read says whether the cell is closed. Assumes nothing.
use Rattle.moves.proofs.Acted.{left_none, left_one}
use Rattle.moves.proofs.single.click_closed.Goals as goal

pub returns-then-state-ne0-clause-made : goal.returns-then-state-ne0-clause-made
returns-then-state-ne0-clause-made c =
    let a = c.args in
    λ g s old st f t e. left_none a.rows a.columns g s old a.work.now a.index c.requires.has_cells.1 st c.state.result a.list.now a.state c.state.ensures.0 c.if-state-ne0.true f e

pub returns-clause-made : goal.returns-clause-made
returns-clause-made c =
    let a = c.args in
    λ g s old st f t e. left_one a.rows a.columns g s old a.work.now a.index c.requires.has_cells.1 st c.state.result a.list.now a.state
    c.click.new.work c.click.new.list c.click.result c.state.ensures.0 c.if-state-ne0.false (λ u. c.click.ensures.made g s old st f t u e)
