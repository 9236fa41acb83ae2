-- `moves::opening_clicks::hit`: the content that is read says whether the number is 0. Assumes nothing.
use Rattle.moves.proofs.Hits.{hit_none, hit_zero}
use Rattle.moves.proofs.opening_clicks.hit.Goals as goal

pub returns-then-content-ne1-clause-over : goal.returns-then-content-ne1-clause-over
returns-then-content-ne1-clause-over c =
    let a = c.args in
    hit_none a.rows a.columns a.work.now a.list.now a.state a.index c.requires.has_cells.1 c.content.result c.content.ensures.0 c.if-content-ne1.true

pub returns-clause-over : goal.returns-clause-over
returns-clause-over c =
    let a = c.args in
    let y = c.click_closed in
    hit_zero a.rows a.columns a.work.now a.list.now a.state a.index c.requires.has_cells.1 c.content.result c.content.ensures.0
    y.new.work y.new.list y.result c.if-content-ne1.false y.ensures.made
