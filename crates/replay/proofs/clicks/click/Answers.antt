-- `replay::clicks::click`: each branch by what is read of the cell. Assumes nothing.
use Rattle.replay.proofs.Clicking.{clicked_mine, clicked_number, clicked_safe, clicked_still}
use Rattle.replay.proofs.clicks.click.Goals as goal

pub returns-then-not-mines : goal.returns-then-not-mines
returns-then-not-mines c = let a = c.args in
    let q = c.reveal-opened in
    clicked_safe a.rows a.columns a.mines a.work.now a.index c.requires.has_cells.1 a.left q.result c.saturating_sub.result q.new.work
    c.if-not-mines.true q.ensures c.saturating_sub.ensures

pub returns-then-content-ne0 : goal.returns-then-content-ne0
returns-then-content-ne0 c = let a = c.args in
    let k = c.content in
    clicked_number a.rows a.columns a.mines a.work.now a.index c.requires.has_cells.1 a.left k.result c.if-not-mines.false k.ensures.0 c.if-content-ne0.true

pub returns-then-state-ne0 : goal.returns-then-state-ne0
returns-then-state-ne0 c = let a = c.args in
    let k = c.state in
    clicked_still a.rows a.columns a.mines a.work.now a.index c.requires.has_cells.1 a.left k.result c.if-not-mines.false k.ensures.0 c.if-state-ne0.true

pub returns : goal.returns
returns c = let a = c.args in
    let k = c.content in
    let n = c.state in
    let p = c.put_state in
    clicked_mine a.rows a.columns a.mines a.work.now a.index c.requires.has_cells.1 a.left k.result n.result p.new.work
    c.if-not-mines.false k.ensures.0 c.if-content-ne0.false n.ensures.0 c.if-state-ne0.false p.ensures
