-- `spread::visit`: a cell that is not closed stays; a closed one is opened, and a 0-cell has a place to wait at. Assumes nothing.
use native.Mathlib.Omega.{arith}
use Rattle.spread.proofs.Visits.{visit_number, visit_still, visit_zero}
use Rattle.spread.proofs.visit.Goals as goal

pub returns-then-state-ne0 : goal.returns-then-state-ne0
returns-then-state-ne0 c =
    let a = c.args in
    visit_still a.work.now a.progress.waiting a.progress.opened a.index c.state.result c.state.ensures.0 (λ e. absurd (omega arith))

pub returns-then-content-ne1 : goal.returns-then-content-ne1
returns-then-content-ne1 c =
    let a = c.args in
    visit_number a.work.now a.progress.waiting a.progress.opened a.index c.state.result c.content-content.result c.state.ensures.0 (omega arith)
    c.content-content.ensures.0 c.put_state.new.work c.put_state.ensures c.if-content-ne1.true

pub returns : goal.returns
returns c =
    let a = c.args in
    visit_zero a.work.now a.progress.waiting a.progress.opened a.index c.state.result c.content-content.result c.state.ensures.0 (omega arith)
    c.content-content.ensures.0 c.put_state.new.work c.put_state.ensures c.put_waiting.new.work c.put_waiting.ensures c.if-content-ne1.false
