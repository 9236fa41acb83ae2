-- `play::sweep_cell`: another opening's cell is left, a closed one opened, an opened one counts an opening less. Assumes nothing.
use Rattle.play.proofs.Steps.{sweep_closed, sweep_opened, sweep_other}
use Rattle.play.proofs.sweep_cell.Goals as goal

pub returns-then-not-labelled : goal.returns-then-not-labelled
returns-then-not-labelled c = let a = c.args in
    sweep_other a.label a.work.now a.index c.labelled.result c.labelled.ensures c.if-not-labelled.true

pub returns-then-state-eq0 : goal.returns-then-state-eq0
returns-then-state-eq0 c = let a = c.args in
    sweep_closed a.label a.work.now a.index c.labelled.result c.labelled.ensures c.state-state.result c.put_state.new.work
    c.if-not-labelled.false c.state-state.ensures.0 c.if-state-eq0.true c.put_state.ensures

pub returns : goal.returns
returns c = let a = c.args in
    sweep_opened a.label a.work.now a.index c.labelled.result c.labelled.ensures c.state-state.result c.premium-premium.result c.saturating_sub.result c.put_premium.new.work
    c.if-not-labelled.false c.state-state.ensures.0 c.if-state-eq0.false c.premium-premium.ensures.0 c.saturating_sub.ensures c.put_premium.ensures
