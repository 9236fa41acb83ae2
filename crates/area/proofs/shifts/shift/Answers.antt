-- `area::shifts::shift`: a mine is left; a safe cell's premium is put. Assumes nothing.
use Rattle.area.proofs.Shifting.{shift_mine, shift_safe}
use Rattle.area.proofs.shifts.shift.Goals as goal

pub returns-then-content-eq0 : goal.returns-then-content-eq0
returns-then-content-eq0 c = let a = c.args in
    shift_mine a.up a.down a.work.now a.index c.content.result c.content.ensures.0 c.if-content-eq0.true

pub returns : goal.returns
returns c = let p = c.before in
    let q = p.before in
    let g = q.before.before in
    let a = c.args in
    shift_safe a.up a.down a.work.now a.index c.content.result c.content.ensures.0 c.premium-raised.result c.saturating_sub.result
    c.put_premium.new.work c.if-content-eq0.false c.premium-raised.ensures.0 c.saturating_sub.ensures c.put_premium.ensures
