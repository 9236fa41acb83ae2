-- `late_premiums::lay`: the passes one after the other. Assumes nothing.
use Rattle.late_premiums.proofs.Laid.{late_stands}
use Rattle.late_premiums.proofs.lay.Goals as goal

pub returns : goal.returns
returns c =
    let raise = c.before in
    let halve = raise.before.before.before in
    let lay = halve.before.before.before in
    let a = c.args in
    λ g s old t.
    late_stands a.rows a.columns g s old a.work.now c.mark_all.new.work c.lay_all.new.work c.halve_all.new.work c.raise_all.new.work t
    c.mark_all.ensures c.lay_all.ensures c.halve_all.ensures c.raise_all.ensures
