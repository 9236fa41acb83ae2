-- `start::begin::reset`: laid and raised again, one after the other. Assumes nothing.
use Rattle.start.proofs.Begun.{begun_again_by}
use Rattle.start.proofs.begin.reset.Goals as goal

pub returns : goal.returns
returns c =
    let raise = c.before in
    let a = c.args in
    λ g s old t.
    begun_again_by a.rows a.columns g s old a.work.now c.lay.new.work c.raise_all.new.work t c.lay.ensures.0 c.raise_all.ensures
