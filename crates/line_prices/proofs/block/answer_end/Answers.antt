-- `line_prices::block::answer_end`: refused as the checks say, else the line that goes on answered. Assumes nothing.
use native.Mathlib.Omega.{arith}
use Rattle.game.specs.Calls.{trace, work}
use Rattle.line_prices.specs.Bytes.{desk_at}
use Rattle.line_prices.proofs.Verdict.{end_answered, end_empty, end_refused, fine, many_kept, short_held, short_out}
use Rattle.line_prices.proofs.block.answer_end.Goals as goal

pub returns-then-held-lt517 : goal.returns-then-held-lt517
returns-then-held-lt517 c =
    let a = c.args in
    end_refused a.held.now a.count a.out.now work (short_held a.held.now a.count a.out.now 1 c.if-held-lt517.true)

pub returns-then-count-gt517 : goal.returns-then-count-gt517
returns-then-count-gt517 c =
    let a = c.args in
    end_refused a.held.now a.count a.out.now work (many_kept a.held.now a.count a.out.now 1 c.if-held-lt517.false c.if-count-gt517.true)

pub returns-then-out-lt15 : goal.returns-then-out-lt15
returns-then-out-lt15 c =
    let a = c.args in
    end_refused a.held.now a.count a.out.now trace (short_out a.held.now a.count a.out.now 1 c.if-held-lt517.false c.if-count-gt517.false (omega (arith, c.if-out-lt15.true)))

pub returns-then-count-eq0 : goal.returns-then-count-eq0
returns-then-count-eq0 c =
    let a = c.args in
    end_empty a.held.now a.count a.out.now (fine a.held.now a.count a.out.now 1 c.if-held-lt517.false c.if-count-gt517.false (omega (arith, c.if-out-lt15.false))) (omega (arith, c.if-count-eq0.true))

pub returns : goal.returns
returns c =
    let a = c.args in
    let r = c.end_line in
    end_answered a.held.now a.count a.out.now (desk_at a.held.now r.result r.new.out)
    (fine a.held.now a.count a.out.now 1 c.if-held-lt517.false c.if-count-gt517.false (omega (arith, c.if-out-lt15.false))) c.if-count-eq0.false
    r.ensures
