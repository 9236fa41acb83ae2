-- `line_prices::block::answer_block`: refused as the checks say, else what the block comes to. Assumes nothing.
use native.Mathlib.Omega.{arith}
use lib.ListN.{length}
use Rattle.game.specs.Calls.{trace, work}
use Rattle.line_prices.specs.Bytes.{desk_at}
use Rattle.line_prices.proofs.Verdict.{block_kept, block_refused, fine, many_kept, room_by, short_by, short_held, short_out}
use Rattle.line_prices.proofs.block.answer_block.Goals as goal

pub returns-then-held-lt517 : goal.returns-then-held-lt517
returns-then-held-lt517 c =
    let a = c.args in
    block_refused a.block.now a.held.now a.count a.out.now work (short_held a.held.now a.count a.out.now (length a.block.now) c.if-held-lt517.true)

pub returns-then-count-gt517 : goal.returns-then-count-gt517
returns-then-count-gt517 c =
    let a = c.args in
    block_refused a.block.now a.held.now a.count a.out.now work (many_kept a.held.now a.count a.out.now (length a.block.now) c.if-held-lt517.false c.if-count-gt517.true)

pub returns-then-out-block : goal.returns-then-out-block
returns-then-out-block c =
    let a = c.args in
    block_refused a.block.now a.held.now a.count a.out.now trace
    (short_out a.held.now a.count a.out.now (length a.block.now) c.if-held-lt517.false c.if-count-gt517.false (short_by (length a.out.now) (length a.block.now) c.if-out-block.true))

pub read_block-requires : goal.read_block-requires
read_block-requires c =
    let a = c.args in
    record { held_room = c.if-held-lt517.false; few = c.if-count-gt517.false; out_room = omega (arith, room_by (length a.out.now) (length a.block.now) c.if-out-block.false) }

pub returns : goal.returns
returns c =
    let a = c.args in
    let r = c.read_block in
    block_kept a.block.now a.held.now a.count a.out.now (desk_at r.new.held r.result r.new.out)
    (fine a.held.now a.count a.out.now (length a.block.now) c.if-held-lt517.false c.if-count-gt517.false (room_by (length a.out.now) (length a.block.now) c.if-out-block.false))
    r.ensures
