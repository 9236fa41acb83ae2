-- `lines::board::bit_between`: what is passed has no bit set. Assumes nothing.
use native.Mathlib.Omega.{arith}
use mathlib.Core.Path.{refl, sym, ◌∙◌}
use Rattle.hex_digits.specs.Hex.{bytes_of}
use Rattle.lines.specs.BoardLine.{bit_between, mine_bit}
use Rattle.lines.proofs.Runs.{fails, passes, range_over, range_step}
use Rattle.lines.proofs.board.bit_between.Goals as goal

pub loop-k-init : goal.loop-k-init
loop-k-init c = (omega arith, refl)

pub mine_bit-requires : goal.mine_bit-requires
mine_bit-requires c = omega arith

pub returns-then-mine_bit : goal.returns-then-mine_bit
unfolding bit_between
returns-then-mine_bit c =
    let l = c.loop-k in
    let a = c.args in
    sym (passes _ _ _ (l.invariant.1 ∙ range_step (mine_bit (bytes_of a.line.now)) l.k a.to (omega arith)) (sym c.mine_bit.ensures ∙ c.if-mine_bit.true))

pub loop-k-preserved : goal.loop-k-preserved
loop-k-preserved c =
    let l = c.loop-k in
    let a = c.args in
    (omega arith, fails _ _ _ (l.invariant.1 ∙ range_step (mine_bit (bytes_of a.line.now)) l.k a.to (omega arith)) (sym c.mine_bit.ensures ∙ c.if-mine_bit.false))

pub returns : goal.returns
unfolding bit_between
returns c =
    let l = c.loop-k in
    let a = c.args in
    sym (l.invariant.1 ∙ range_over (mine_bit (bytes_of a.line.now)) l.k a.to (omega arith))
