-- `lines::board::has_wrong`: what is passed has no wrong byte. Assumes nothing.
use native.Mathlib.Omega.{arith}
use mathlib.Core.Path.{ap, refl, sym, ◌∙◌}
use lib.ListN.{drop_of_length-le}
use Rattle.game.specs.Lists.{some_of}
use Rattle.hex_digits.specs.Hex.{is_wrong}
use Rattle.lines.proofs.Runs.{fails, passes, some_step}
use Rattle.lines.proofs.board.has_wrong.Goals as goal

pub loop-byte-init : goal.loop-byte-init
loop-byte-init c = (omega arith, refl)

pub returns-then-is_wrong : goal.returns-then-is_wrong
returns-then-is_wrong c =
    let l = c.loop-byte in
    let line = c.args.line.now in
    sym (passes _ _ _ (l.invariant.1 ∙ some_step is_wrong line l.byte-index (omega arith)) (sym c.is_wrong.ensures ∙ c.if-is_wrong.true))

pub loop-byte-preserved : goal.loop-byte-preserved
loop-byte-preserved c =
    let l = c.loop-byte in
    let line = c.args.line.now in
    (omega arith, fails _ _ _ (l.invariant.1 ∙ some_step is_wrong line l.byte-index (omega arith)) (sym c.is_wrong.ensures ∙ c.if-is_wrong.false))

pub returns : goal.returns
returns c =
    let l = c.loop-byte in
    let line = c.args.line.now in
    sym (l.invariant.1 ∙ ap (some_of is_wrong) (drop_of_length-le line {i = l.byte-index} (omega arith)))
