-- `mbf_lines::first_line`: no byte passed is a line feed. Assumes nothing.
use Prim.Native.Nat.{ℕ}
use native.Mathlib.Omega.{arith}
use mathlib.Core.Path.{◌≡◌, ap, refl, sym, ◌∙◌}
use lib.ListN.{drop_of_length-le, length, take}
use Rattle.mbf_lines.proofs.Firsts.{input_over, line_ended, line_more}
use Rattle.mbf_lines.proofs.first_line.Goals as goal

pub loop-k-init : goal.loop-k-init
loop-k-init c = (omega arith, refl)

pub returns-then-is_end : goal.returns-then-is_end
returns-then-is_end c =
    let l = c.loop-k in
    let input = c.args.input.now in
    (l.invariant.0, line_ended input l.k l.invariant.1 (omega arith) (sym c.is_end.ensures ∙ c.if-is_end.true))

pub loop-k-preserved : goal.loop-k-preserved
loop-k-preserved c =
    let l = c.loop-k in
    let input = c.args.input.now in
    (omega arith, line_more input l.k l.invariant.1 (omega arith) (sym c.is_end.ensures ∙ c.if-is_end.false))

pub returns : goal.returns
returns c =
    let l = c.loop-k in
    let input = c.args.input.now in
    let all : l.k ≡ length input = omega arith in
    (omega arith, ap (λ (n : ℕ). take n input) (sym all) ∙ input_over input l.k l.invariant.1 (drop_of_length-le input {i = l.k} (omega arith)))
