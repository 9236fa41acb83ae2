-- `stored::check_moves`: the tests in their order. Assumes nothing.
use native.Mathlib.Omega.{arith}
use mathlib.Core.Path.{◌≡◌, sym, ◌∙◌}
use mathlib.Core.Bool.{false}
use Rattle.game.specs.Lists.{some_of}
use Rattle.hex_digits.specs.Hex.{is_wrong}
use Rattle.stored.proofs.Words.{length_stored}
use Rattle.stored.proofs.MoveCalls.{all_fine, few_digits, no_columns, no_room, no_rows, part_move, wrong_byte}
use Rattle.stored.proofs.check_moves.Goals.{Else-has_wrong}
use Rattle.stored.proofs.check_moves.Goals as goal

clean : (c : Else-has_wrong) → some_of is_wrong c.args.line.now ≡ false
clean c = sym c.has_wrong.ensures ∙ c.if-has_wrong.false

pub returns-then-has_wrong : goal.returns-then-has_wrong
returns-then-has_wrong c =
    let a = c.args in
    wrong_byte a.line.now a.list.now (sym c.has_wrong.ensures ∙ c.if-has_wrong.true)

pub returns-then-line-lt4 : goal.returns-then-line-lt4
returns-then-line-lt4 c =
    let a = c.args in
    few_digits a.line.now a.list.now (clean (goal.at.returns-then-line-lt4 c).Else-has_wrong) (omega arith)

pub returns-then-line-ne4 : goal.returns-then-line-ne4
returns-then-line-ne4 c =
    let a = c.args in
    part_move a.line.now a.list.now (clean (goal.at.returns-then-line-ne4 c).Else-has_wrong) (λ e. omega arith)

pub returns-then-byte_at-eq0 : goal.returns-then-byte_at-eq0
returns-then-byte_at-eq0 c =
    let a = c.args in
    no_rows a.line.now a.list.now (clean (goal.at.returns-then-byte_at-eq0 c).Else-has_wrong) (omega arith) (omega arith) (omega arith)

pub returns-then-byte_at-eq0-2 : goal.returns-then-byte_at-eq0-2
returns-then-byte_at-eq0-2 c =
    let a = c.args in
    no_columns a.line.now a.list.now (clean (goal.at.returns-then-byte_at-eq0-2 c).Else-has_wrong) (omega arith) (omega arith) (omega arith)

pub returns-then-list-line : goal.returns-then-list-line
returns-then-list-line c =
    let a = c.args in
    let n = length_stored a.line.now (omega arith) in
    no_room a.line.now a.list.now (clean (goal.at.returns-then-list-line c).Else-has_wrong) (omega arith) (omega arith) (λ e. omega arith) (omega arith) (λ e. omega arith) (omega arith) (omega arith)

pub returns : goal.returns
returns c =
    let a = c.args in
    let n = length_stored a.line.now (omega arith) in
    all_fine a.line.now a.list.now (clean (goal.at.returns c).Else-has_wrong) (omega arith) (omega arith) (λ e. omega arith) (omega arith) (λ e. omega arith) (omega arith) (omega arith)
