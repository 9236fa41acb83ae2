-- `lines::board::digits_refused`: the four tests. Assumes nothing.
use Prim.Native.Nat.{◌%◌}
use mathlib.Core.Path.{◌≡◌, ap, sym, ◌∙◌, refl}
use mathlib.Core.Bool.{Bool, ◌||◌}
use lib.Dec.{eqb, ltb}
use lib.ListN.{length}
use Rattle.game.specs.Lists.{some_of}
use Rattle.hex_digits.specs.Hex.{is_wrong}
use Rattle.lines.specs.BoardLine.{digits_refused}
use Rattle.lines.proofs.Verdict.{any_by, digits_by, or_next, or_yes}
use Rattle.lines.proofs.board.digits_refused.Goals.{Joined-line-eq1, then-has_wrong, else-has_wrong, then-line-eq1, else-line-eq1}
use Rattle.lines.proofs.board.digits_refused.Goals as goal

first_two : (c : Joined-line-eq1) → c.if-has_wrong.value ≡ (some_of is_wrong c.args.line.now || eqb (length c.args.line.now % 2) 1)
first_two c =
    elim c.if-has_wrong.branch [
      | then-has_wrong w ↦ or_yes _ _ _ (sym c.has_wrong.ensures ∙ w.if-has_wrong.true) (w.value-is ∙ w.if-has_wrong.true)
      | else-has_wrong w ↦ or_next _ _ _ (sym c.has_wrong.ensures ∙ w.if-has_wrong.false) w.value-is
    ]

first-three : (c : Joined-line-eq1)
    → c.if-line-eq1.value ≡ ((some_of is_wrong c.args.line.now || eqb (length c.args.line.now % 2) 1) || ltb (length c.args.line.now) 4)
first-three c =
    elim c.if-line-eq1.branch [
      | then-line-eq1 w ↦ or_yes _ _ _ (sym (first_two c) ∙ w.if-line-eq1.true) (w.value-is ∙ w.if-line-eq1.true)
      | else-line-eq1 w ↦ or_next _ _ _ (sym (first_two c) ∙ w.if-line-eq1.false) w.value-is
    ]

all_four : (c : Joined-line-eq1) → (c.if-line-eq1.value || ltb 516 (length c.args.line.now)) ≡ digits_refused c.args.line.now
all_four c =
    let line = c.args.line.now in
    any_by (some_of is_wrong line) (eqb (length line % 2) 1) (ltb (length line) 4) (ltb 516 (length line)) _ (first-three c)
    ∙ digits_by line _ _ _ _ refl refl refl refl

pub returns-then-line-lt4 : goal.returns-then-line-lt4
returns-then-line-lt4 c =
    let t = c.if-line-lt4.true in
    t ∙ sym (ap (λ (x : Bool). x || ltb 516 (length c.args.line.now)) t) ∙ all_four (goal.at.returns-then-line-lt4 c).Joined-line-eq1

pub returns-else-line-lt4 : goal.returns-else-line-lt4
returns-else-line-lt4 c =
    sym (ap (λ (x : Bool). x || ltb 516 (length c.args.line.now)) c.if-line-lt4.false) ∙ all_four (goal.at.returns-else-line-lt4 c).Joined-line-eq1
