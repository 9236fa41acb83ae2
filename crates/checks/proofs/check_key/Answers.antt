-- `checks::check_key`: what was refused before stands, and else the key decides. Assumes nothing.
use mathlib.Core.Path.{◌≡◌, ◌∙◌, ap, sym}
use mathlib.Core.List.{[], ◌∷◌}
use borrow.Author.Rules.{rules}
use Rattle.game.specs.Calls.{key_blank, key_check}
use Rattle.game.specs.Keys.{blank}
use Rattle.keys.specs.Stands.{key_of}
use Rattle.refusals.specs.Names.{refusal_of}
use Rattle.checks.proofs.More.{first_stands, one_given, one_passed}
use Rattle.checks.proofs.check_key.Goals as goal

pub returns-in_err-checked : goal.returns-in_err-checked
returns-in_err-checked c = λ cs e.
    let told : c.from_residual.result ≡ c.args.checked = search rules in
    ap refusal_of (told ∙ c.in_err-checked.was) ∙ first_stands cs (key_check (key_of c.args.key) ∷ []) _ (sym (ap refusal_of c.in_err-checked.was) ∙ e)

pub returns-then-is_blank : goal.returns-then-is_blank
returns-then-is_blank c = λ cs e. one_given cs (blank (key_of c.args.key)) key_blank (sym (ap refusal_of c.in_ok-checked.was) ∙ e) (sym c.is_blank.ensures ∙ c.if-is_blank.true)

pub returns : goal.returns
returns c = λ cs e. one_passed cs (blank (key_of c.args.key)) key_blank (sym (ap refusal_of c.in_ok-checked.was) ∙ e) (sym c.is_blank.ensures ∙ c.if-is_blank.false)
