-- `hex_digits::is_wrong`: all but the digits are wrong. Assumes nothing.
use mathlib.Core.Path.{ap, sym, ◌∙◌}
use mathlib.Core.Bool.{not}
use Rattle.hex_digits.proofs.Digits.{character_wrong, no_digit, wrong_as}
use Rattle.hex_digits.proofs.is_wrong.Goals.{in-Digit, in_default}
use Rattle.hex_digits.proofs.is_wrong.Goals as goal

pub returns : goal.returns
returns c =
    elim c.match-matches.branch [
      | in-Digit w ↦ ap not w.matches-is ∙ ap wrong_as (sym w.in-Digit.is ∙ c.character_of.ensures) ∙ character_wrong _
      | in_default w ↦ ap not w.matches-is ∙ sym (no_digit _ w.in_default.not-Digit).1 ∙ ap wrong_as c.character_of.ensures ∙ character_wrong _
    ]
