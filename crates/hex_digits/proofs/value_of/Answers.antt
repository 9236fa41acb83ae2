-- `hex_digits::value_of`: a digit's value is its character's. Assumes nothing.
use native.Mathlib.Omega.{arith}
use mathlib.Core.Path.{ap, sym, ◌∙◌}
use Rattle.hex_digits.proofs.Digits.{character_value, no_digit, value_small, value_as}
use Rattle.hex_digits.proofs.value_of.Goals as goal

pub returns-in-Digit : goal.returns-in-Digit
returns-in-Digit c =
    let b = c.args.byte in
    let e = ap value_as c.in-Digit.ensures ∙ character_value b in
    (e, omega (arith, value_small b))

pub returns-in_default : goal.returns-in_default
returns-in_default c = (sym (no_digit _ c.in_default.not-Digit).0 ∙ ap value_as c.character_of.ensures ∙ character_value _, omega arith)
