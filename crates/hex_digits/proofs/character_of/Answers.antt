-- `hex_digits::character_of`: each range and the line feed as defined. Assumes nothing.
use native.Mathlib.Omega.{arith}
use Rattle.hex_digits.proofs.Digits.{decimal_character, end_character, letter_character, over, under, wrong_character}
use Rattle.hex_digits.proofs.character_of.Goals as goal

pub returns-in-10 : goal.returns-in-10
returns-in-10 c = let e = c.in-10.is in end_character c.args.byte (omega arith)

pub returns-in-48-to-57 : goal.returns-in-48-to-57
returns-in-48-to-57 c = decimal_character c.args.byte (omega arith) (omega arith)

pub returns-in-65-to-70 : goal.returns-in-65-to-70
returns-in-65-to-70 c = letter_character c.args.byte (omega arith) (omega arith)

pub returns-in_default : goal.returns-in_default
returns-in_default c =
    let b = c.args.byte in
    wrong_character b (under 48 57 b (omega arith)) (under 65 70 b (omega arith)) (λ e. omega arith)

pub returns-in_default-2 : goal.returns-in_default-2
returns-in_default-2 c =
    let b = c.args.byte in
    wrong_character b (over 48 57 b (omega arith)) (under 65 70 b (omega arith)) (λ e. omega arith)

pub returns-in_default-3 : goal.returns-in_default-3
returns-in_default-3 c =
    let b = c.args.byte in
    wrong_character b (over 48 57 b (omega arith)) (over 65 70 b (omega arith)) (λ e. omega arith)
