-- `hex_digits::digit_of`: a digit to 9, a capital letter above. Assumes nothing.
use Rattle.hex_digits.proofs.Digits.{high_digit, low_digit}
use Rattle.hex_digits.proofs.digit_of.Goals as goal

pub returns-then-value-le9 : goal.returns-then-value-le9
returns-then-value-le9 c = low_digit c.args.value c.if-value-le9.true

pub returns : goal.returns
returns c = high_digit c.args.value c.if-value-le9.false
