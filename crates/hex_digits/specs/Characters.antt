-- What one byte of a line is: a hex value, the line's end, or wrong. Assumes nothing.
use Rattle.std.specs.Prelude.{ℕ, ◌||◌, cond, eqb}
use Rattle.hex_digits.specs.Hex.{hex_value, is_decimal, is_letter}
use Rattle.hex_digits.specs.declared.Character.{Character}
use Rattle.hex_digits.specs.declared.Character.TheVariants.{Digit, End, Wrong}

-- each byte of a line is one of digit, capital letter A to F, line feed, or it is wrong
unfoldable pub character_of : ℕ → Character
character_of b = cond (is_decimal b || is_letter b) (Digit (hex_value b)) (cond (eqb b 10) End Wrong)
