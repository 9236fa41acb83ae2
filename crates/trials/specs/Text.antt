-- Marks and numbers in a case line. Assumes nothing.
use Rattle.std.specs.Prelude.{ℕ, suc, ◌+◌, ◌-◌, ◌*◌, min, cond, List, [], ◌∷◌, ◌==◌}
use Rattle.hex_digits.specs.Hex.{is_decimal}

-- how many bytes come before the first mark; all of them where there is none
abbrev pub before : ℕ → List ℕ → ℕ
before mark [] = 0
before mark (b ∷ bs) = cond (b == mark) 0 (suc (before mark bs))

-- a number with a digit more; the largest of 64 bits where that is larger
abbrev pub with_digit : ℕ → ℕ → ℕ
with_digit value digit = min (10 * value + digit) 18446744073709551615

-- a number and the digits that follow it, up to the first byte that is none
abbrev pub digits_on : ℕ → List ℕ → ℕ
digits_on value [] = value
digits_on value (b ∷ bs) = cond (is_decimal b) (digits_on (with_digit value (b - 48)) bs) value
