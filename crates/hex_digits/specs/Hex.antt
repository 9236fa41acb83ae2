-- Hexadecimal digits and the bytes they give. Assumes nothing.
use Rattle.std.specs.Prelude.{ℕ, ◌+◌, ◌-◌, ◌*◌, ◌/◌, ◌%◌, Bool, ◌&&◌, ◌||◌, cond, not, List, [], ◌∷◌, ◌++◌, leb, drop, length, take}

-- a byte from low to high
abbrev pub between : ℕ → ℕ → ℕ → Bool
between low high b = leb low b && leb b high

-- a digit 0 to 9
abbrev pub is_decimal : ℕ → Bool
is_decimal b = between 48 57 b

-- a capital letter A to F
abbrev pub is_letter : ℕ → Bool
is_letter b = between 65 70 b

-- a byte of a line is a digit or a capital letter A to F, or it is wrong
abbrev pub is_wrong : ℕ → Bool
is_wrong b = not (is_decimal b || is_letter b)

-- the value of a digit or a capital letter; 0 for a wrong byte
unfoldable pub hex_value : ℕ → ℕ
hex_value b = cond (is_decimal b) (b - 48) (cond (is_letter b) (b - 55) 0)

-- the digit or capital letter of a value below 16
unfoldable pub hex_digit : ℕ → ℕ
hex_digit v = cond (leb v 9) (v + 48) (v + 55)

-- two hex digits a byte; a digit without a second gives none
abbrev pub bytes_of : List ℕ → List ℕ
bytes_of [] = []
bytes_of (d ∷ []) = []
bytes_of (d ∷ e ∷ ds) = (16 * hex_value d + hex_value e) ∷ bytes_of ds

-- a byte as two hex digits
abbrev pub byte_digits : ℕ → List ℕ
byte_digits b = hex_digit (b / 16) ∷ hex_digit (b % 16) ∷ []

-- digits put into a lent run at a place; nothing changes where they have no room
unfoldable pub put_digits : ℕ → List ℕ → List ℕ → List ℕ
put_digits at ds old = cond (leb (at + length ds) (length old)) (take at old ++ ds ++ drop (at + length ds) old) old

-- two bytes, high first
abbrev pub two_bytes : ℕ → List ℕ
two_bytes n = n / 256 % 256 ∷ n % 256 ∷ []
