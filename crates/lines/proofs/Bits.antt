-- A cell's mine bit stands in one digit: the digit 4 + k / 4 of the line, four bits each, high bit first. Assumes nothing.
use Prim.Native.Nat.{ℕ, zero, suc, ◌+◌, ◌-◌, ◌*◌, ◌/◌, ◌%◌, ◌^◌, ◌<◌, ◌≤◌}
use native.Mathlib.Omega.{arith}
use native.Mathlib.Decide.{dec_lt}
use mathlib.Core.Path.{◌≡◌, ap, sym, ◌∙◌}
use mathlib.Core.List.{List}
use lib.Dec.{eqb}
use lib.ListN.{get_or, length}
use Rattle.hex_digits.specs.Hex.{bytes_of, hex_value}
use Rattle.lines.specs.BoardLine.{bit_at, mine_bit}
use Rattle.hex_digits.proofs.Digits.{value_small}
use Rattle.hex_digits.proofs.Bytes.{byte_here}

-- the bit at a place of a digit's value
pub bit-at : (v p q : ℕ) → p ≡ q → v / 2 ^ (3 - p) % 2 ≡ v / 2 ^ (3 - q) % 2
bit-at v p q e = ap (λ (k : ℕ). v / 2 ^ (3 - k) % 2) e

-- the four high bits of a byte are its high digit's
high_bits : (h l j : ℕ) → l < 16 → j < 4 → (16 * h + l) / 2 ^ (7 - j) % 2 ≡ h / 2 ^ (3 - j) % 2
high_bits h l zero s t = omega arith
high_bits h l (suc zero) s t = omega arith
high_bits h l (suc (suc zero)) s t = omega arith
high_bits h l (suc (suc (suc zero))) s t = omega arith
high_bits h l (suc (suc (suc (suc j)))) s t = absurd (omega arith)

-- the four low bits are its low digit's
low_bits : (h l j : ℕ) → l < 16 → j < 4 → (16 * h + l) / 2 ^ (3 - j) % 2 ≡ l / 2 ^ (3 - j) % 2
low_bits h l zero s t = omega arith
low_bits h l (suc zero) s t = omega arith
low_bits h l (suc (suc zero)) s t = omega arith
low_bits h l (suc (suc (suc zero))) s t = omega arith
low_bits h l (suc (suc (suc (suc j)))) s t = absurd (omega arith)

module _ (line : List ℕ) (k : ℕ) (room : 2 * (k / 8) + 6 ≤ length line) where
  high : ℕ
  high = hex_value (get_or line (2 * (2 + k / 8)) 0)

  low : ℕ
  low = hex_value (get_or line (2 * (2 + k / 8) + 1) 0)

  byte_bit : (e : ℕ) → 7 - (16 + k) % 8 ≡ e → (16 * high + low) / 2 ^ e % 2 ≡ get_or (bytes_of line) ((16 + k) / 8) 0 / 2 ^ (7 - (16 + k) % 8) % 2
  unfolding high low
  byte_bit e q =
      let place : (16 + k) / 8 ≡ 2 + k / 8 = omega arith in
      let byte = ap (λ (n : ℕ). get_or (bytes_of line) n 0) place ∙ byte_here line (2 + k / 8) (omega arith) in
      sym (λ i. byte i / 2 ^ q i % 2)

  digit_bit : hex_value (get_or line (4 + k / 4) 0) / 2 ^ (3 - k % 4) % 2 ≡ get_or (bytes_of line) ((16 + k) / 8) 0 / 2 ^ (7 - (16 + k) % 8) % 2
  unfolding high low
  digit_bit =
      elim (dec_lt (k % 8) 4) [
        | yes h ↦ let place : 4 + k / 4 ≡ 2 * (2 + k / 8) = omega arith in
            ap (λ (n : ℕ). hex_value (get_or line n 0) / 2 ^ (3 - k % 4) % 2) place
            ∙ sym (high_bits high low (k % 4) (value_small _) (omega arith)) ∙ byte_bit (7 - k % 4) (omega arith)
        | no h ↦ let place : 4 + k / 4 ≡ 2 * (2 + k / 8) + 1 = omega arith in
            ap (λ (n : ℕ). hex_value (get_or line n 0) / 2 ^ (3 - k % 4) % 2) place
            ∙ sym (low_bits high low (k % 4) (value_small _) (omega arith)) ∙ byte_bit (3 - k % 4) (omega arith)
      ]

  pub mine_here : eqb (hex_value (get_or line (4 + k / 4) 0) / 2 ^ (3 - k % 4) % 2) 1 ≡ mine_bit (bytes_of line) k
  unfolding bit_at
  mine_here = ap (λ (b : ℕ). eqb b 1) digit_bit
