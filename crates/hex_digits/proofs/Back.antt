-- Digits and bytes give each other back: a digit written is right and has its value, and a right digit is the digit of its value. Assumes nothing.
use Prim.Native.Nat.{ℕ, ◌+◌, ◌-◌, ◌*◌, ◌/◌, ◌%◌, ◌<◌, ◌≤◌}
use native.Mathlib.Omega.{arith}
use native.Mathlib.Decide.{dec_le}
use mathlib.Core.Path.{◌≡◌, ap, refl, sym, ◌∙◌}
use mathlib.Core.Bool.{Bool, true, false, true≢false, ◌||◌, cond, not}
use mathlib.Core.List.{List, [], ◌∷◌}
use lib.ListN.{drop, get_or, length}
use Rattle.game.specs.Lists.{Each, concat_map, some_of}
use Rattle.game.proofs.Truth.{or_no}
use Rattle.hex_digits.specs.Hex.{byte_digits, bytes_of, hex_digit, hex_value, is_decimal, is_letter, is_wrong}
use Rattle.hex_digits.proofs.Digits.{from_low, high_digit, inside, low_digit, over, to_high, value_small}

-- ---- digits and their values

valued : (b : ℕ) (p q : Bool) → is_decimal b ≡ p → is_letter b ≡ q → hex_value b ≡ cond p (b - 48) (cond q (b - 55) 0)
unfolding hex_value
valued b p q e f = λ i. cond (e i) (b - 48) (cond (f i) (b - 55) 0)

judged : (b : ℕ) (p q : Bool) → is_decimal b ≡ p → is_letter b ≡ q → is_wrong b ≡ not (p || q)
judged b p q e f = λ i. not (e i || f i)

-- a digit written is right, and has its value
record Written (v d : ℕ) : Type 0 where
  value : hex_value d ≡ v
  right : is_wrong d ≡ false

low_written : (v : ℕ) → v ≤ 9 → Written v (v + 48)
low_written v h =
    let e = inside 48 57 (v + 48) (omega arith) (omega arith) in
    record {
      value = valued (v + 48) true (is_letter (v + 48)) e refl ∙ omega arith;
      right = judged (v + 48) true (is_letter (v + 48)) e refl;
    }

high_written : (v : ℕ) → 9 < v → v < 16 → Written v (v + 55)
high_written v h k =
    let e = over 48 57 (v + 55) (omega arith) in
    let f = inside 65 70 (v + 55) (omega arith) (omega arith) in
    record { value = valued (v + 55) false true e f ∙ omega arith; right = judged (v + 55) false true e f }

written : (v : ℕ) → v < 16 → Written v (hex_digit v)
written v h =
    elim (dec_le v 9) [
      | yes l ↦ let w = low_written v l in
          record { value = ap hex_value (sym (low_digit v l)) ∙ w.value; right = ap is_wrong (sym (low_digit v l)) ∙ w.right }
      | no l ↦ let w = high_written v (omega arith) h in
          record { value = ap hex_value (sym (high_digit v (omega arith))) ∙ w.value; right = ap is_wrong (sym (high_digit v (omega arith))) ∙ w.right }
    ]

-- a right digit is the digit of its value
digit_back : (d : ℕ) → is_wrong d ≡ false → hex_digit (hex_value d) ≡ d
digit_back d e = go (is_decimal d) (is_letter d) refl refl e
  where
    go : (p q : Bool) → is_decimal d ≡ p → is_letter d ≡ q → not (p || q) ≡ false → hex_digit (hex_value d) ≡ d
    go true q a b e =
        let l = from_low 48 57 d a in
        let h = to_high 48 57 d a in
        ap hex_digit (valued d true q a b) ∙ sym (low_digit (d - 48) (omega arith)) ∙ omega arith
    go false true a b e =
        let l = from_low 65 70 d b in
        let h = to_high 65 70 d b in
        ap hex_digit (valued d false true a b) ∙ sym (high_digit (d - 55) (omega arith)) ∙ omega arith
    go false false a b e = absurd (true≢false e)

-- ---- bytes and their digits

byte_back : (b : ℕ) → b < 256 → 16 * hex_value (hex_digit (b / 16)) + hex_value (hex_digit (b % 16)) ≡ b
byte_back b h = omega (arith, (written (b / 16) (omega arith)).value, (written (b % 16) (omega arith)).value)

-- digits of bytes give the bytes back
pub bytes_back : (bs : List ℕ) → Each (λ b. b < 256) bs → bytes_of (concat_map byte_digits bs) ≡ bs
bytes_back [] s = refl
bytes_back (b ∷ bs) s = λ i. byte_back b s.0 i ∷ bytes_back bs s.1 i

-- none of them is wrong
pub bytes_clean : (bs : List ℕ) → Each (λ b. b < 256) bs → some_of is_wrong (concat_map byte_digits bs) ≡ false
bytes_clean [] s = refl
bytes_clean (b ∷ bs) s =
    let h : b < 256 = s.0 in
    λ i. (written (b / 16) (omega arith)).right i || ((written (b % 16) (omega arith)).right i || bytes_clean bs s.1 i)

pub bytes_small : (line : List ℕ) → Each (λ b. b < 256) (bytes_of line)
bytes_small [] = tt
bytes_small (d ∷ []) = tt
bytes_small (d ∷ e ∷ ds) = (omega (arith, value_small d, value_small e), bytes_small ds)

-- right digits, an even number of them, are those of their bytes
pub digits_back : (line : List ℕ) → some_of is_wrong line ≡ false → length line % 2 ≡ 0 → concat_map byte_digits (bytes_of line) ≡ line
digits_back [] e h = refl
digits_back (d ∷ []) e h = absurd (omega arith)
digits_back (d ∷ f ∷ ds) e h =
    let p = or_no (is_wrong d) (is_wrong f || some_of is_wrong ds) e in
    let q = or_no (is_wrong f) (some_of is_wrong ds) p.1 in
    let high : (16 * hex_value d + hex_value f) / 16 ≡ hex_value d = omega (arith, value_small f) in
    let low : (16 * hex_value d + hex_value f) % 16 ≡ hex_value f = omega (arith, value_small f) in
    λ i. (ap hex_digit high ∙ digit_back d p.0) i ∷ (ap hex_digit low ∙ digit_back f q.0) i ∷ digits_back ds q.1 (omega arith) i

-- ---- the first two bytes and the rest

pub two_first : (bs : List ℕ) → 2 ≤ length bs → get_or bs 0 0 ∷ get_or bs 1 0 ∷ drop 2 bs ≡ bs
two_first [] h = absurd (omega arith)
two_first (a ∷ []) h = absurd (omega arith)
two_first (a ∷ b ∷ bs) h = refl

pub small_drop : (bs : List ℕ) → Each (λ b. b < 256) bs → Each (λ b. b < 256) (drop 2 bs)
small_drop [] s = tt
small_drop (a ∷ []) s = tt
small_drop (a ∷ b ∷ bs) s = s.1.1

-- two digits a byte
pub length_digits : (bs : List ℕ) → length (concat_map byte_digits bs) ≡ 2 * length bs
length_digits [] = refl
length_digits (b ∷ bs) = let h = length_digits bs in omega arith
