-- Hex digits by their tests: what a byte is, its value, and back. Assumes nothing.
use Prim.Native.Nat.{ℕ, ◌+◌, ◌-◌, ◌<◌, ◌≤◌}
use native.Mathlib.Omega.{arith}
use native.Mathlib.Decide.{ℕ_discrete}
use mathlib.Core.Path.{◌≡◌, ap, refl, sym, ◌∙◌}
use mathlib.Core.Bool.{Bool, true, false, ◌&&◌, ◌||◌, cond, not}
use lib.Dec.{eqb, leb}
use borrow.Author.Tests.{eq-eqb, ne_eqb, le-leb, lt-leb, leb-true}
use Rattle.hex_digits.specs.Hex.{between, hex_digit, hex_value, is_decimal, is_letter, is_wrong}
use Rattle.hex_digits.specs.Characters.{character_of}
use Rattle.hex_digits.specs.declared.Character.{Character}
use Rattle.hex_digits.specs.declared.Character.TheVariants.{Digit, End, Wrong}
use Rattle.game.proofs.Truth.{and_no, and_yes}

-- ---- the tests

both : (p q : Bool) → p ≡ true → q ≡ true → (p && q) ≡ true
both p q e f = ap (λ (x : Bool). x && q) e ∙ f

pub inside : (low high b : ℕ) → low ≤ b → b ≤ high → between low high b ≡ true
inside low high b l h = both (leb low b) (leb b high) (le-leb low b l) (le-leb b high h)

pub under : (low high b : ℕ) → b < low → between low high b ≡ false
under low high b h = ap (λ (x : Bool). x && leb b high) (lt-leb low b h)

pub over : (low high b : ℕ) → high < b → between low high b ≡ false
over low high b h = and_no (leb low b) (leb b high) (lt-leb b high h)

pub from_low : (low high b : ℕ) → between low high b ≡ true → low ≤ b
from_low low high b e = leb-true low b (and_yes (leb low b) (leb b high) e).0

pub to_high : (low high b : ℕ) → between low high b ≡ true → b ≤ high
to_high low high b e = leb-true b high (and_yes (leb low b) (leb b high) e).1

-- ---- what a byte is

character_by : (b : ℕ) (p q r : Bool) → is_decimal b ≡ p → is_letter b ≡ q → eqb b 10 ≡ r
    → cond (p || q) (Digit (cond p (b - 48) (cond q (b - 55) 0))) (cond r End Wrong) ≡ character_of b
unfolding character_of hex_value
character_by b p q r e f h =
    sym (λ i. cond (e i || f i) (Digit (cond (e i) (b - 48) (cond (f i) (b - 55) 0))) (cond (h i) End Wrong))

pub decimal_character : (b : ℕ) → 48 ≤ b → b ≤ 57 → Digit (b - 48) ≡ character_of b
decimal_character b l h = character_by b true (is_letter b) (eqb b 10) (inside 48 57 b l h) refl refl

pub letter_character : (b : ℕ) → 65 ≤ b → b ≤ 70 → Digit (b - 55) ≡ character_of b
letter_character b l h = character_by b false true (eqb b 10) (over 48 57 b (omega arith)) (inside 65 70 b l h) refl

pub end_character : (b : ℕ) → b ≡ 10 → End ≡ character_of b
end_character b e = character_by b false false true (under 48 57 b (omega arith)) (under 65 70 b (omega arith)) (eq-eqb b 10 e)

pub wrong_character : (b : ℕ) → is_decimal b ≡ false → is_letter b ≡ false → (b ≡ 10 → ⊥) → Wrong ≡ character_of b
wrong_character b e f h = character_by b false false false e f (ne_eqb b 10 h)

-- ---- its value, whether it is wrong, whether it ends a line

abbrev pub value_as : Character → ℕ
value_as (Digit v) = v
value_as End = 0
value_as Wrong = 0

abbrev pub wrong_as : Character → Bool
wrong_as (Digit v) = false
wrong_as End = true
wrong_as Wrong = true

-- no digit: worth 0, and wrong
pub no_digit : (k : Character) → ((v : ℕ) → k ≡ Digit v → ⊥) → (value_as k ≡ 0) × (wrong_as k ≡ true)
no_digit (Digit v) h = absurd (h v refl)
no_digit End h = (refl, refl)
no_digit Wrong h = (refl, refl)

pub character_value : (b : ℕ) → value_as (character_of b) ≡ hex_value b
unfolding character_of hex_value
character_value b = go (is_decimal b) (is_letter b) (eqb b 10)
  where
    go : (p q r : Bool) → value_as (cond (p || q) (Digit (cond p (b - 48) (cond q (b - 55) 0))) (cond r End Wrong)) ≡ cond p (b - 48) (cond q (b - 55) 0)
    go true q r = refl
    go false true r = refl
    go false false true = refl
    go false false false = refl

pub character_wrong : (b : ℕ) → wrong_as (character_of b) ≡ is_wrong b
unfolding character_of
character_wrong b = go (is_decimal b || is_letter b) (eqb b 10) (hex_value b)
  where
    go : (p r : Bool) (v : ℕ) → wrong_as (cond p (Digit v) (cond r End Wrong)) ≡ not p
    go true r v = refl
    go false true v = refl
    go false false v = refl

-- a line feed alone ends a line
abbrev pub end_as : Character → Bool
end_as (Digit v) = false
end_as End = true
end_as Wrong = false

pub no_end : (k : Character) → (k ≡ End → ⊥) → end_as k ≡ false
no_end (Digit v) h = refl
no_end End h = absurd (h refl)
no_end Wrong h = refl

pub character_end : (b : ℕ) → end_as (character_of b) ≡ eqb b 10
unfolding character_of
character_end b = go (ℕ_discrete b 10)
  where
    other : (t : Bool) (v : ℕ) → end_as (cond t (Digit v) Wrong) ≡ false
    other true v = refl
    other false v = refl

    go : Dec (b ≡ 10) → end_as (cond (is_decimal b || is_letter b) (Digit (hex_value b)) (cond (eqb b 10) End Wrong)) ≡ eqb b 10
    go (yes e) = ap end_as (sym (end_character b e)) ∙ sym (eq-eqb b 10 e)
    go (no n) =
        ap (λ (t : Bool). end_as (cond (is_decimal b || is_letter b) (Digit (hex_value b)) (cond t End Wrong))) (ne_eqb b 10 n)
        ∙ other (is_decimal b || is_letter b) (hex_value b)
        ∙ sym (ne_eqb b 10 n)

pub value_small : (b : ℕ) → hex_value b < 16
unfolding hex_value
value_small b = go (is_decimal b) (is_letter b) refl refl
  where
    go : (p q : Bool) → is_decimal b ≡ p → is_letter b ≡ q → cond p (b - 48) (cond q (b - 55) 0) < 16
    go true q e f = let h = to_high 48 57 b e in omega arith
    go false true e f = let h = to_high 65 70 b f in omega arith
    go false false e f = omega arith

-- ---- a digit of a value

pub low_digit : (v : ℕ) → v ≤ 9 → v + 48 ≡ hex_digit v
unfolding hex_digit
low_digit v h = sym (ap (λ (t : Bool). cond t (v + 48) (v + 55)) (le-leb v 9 h))

pub high_digit : (v : ℕ) → 9 < v → v + 55 ≡ hex_digit v
unfolding hex_digit
high_digit v h = sym (ap (λ (t : Bool). cond t (v + 48) (v + 55)) (lt-leb v 9 h))
