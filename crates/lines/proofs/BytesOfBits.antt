-- Bytes made of bits, eight each, high bit first: a byte's bits are those it was made of, and a byte is made of its bits. Assumes nothing.
use Prim.Native.Nat.{ℕ, zero, suc, ◌+◌, ◌-◌, ◌*◌, ◌/◌, ◌%◌, ◌^◌, ◌<◌, ◌≤◌}
use native.Mathlib.Omega.{arith}
use mathlib.Core.Path.{◌≡◌, ap, refl, sym, ◌∙◌}
use mathlib.Core.Bool.{Bool, true, false}
use mathlib.Core.List.{List, [], ◌∷◌, map}
use lib.Dec.{eqb}
use lib.ListN.{get_or, length, take}
use lib.Seq.{ext_get_or, get_or-take, length-take-le}
use borrow.Author.Tests.{eqb-false, eqb-true}
use Rattle.game.specs.Lists.{Each, bit, range}
use Rattle.game.proofs.Counts.{bit_small}
use Rattle.game.proofs.Members.{get_d_range}
use Rattle.lines.specs.BoardLine.{bit_at, byte_of_bits}
use Rattle.lines.proofs.Runs.{length_cells}

-- ---- bits

bit_eqb : (b : Bool) → eqb (bit b) 1 ≡ b
bit_eqb true = refl
bit_eqb false = refl

eqb_bit : (v : ℕ) (t : Bool) → v < 2 → eqb v 1 ≡ t → v ≡ bit t
eqb_bit v true h e = eqb-true v 1 e
eqb_bit v false h e = let n = eqb-false v 1 e in omega arith

-- ---- one byte

-- a number made of eight bits, high bit first
unfoldable eight : (ℕ → ℕ) → ℕ
eight v = 128 * v 0 + 64 * v 1 + 32 * v 2 + 16 * v 3 + 8 * v 4 + 4 * v 5 + 2 * v 6 + v 7

-- each of them is 0 or 1
abbrev Small : (ℕ → ℕ) → Type 0
Small v = (v 0 < 2) × (v 1 < 2) × (v 2 < 2) × (v 3 < 2) × (v 4 < 2) × (v 5 < 2) × (v 6 < 2) × (v 7 < 2)

module _ (v : ℕ → ℕ) (small : Small v) where
  eight_small : eight v < 256
  unfolding eight
  eight_small = omega arith

  -- its bits
  eight_bit : (j : ℕ) → j < 8 → eight v / 2 ^ (7 - j) % 2 ≡ v j
  unfolding eight
  eight_bit zero h = omega arith
  eight_bit (suc zero) h = omega arith
  eight_bit (suc (suc zero)) h = omega arith
  eight_bit (suc (suc (suc zero))) h = omega arith
  eight_bit (suc (suc (suc (suc zero)))) h = omega arith
  eight_bit (suc (suc (suc (suc (suc zero))))) h = omega arith
  eight_bit (suc (suc (suc (suc (suc (suc zero)))))) h = omega arith
  eight_bit (suc (suc (suc (suc (suc (suc (suc zero))))))) h = omega arith
  eight_bit (suc (suc (suc (suc (suc (suc (suc (suc j)))))))) h = absurd (omega arith)

-- a number by its halves
by_halves : (v : ℕ → ℕ) (b c d e f g h k : ℕ) → b ≡ 2 * c + v 7 → c ≡ 2 * d + v 6 → d ≡ 2 * e + v 5 → e ≡ 2 * f + v 4 → f ≡ 2 * g + v 3 → g ≡ 2 * h + v 2 → h ≡ 2 * k + v 1 → k ≡ v 0 → b ≡ eight v
unfolding eight
by_halves v b c d e f g h k p q r s t u w x = omega arith

-- a byte is made of its bits
byte_eight : (b : ℕ) → b < 256 → b ≡ eight (λ j. b / 2 ^ (7 - j) % 2)
byte_eight b h =
    by_halves (λ j. b / 2 ^ (7 - j) % 2) b (b / 2) (b / 4) (b / 8) (b / 16) (b / 32) (b / 64) (b / 128)
    (omega arith) (omega arith) (omega arith) (omega arith) (omega arith) (omega arith) (omega arith) (omega arith)

eight_same : (v w : ℕ → ℕ) → ((j : ℕ) → j < 8 → v j ≡ w j) → eight v ≡ eight w
unfolding eight
eight_same v w e =
    omega (arith, e 0 (omega arith), e 1 (omega arith), e 2 (omega arith), e 3 (omega arith), e 4 (omega arith), e 5 (omega arith), e 6 (omega arith), e 7 (omega arith))

module _ (bits : ℕ → Bool) (k : ℕ) where
  bit_here : ℕ → ℕ
  bit_here j = bit (bits (8 * k + j))

  one_small : (j : ℕ) → bit_here j < 2
  unfolding bit_here
  one_small j = omega (arith, bit_small (bits (8 * k + j)))

  all_small : Small bit_here
  all_small = (one_small 0, one_small 1, one_small 2, one_small 3, one_small 4, one_small 5, one_small 6, one_small 7)

  made : byte_of_bits bits k ≡ eight bit_here
  unfolding byte_of_bits eight bit_here
  made = omega arith

  -- a byte made of bits is a byte
  pub byte_small : byte_of_bits bits k < 256
  byte_small = omega (arith, made, eight_small bit_here all_small)

  -- and has those bits
  made_bit : (j : ℕ) → j < 8 → eqb (byte_of_bits bits k / 2 ^ (7 - j) % 2) 1 ≡ bits (8 * k + j)
  unfolding bit_here
  made_bit j h = ap (λ (b : ℕ). eqb (b / 2 ^ (7 - j) % 2) 1) made ∙ ap (λ (b : ℕ). eqb b 1) (eight_bit bit_here all_small j h) ∙ bit_eqb (bits (8 * k + j))

  -- a byte is made of its bits
  pub byte_by_bits : (b : ℕ) → b < 256 → ((j : ℕ) → j < 8 → eqb (b / 2 ^ (7 - j) % 2) 1 ≡ bits (8 * k + j)) → b ≡ byte_of_bits bits k
  unfolding bit_here
  byte_by_bits b s e =
      byte_eight b s ∙ eight_same (λ j. b / 2 ^ (7 - j) % 2) bit_here (λ j h. eqb_bit (b / 2 ^ (7 - j) % 2) (bits (8 * k + j)) (omega arith) (e j h)) ∙ sym made

-- ---- runs of bytes

byte_there : (run : List ℕ) (k : ℕ) → Each (λ b. b < 256) run → get_or run k 0 < 256
byte_there [] k s = omega arith
byte_there (b ∷ run) zero s = s.0
byte_there (b ∷ run) (suc k) s = byte_there run k s.1

-- the bits of a byte of a run
bit-of : (run : List ℕ) (k j : ℕ) → j < 8 → bit_at run (8 * k + j) ≡ eqb (get_or run k 0 / 2 ^ (7 - j) % 2) 1
unfolding bit_at
bit-of run k j h =
    let place : (8 * k + j) / 8 ≡ k = omega arith in
    let rest : (8 * k + j) % 8 ≡ j = omega arith in
    λ i. eqb (get_or run (place i) 0 / 2 ^ (7 - rest i) % 2) 1

module _ (bits : ℕ → Bool) where
  -- a bit of a byte made of bits
  pub bits_back : (n p : ℕ) → p < 8 * n → bit_at (map (byte_of_bits bits) (range 0 n)) p ≡ bits p
  unfolding bit_at
  bits_back n p h =
      ap (λ (b : ℕ). eqb (b / 2 ^ (7 - p % 8) % 2) 1) (get_d_range (byte_of_bits bits) 0 n (p / 8) (omega arith))
      ∙ made_bit bits (p / 8) (p % 8) (omega arith)
      ∙ ap bits (omega arith)

  -- bytes are made of their bits: of a run of bytes, the first n
  pub run_by_bits : (run : List ℕ) (n : ℕ) → n ≤ length run → Each (λ b. b < 256) run → ((p : ℕ) → p < 8 * n → bit_at run p ≡ bits p) → take n run ≡ map (byte_of_bits bits) (range 0 n)
  run_by_bits run n l s e =
      ext_get_or 0 (take n run) (map (byte_of_bits bits) (range 0 n)) (length-take-le n run l ∙ sym (length_cells (byte_of_bits bits) n))
      (λ k m.
      let h : k < n = omega (arith, length-take-le n run l) in
      get_or-take n run k 0 h
      ∙ byte_by_bits bits k (get_or run k 0) (byte_there run k s) (λ j i. sym (bit-of run k j i) ∙ e (8 * k + j) (omega arith))
      ∙ sym (get_d_range (byte_of_bits bits) 0 n k h))
