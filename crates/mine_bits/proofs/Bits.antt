-- A bit that is set leaves the others as they are: in its byte by the eight places, elsewhere since another byte is read. Assumes nothing.
use Prim.Native.Nat.{ℕ, ◌+◌, ◌-◌, ◌*◌, ◌/◌, ◌%◌, ◌^◌, ◌<◌}
use native.Mathlib.Omega.{arith}
use native.Mathlib.Decide.{ℕ_discrete}
use mathlib.Core.Path.{◌≡◌, ap, refl, subst, sym, ◌∙◌}
use mathlib.Core.Bool.{Bool, true, false, ◌&&◌, ◌||◌, cond}
use mathlib.Core.List.{List}
use lib.Dec.{T, eqb, eqb→eq, ltb, ltb→lt}
use lib.ListN.{get_or, length, set}
use lib.Seq.{get_or-set_other, get_or-set_same}
use borrow.Author.Tests.{eq-eqb, ne_eqb}
use Rattle.game.specs.Lists.{all_of, has, range}
use Rattle.game.proofs.Members.{all_has, range_has}
use Rattle.game.proofs.Truth.{and_left, and_right}
use Rattle.lines.specs.BoardLine.{bit_at}
use Rattle.mine_bits.specs.Bits.{with_bit}

-- the bit of a byte at one of its eight places, high bit first
abbrev pub bit_of : ℕ → ℕ → ℕ
bit_of b j = b / 2 ^ (7 - j) % 2

-- with its weight more the byte is still one
abbrev fits : ℕ → ℕ → Bool
fits b j = ltb (b + 2 ^ (7 - j)) 256

-- then the bit at j is set, and that at another place stays
abbrev turns : ℕ → ℕ → ℕ → Bool
turns b j l = eqb (bit_of (b + 2 ^ (7 - j)) l) (cond (eqb l j) 1 (bit_of b l))

-- so it is, unless the bit at j is set already
abbrev takes : ℕ → ℕ → ℕ → Bool
takes b j l = eqb (bit_of b j) 1 || fits b j && turns b j l

-- it holds of every byte and every two places
every : T (all_of (λ b. all_of (λ j. all_of (takes b j) (range 0 8)) (range 0 8)) (range 0 256))
every = tt

within : (n x : ℕ) → x < n → T (has x (range 0 n))
within n x h = range_has 0 n x (omega arith) h

-- so it holds of a byte and two places
holds : (b j l : ℕ) → b < 256 → j < 8 → l < 8 → T (takes b j l)
holds b j l h k m =
    all_has (takes b j) l (range 0 8) (within 8 l m)
    (all_has (λ j. all_of (takes b j) (range 0 8)) j (range 0 8) (within 8 j k)
    (all_has (λ b. all_of (λ j. all_of (takes b j) (range 0 8)) (range 0 8)) b (range 0 256) (within 256 b h) every))

-- what is left of it where the bit at j is not set
unset : (b j l : ℕ) → b < 256 → j < 8 → l < 8 → eqb (bit_of b j) 1 ≡ false → T (fits b j && turns b j l)
unset b j l h k m e = subst (λ (t : Bool). T (t || fits b j && turns b j l)) e (holds b j l h k m)

-- a bit that is not set leaves room for its weight
pub bit_room : (b j : ℕ) → b < 256 → j < 8 → eqb (bit_of b j) 1 ≡ false → b + 2 ^ (7 - j) < 256
bit_room b j h k e = ltb→lt _ 256 (and_left (fits b j) (turns b j j) (unset b j j h k k e))

-- with it the bit at j is set, and that at another place stays
byte_set : (b j l : ℕ) → b < 256 → j < 8 → l < 8 → eqb (bit_of b j) 1 ≡ false → bit_of (b + 2 ^ (7 - j)) l ≡ cond (eqb l j) 1 (bit_of b l)
byte_set b j l h k m e = eqb→eq _ _ (and_right (fits b j) (turns b j l) (unset b j l h k m e))

-- a weight fits a byte
pub weight_small : (j : ℕ) → j < 8 → 1 * 2 ^ (7 - j) % 256 ≡ 2 ^ (7 - j)
weight_small j h = eqb→eq _ _ (all_has (λ k. eqb (1 * 2 ^ (7 - k) % 256) (2 ^ (7 - k))) j (range 0 8) (within 8 j h) tt)

-- one bit more: it is set, and every other stays
pub bit_set : (bits : List ℕ) (p q : ℕ) → p / 8 < length bits → get_or bits (p / 8) 0 < 256 → bit_at bits p ≡ false → bit_at (with_bit bits p) q ≡ (eqb q p || bit_at bits q)
unfolding bit_at with_bit
bit_set bits p q room small e =
    elim (ℕ_discrete (q / 8) (p / 8)) [
      | yes s ↦
          let b = get_or bits (p / 8) 0 in
          ap (λ (n : ℕ). eqb (bit_of n (q % 8)) 1) (ap (λ (n : ℕ). get_or (set bits (p / 8) (b + 2 ^ (7 - p % 8))) n 0) s ∙ get_or-set_same bits (p / 8) (b + 2 ^ (7 - p % 8)) 0 room)
          ∙ ap (λ (n : ℕ). eqb n 1) (byte_set b (p % 8) (q % 8) small (omega arith) (omega arith) e)
          ∙ here (eqb (q % 8) (p % 8)) (bit_of b (q % 8))
          ∙ (λ i. same_byte s i || eqb (bit_of (get_or bits (sym s i) 0) (q % 8)) 1)
      | no s ↦
          ap (λ (n : ℕ). eqb (bit_of n (q % 8)) 1) (get_or-set_other bits (p / 8) (q / 8) _ 0 s)
          ∙ ap (λ (t : Bool). t || eqb (bit_of (get_or bits (q / 8) 0) (q % 8)) 1) (sym (ne_eqb q p (λ z. s (ap (λ (n : ℕ). n / 8) z))))
    ]
  where
    here : (t : Bool) (n : ℕ) → eqb (cond t 1 n) 1 ≡ (t || eqb n 1)
    here true n = refl
    here false n = refl

    same_byte : q / 8 ≡ p / 8 → eqb (q % 8) (p % 8) ≡ eqb q p
    same_byte s =
        elim (ℕ_discrete q p) [
          | yes z ↦ eq-eqb (q % 8) (p % 8) (omega arith) ∙ sym (eq-eqb q p z)
          | no z ↦ ne_eqb (q % 8) (p % 8) (λ t. z (omega arith)) ∙ sym (ne_eqb q p z)
        ]
