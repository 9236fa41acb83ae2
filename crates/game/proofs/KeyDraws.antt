-- A key that is not blank stays so: its last word is mixed from the first. Its bytes stand for its words, so a draw that ends in them is the same from them. The key after so many words is behind them. Assumes nothing.
use Prim.Native.Nat.{ℕ, ◌%◌, ◌*◌, ◌+◌, ◌-◌, ◌/◌, ◌<◌, ◌≤◌, ◌^◌, suc, zero}
use native.Mathlib.Omega.{arith}
use native.Mathlib.Decide.{dec_le}
use native.Mathlib.Nat.{add-suc, add-zero, mod-lt, sub-zero}
use mathlib.Core.Path.{◌∙◌, ◌≡◌, ap, ap₂, refl, subst, sym}
use mathlib.Core.Bool.{Bool, ◌&&◌, cond, false, true}
use mathlib.Core.Option.{Option, some-ne-none, none, some}
use lib.Bits.{and_le_l, and_le_r, bit_xor, xor_add_and}
use lib.Dec.{T, eqb, eqb→eq, leb}
use lib.ListN.{get_or, length, length-map}
use Rattle.game.specs.Draws.{Drawn, Mode, all_words, draw, first_taken, four_bytes, lent, old, taken, words_left}
use Rattle.game.specs.Keys.{Key, blank, given_by, key_after, key_byte, key_bytes, key_word, keyed, mix_left, mix_right, most_spent, next_key}
use Rattle.game.specs.Lists.{Each, range}
use Rattle.game.proofs.Draws.{IfSome, Whole, all_spent, by_drawn, by_taken, drawn_behind, or_next, spent_dry, taken_turn, taking}
use Rattle.game.proofs.Keys.{keyed_more, keyed_one}
use Rattle.game.proofs.Members.{get_d_range, length_from, map_each}
use Rattle.game.proofs.Parts.{Behind}
use Rattle.game.proofs.Truth.{no→false}

-- ---- a key is never blank

-- numbers whose xor is 0 are the same
pub xor_zero_same : (a b : ℕ) → bit_xor a b ≡ 0 → a ≡ b
xor_zero_same a b e = omega (arith, xor_add_and a b, and_le_l a b, and_le_r a b)

-- a word that is 0 once it is mixed was 0
right_zero : (x : ℕ) → mix_right x ≡ 0 → x ≡ 0
right_zero x e = omega (arith, xor_zero_same x (x / 4) e)

left_zero : (x : ℕ) → mix_left 1 x ≡ 0 → x ≡ 0
left_zero x e = omega (arith, xor_zero_same x (x * 2 % all_words) e)

-- five tests that pass together
all_five : (a b c d e : Bool) → T (a && b && c && d && e) → T a × T b × T c × T d × T e
all_five true true true true e t = (tt, tt, tt, tt, t)
all_five true true true false e t = absurd t
all_five true true false d e t = absurd t
all_five true false c d e t = absurd t
all_five false b c d e t = absurd t

-- the words of a blank key
blank_words : (k : Key) → T (blank k) → (k.x ≡ 0) × (k.y ≡ 0) × (k.z ≡ 0) × (k.w ≡ 0) × (k.v ≡ 0)
blank_words k t =
    let h = all_five (eqb k.x 0) (eqb k.y 0) (eqb k.z 0) (eqb k.w 0) (eqb k.v 0) t in
    (eqb→eq k.x 0 h.0, eqb→eq k.y 0 h.1, eqb→eq k.z 0 h.2, eqb→eq k.w 0 h.3, eqb→eq k.v 0 h.4)

-- a key is blank where the next one is: its last word is mixed from the first
blank_before : (k : Key) → T (blank (next_key k)) → T (blank k)
unfolding next_key
blank_before k t =
    let z = blank_words (next_key k) t in
    let last : mix_left 1 (mix_right k.x) ≡ 0 = rw z.3 at z.4 in
    let first : k.x ≡ 0 = right_zero k.x (left_zero (mix_right k.x) last) in
    rw (first, z.0, z.1, z.2, z.3) tt

-- a key that isn't blank never becomes so
pub never_blank : (k : Key) (n : ℕ) → blank k ≡ false → blank (key_after k n) ≡ false
never_blank k zero h = h
never_blank k (suc n) h =
    no→false (blank (key_after k (suc n))) (λ t. subst T (never_blank k n h) (blank_before (key_after k n) t))

-- ---- the words of a key, and its bytes

-- a word is below 2^32
pub word_lt : (k : Key) (n : ℕ) → key_word k n < 4294967296
unfolding given_by
word_lt k n = omega arith

-- so many bytes are so many
pub key_length : (k : Key) (m : ℕ) → length (key_bytes k m) ≡ m
unfolding key_bytes
key_length k m = length-map (range 0 m) (key_byte k) ∙ length_from (m - 0) 0 ∙ sub-zero m

-- each is a byte
pub key_small : (k : Key) (m : ℕ) → Each (λ b. b < 256) (key_bytes k m)
unfolding key_bytes
key_small k m = map_each (λ b. b < 256) (key_byte k) (range 0 m) (λ at. mod-lt _ (omega arith))

-- four bytes are the word that they are of
pub four_back : (w : ℕ) → w < 4294967296 → w % 256 + 256 * (w / 256 % 256) + 65536 * (w / 65536 % 256) + 16777216 * (w / 16777216 % 256) ≡ w
four_back w h = go (w / 256) (w / 65536) (w / 16777216) (omega arith) (omega arith) (omega arith)
  where
    go : (p q r : ℕ) → w ≡ 256 * p + w % 256 → p ≡ 256 * q + p % 256 → q ≡ 256 * r + q % 256
        → w % 256 + 256 * (p % 256) + 65536 * (q % 256) + 16777216 * (r % 256) ≡ w
    go p q r e f d = omega arith

-- a byte of a word, by its place in the word
byte_at : (k : Key) (m at i : ℕ) → at % 4 ≡ 0 → i < 4 → at + i < m → get_or (key_bytes k m) (at + i) 0 ≡ key_word k (at / 4) / 256 ^ i % 256
unfolding key_bytes
byte_at k m at i h l b =
    get_d_range (key_byte k) 0 m (at + i) b ∙ ap₂ (λ (n p : ℕ). key_word k n / 256 ^ p % 256) (same_word at i h l) (same_place at i h l)
  where
    same_word : (at i : ℕ) → at % 4 ≡ 0 → i < 4 → (at + i) / 4 ≡ at / 4
    same_word at i h l = omega arith

    same_place : (at i : ℕ) → at % 4 ≡ 0 → i < 4 → (at + i) % 4 ≡ i
    same_place at i h l = omega arith

-- four bytes from a multiple of four on are the word there
pub key_four : (k : Key) (m at : ℕ) → at % 4 ≡ 0 → at + 4 ≤ m → four_bytes (key_bytes k m) at ≡ key_word k (at / 4)
unfolding four_bytes
key_four k m at h l =
    let first : get_or (key_bytes k m) at 0 ≡ key_word k (at / 4) % 256 = ap (λ (n : ℕ). get_or (key_bytes k m) n 0) (sym (add-zero at)) ∙ byte_at k m at 0 h (omega arith) (omega arith) ∙ omega arith in
    omega (arith, first, byte_at k m at 1 h (omega arith) (omega arith), byte_at k m at 2 h (omega arith) (omega arith), byte_at k m at 3 h (omega arith) (omega arith), four_back (key_word k (at / 4)) (word_lt k (at / 4)))

-- ---- where a draw reads on

-- over whole words, 64 at most
key_spends : (mode : Mode) (k : Key) (at n : ℕ) (d : Drawn) → keyed mode k at n ≡ some d → Whole at d.next × (d.next ≤ at + 256)
unfolding keyed
key_spends mode k at n d e =
    subst (IfSome (λ (x : Drawn). Whole at x.next × (x.next ≤ at + 256))) e
    (by_drawn (λ (x : Drawn). Whole at x.next × (x.next ≤ at + 256)) (λ a. key_word k (a / 4)) mode n most_spent at (record { onward = omega arith; words = refl }, omega arith)
    (λ a l m t. (record { onward = omega arith; words = omega arith }, omega arith)))

-- at most 64 words are spent on a draw
pub keyed-within : (mode : Mode) (k : Key) (at n : ℕ) (d : Drawn) → keyed mode k at n ≡ some d → (at ≤ d.next) × (d.next ≤ at + 256)
keyed-within mode k at n d e = let h = key_spends mode k at n d e in (h.0.onward, h.1)

-- the word that is so many words on from a place
word_on : (at i : ℕ) → (at + 4 * i) / 4 ≡ at / 4 + i
word_on at i = omega arith

-- a draw is dry exactly where there is more than one candidate and 64 words are spent
pub keyed_dry : (mode : Mode) (k : Key) (at n : ℕ) → keyed mode k at n ≡ none → (1 < n) × ((i : ℕ) → i < 64 → taken mode n (key_word k (at / 4 + i)) ≡ false)
keyed_dry mode k at n e =
    elim (dec_le n 1) [
      | yes h ↦ absurd (some-ne-none _ (sym (keyed_one mode k at n h) ∙ e))
      | no h ↦ let more : 1 < n = omega arith in
          (more, λ i l. ap (λ (j : ℕ). taken mode n (key_word k j)) (sym (word_on at i)) ∙ all_spent (λ a. key_word k (a / 4)) mode n 64 at (sym (keyed_more mode k at n more) ∙ e) i l)
    ]

pub keyed_spent : (mode : Mode) (k : Key) (at n : ℕ) → 1 < n → ((i : ℕ) → i < 64 → taken mode n (key_word k (at / 4 + i)) ≡ false) → keyed mode k at n ≡ none
keyed_spent mode k at n h e =
    keyed_more mode k at n h ∙ spent_dry (λ a. key_word k (a / 4)) mode n 64 at (λ i l. ap (λ (j : ℕ). taken mode n (key_word k j)) (word_on at i) ∙ e i l)

-- and whole ones
pub keyed_whole : (mode : Mode) (k : Key) (at n : ℕ) (d : Drawn) → keyed mode k at n ≡ some d → Whole at d.next
keyed_whole mode k at n d e = (key_spends mode k at n d e).0

-- ---- the same draw from lent bytes

-- the first word that is taken, among as many words of another run as it has up to a place, where both runs are the same up to there
module _ (word to : ℕ → ℕ) (mode : Mode) (n m : ℕ) (same : (a : ℕ) → a % 4 ≡ 0 → a + 4 ≤ m → word a ≡ to a) where
  taken_there : (i j at : ℕ) → at % 4 ≡ 0 → (m - at) / 4 ≤ j → IfSome (λ (d : Drawn). d.next ≤ m → first_taken to mode n j at ≡ some d) (first_taken word mode n i at)
  taken_there zero j at h l = tt
  taken_there (suc i) j at h l =
      go (taken mode n (word at)) refl (first_taken word mode n i (at + 4)) (by_taken (λ (d : Drawn). at + 4 ≤ d.next) word mode n i (at + 4) (λ a w k t. omega arith)) (taken_there i (j - 1) (at + 4) (omega arith) (omega arith))
    where
      go : (b : Bool) → taken mode n (word at) ≡ b → (o : Option Drawn) → IfSome (λ (d : Drawn). at + 4 ≤ d.next) o
          → IfSome (λ (d : Drawn). d.next ≤ m → first_taken to mode n (j - 1) (at + 4) ≡ some d) o → IfSome (λ (d : Drawn). d.next ≤ m → first_taken to mode n j at ≡ some d) (or_next b (taking word n at) o)
      go true e o s r = λ k. taken_turn to mode n j at true (omega arith) (ap (taken mode n) (sym (same at h k)) ∙ e) ∙ ap (λ (w : ℕ). some (record { place = w % n; next = at + 4 })) (sym (same at h k))
      go false e none s r = tt
      go false e (some d) s r = λ k. taken_turn to mode n j at false (omega arith) (ap (taken mode n) (sym (same at h (omega arith))) ∙ e) ∙ r k

-- a draw that ends in the first bytes of a key is the same from these bytes
pub keyed_lent : (mode : Mode) (k : Key) (m at n : ℕ) (d : Drawn) → at % 4 ≡ 0 → keyed mode k at n ≡ some d → d.next ≤ m → lent mode (key_bytes k m) at n ≡ some d
unfolding keyed draw
keyed_lent mode k m at n d h e = subst (IfSome (λ (x : Drawn). x.next ≤ m → lent mode (key_bytes k m) at n ≡ some x)) e (go (leb n 1))
  where
    go : (b : Bool)
        → IfSome (λ (x : Drawn). x.next ≤ m → cond b (some (record { place = 0; next = at })) (first_taken (four_bytes (key_bytes k m)) mode n (words_left (key_bytes k m) at) at) ≡ some x)
        (cond b (some (record { place = 0; next = at })) (first_taken (λ a. key_word k (a / 4)) mode n most_spent at))
    go true = λ l. refl
    go false = taken_there (λ a. key_word k (a / 4)) (four_bytes (key_bytes k m)) mode n m (λ a z l. sym (key_four k m a z l)) most_spent (words_left (key_bytes k m) at) at h (rw (key_length k m) (omega arith))

-- ---- reading on

-- the key after a words, and then b more
pub after_after : (k : Key) (a b : ℕ) → key_after (key_after k a) b ≡ key_after k (a + b)
after_after k a zero = ap (key_after k) (sym (add-zero a))
after_after k a (suc b) = ap next_key (after_after k a b) ∙ ap (key_after k) (sym (add-suc a b))

-- the key after m words is behind them
pub key_behind : (mode : Mode) (k : Key) (m : ℕ) → Behind (4 * m) (keyed mode k) (keyed mode (key_after k m))
unfolding keyed
key_behind mode k m = record { draws = λ at n. drawn_behind (λ a. key_word (key_after k m) (a / 4)) (λ a. key_word k (a / 4)) mode n (4 * m) same most_spent at }
  where
    further : (m a : ℕ) → suc ((4 * m + a) / 4) ≡ m + suc (a / 4)
    further m a = omega arith

    same : (a : ℕ) → key_word k ((4 * m + a) / 4) ≡ key_word (key_after k m) (a / 4)
    same a = ap (λ (n : ℕ). given_by (key_after k n)) (further m a) ∙ ap given_by (sym (after_after k m (suc (a / 4))))

-- ---- the old mode

-- it is never dry
pub old_taken : (k : Key) (at n : ℕ) → (d : Drawn) × (keyed old k at n ≡ some d)
unfolding keyed
old_taken k at n = go (leb n 1)
  where
    go : (b : Bool) → (d : Drawn) × (cond b (some (record { place = 0; next = at })) (first_taken (λ a. key_word k (a / 4)) old n most_spent at) ≡ some d)
    go true = (record { place = 0; next = at }, refl)
    go false = (taking (λ a. key_word k (a / 4)) n at, refl)
