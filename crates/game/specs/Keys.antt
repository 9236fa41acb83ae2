-- Keys, the words that they give (Marsaglia's xorwow), and a key as a source of draws (RULES 5.6). Assumes nothing.
use Rattle.std.specs.Prelude.{ℕ, ◌%◌, ◌*◌, ◌+◌, ◌/◌, ◌^◌, suc, Bool, ◌&&◌, List, [], ◌∷◌, map, eqb}
use Rattle.std.specs.Int.Bits.{bit_xor}
use Rattle.game.specs.Draws.{Mode, Source, all_words, drawn_by}
use Rattle.game.specs.Lists.{again, range}

-- a key: five words and a counter
pub record Key : Type 0 where
  pub x : ℕ
  pub y : ℕ
  pub z : ℕ
  pub w : ℕ
  pub v : ℕ
  pub counter : ℕ

-- the five words are all 0
abbrev pub blank : Key → Bool
blank k = eqb k.x 0 && eqb k.y 0 && eqb k.z 0 && eqb k.w 0 && eqb k.v 0

-- the numbers of a key: the five words and the counter
abbrev pub key_numbers : Key → List ℕ
key_numbers k = k.x ∷ k.y ∷ k.z ∷ k.w ∷ k.v ∷ k.counter ∷ []

-- a word xor itself shifted right by two bits
abbrev pub mix_right : ℕ → ℕ
mix_right word = bit_xor word (word / 2 ^ 2)

-- a word xor itself shifted left by so many bits, modulo 2^32
abbrev pub mix_left : ℕ → ℕ → ℕ
mix_left bits word = bit_xor word (word * 2 ^ bits % all_words)

-- the key after one word: each word moves down, the last is mixed from the last and the first, and the counter rises by 362437, modulo 2^32
unfoldable pub next_key : Key → Key
next_key k =
    record {
      x = k.y;
      y = k.z;
      z = k.w;
      w = k.v;
      v = bit_xor (mix_left 4 k.v) (mix_left 1 (mix_right k.x));
      counter = (k.counter + 362437) % all_words;
    }

-- the key after so many words
abbrev pub key_after : Key → ℕ → Key
key_after k n = again next_key n k

-- the word that a key has just given: its counter plus its last word, modulo 2^32
unfoldable pub given_by : Key → ℕ
given_by k = (k.counter + k.v) % all_words

-- the word n of a key, from 0
abbrev pub key_word : Key → ℕ → ℕ
key_word k n = given_by (key_after k (suc n))

-- the byte at a place of a key: each word stands for four bytes, low byte first
abbrev pub key_byte : Key → ℕ → ℕ
key_byte k at = key_word k (at / 4) / 256 ^ (at % 4) % 256

-- the first n bytes of a key
unfoldable pub key_bytes : Key → ℕ → List ℕ
key_bytes k n = map (key_byte k) (range 0 n)

-- how many words a draw from a key may spend
abbrev pub most_spent : ℕ
most_spent = 64

-- a key as a source, in a mode: a draw is from its next 64 words
unfoldable pub keyed : Mode → Key → Source
keyed mode k at n = drawn_by (λ a. key_word k (a / 4)) mode n most_spent at
