-- Sources of draws, and a draw among n from lent bytes, in the old mode and in the fair one (RULES 5.1, 5.5). Assumes nothing.
use Rattle.std.specs.Prelude.{ℕ, ◌%◌, ◌*◌, ◌+◌, ◌-◌, ◌/◌, ◌<◌, ◌≤◌, suc, zero, ◌≡◌, Bool, cond, false, true, List, get_or, length, leb, ltb}
use Rattle.std.proofs.Math.Option.{Option, none, some}

-- what a draw gives: the place that is taken, and where the next draw reads on
pub record Drawn : Type 0 where
  pub place : ℕ
  pub next : ℕ

-- a source of draws: what a draw at a place among n gives, none where the source has run dry
abbrev pub Source : Type 0
Source = ℕ → ℕ → Option Drawn

-- a source whose draws are places: among one or more it takes one of them
pub record Places (source : Source) : Type 0 where
  pub inside : (at n : ℕ) (d : Drawn) → 1 ≤ n → source at n ≡ some d → d.place < n

-- ---- words and modes

-- the modes of a draw: the old one takes every word; the fair one spends some, so that the places have even chances
pub data Mode : Type 0 where
  old fair : Mode

-- how many words there are: four bytes are a number below it
abbrev pub all_words : ℕ
all_words = 4294967296

-- the bound among n in the fair mode: 4,294,967,296 minus (4,294,967,296 mod n)
abbrev pub fair_bound : ℕ → ℕ
fair_bound n = all_words - all_words % n

-- whether a word is taken among n, or else spent: in the old mode each is taken, in the fair mode one below the bound
abbrev pub taken : Mode → ℕ → ℕ → Bool
taken old n word = true
taken fair n word = ltb word (fair_bound n)

-- the first of k words, from a place on, that is taken among n: place word mod n; none where each is spent
abbrev pub first_taken : (ℕ → ℕ) → Mode → ℕ → ℕ → ℕ → Option Drawn
first_taken word mode n zero at = none
first_taken word mode n (suc k) at =
    elim (taken mode n (word at)) [
      | true ↦ some (record { place = word at % n; next = at + 4 })
      | false ↦ first_taken word mode n k (at + 4)
    ]

-- A draw among n from k words, from a place on: n = 1 uses none and takes the first place; otherwise the first word that is taken
abbrev pub drawn_by : (ℕ → ℕ) → Mode → ℕ → ℕ → ℕ → Option Drawn
drawn_by word mode n k at = cond (leb n 1) (some (record { place = 0; next = at })) (first_taken word mode n k at)

-- ---- lent bytes

-- the four bytes from a place on as a word, low byte first
unfoldable pub four_bytes : List ℕ → ℕ → ℕ
four_bytes bytes at =
    get_or bytes at 0 + 256 * get_or bytes (at + 1) 0 + 65536 * get_or bytes (at + 2) 0 + 16777216 * get_or bytes (at + 3) 0

-- how many words are left from a place on
abbrev pub words_left : List ℕ → ℕ → ℕ
words_left bytes at = (length bytes - at) / 4

-- A draw among n: from the words that are left in the bytes
unfoldable pub draw : Mode → List ℕ → ℕ → ℕ → Option Drawn
draw mode bytes at n = drawn_by (four_bytes bytes) mode n (words_left bytes at) at

-- lent bytes as a source, in a mode
abbrev pub lent : Mode → List ℕ → Source
lent mode bytes = draw mode bytes
