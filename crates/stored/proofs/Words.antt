-- Moves of four bytes: each stands where its bytes stand, and its digits are as many as eight. Assumes nothing.
use Prim.Native.Nat.{ℕ, zero, suc, ◌+◌, ◌*◌, ◌/◌, ◌%◌, ◌<◌, ◌≤◌}
use native.Mathlib.Omega.{arith}
use native.Mathlib.Numerals.{add-one}
use mathlib.Core.Path.{◌≡◌, ap, refl, sym, ◌∙◌}
use mathlib.Core.List.{List, [], ◌∷◌, ◌++◌}
use lib.ListN.{drop, get_or, length, length-drop, set, take}
use lib.Seq.{get_or-drop, length-take-le, sets, take-suc}
use Rattle.game.specs.Lists.{concat_map}
use Rattle.game.specs.Area.{begun}
use Rattle.hex_digits.specs.Hex.{byte_digits, bytes_of}
use Rattle.stored.specs.MoveLine.{move_line, word_bytes, word_digits, words_of}
use Rattle.hex_digits.proofs.Bytes.{length_bytes, sets_begun, sets_more}
use Rattle.lines.proofs.Priced.{two_digits}
use Rattle.lines.proofs.Runs.{begun_more}
use Rattle.game.proofs.Members.{concat_map_append}

-- ---- moves read

four_more : (k j : ℕ) → 4 * suc k + j ≡ suc (suc (suc (suc (4 * k + j))))
four_more k j = omega arith

words_here : (bs : List ℕ) (k : ℕ) → 4 * k + 4 ≤ length bs → get_or (words_of bs) k 0 ≡ 16777216 * get_or bs (4 * k + 0) 0 + 65536 * get_or bs (4 * k + 1) 0 + 256 * get_or bs (4 * k + 2) 0 + get_or bs (4 * k + 3) 0
words_here [] k h = absurd (omega arith)
words_here (a ∷ []) k h = absurd (omega arith)
words_here (a ∷ b ∷ []) k h = absurd (omega arith)
words_here (a ∷ b ∷ c ∷ []) k h = absurd (omega arith)
words_here (a ∷ b ∷ c ∷ d ∷ bs) zero h = refl
words_here (a ∷ b ∷ c ∷ d ∷ bs) (suc k) h =
    words_here bs k (omega arith)
    ∙ sym (λ i. 16777216 * get_or (a ∷ b ∷ c ∷ d ∷ bs) (four_more k 0 i) 0 + 65536 * get_or (a ∷ b ∷ c ∷ d ∷ bs) (four_more k 1 i) 0 + 256 * get_or (a ∷ b ∷ c ∷ d ∷ bs) (four_more k 2 i) 0 + get_or (a ∷ b ∷ c ∷ d ∷ bs) (four_more k 3 i) 0)

length_words : (bs : List ℕ) → length (words_of bs) ≡ length bs / 4
length_words [] = refl
length_words (a ∷ []) = refl
length_words (a ∷ b ∷ []) = refl
length_words (a ∷ b ∷ c ∷ []) = refl
length_words (a ∷ b ∷ c ∷ d ∷ bs) = let h = length_words bs in omega arith

-- the moves of a line
abbrev pub words_in : List ℕ → List ℕ
words_in line = words_of (drop 2 (bytes_of line))

pub length_stored : (line : List ℕ) → length line % 8 ≡ 4 → length (words_in line) ≡ length line / 8
length_stored line h = omega (arith, length_words (drop 2 (bytes_of line)), length-drop 2 (bytes_of line), length_bytes line)

module _ (line : List ℕ) (k : ℕ) (room : 8 * k + 12 ≤ length line) where
  there : (j m : ℕ) → m ≡ 4 * k + (j + 2) → get_or (drop 2 (bytes_of line)) (4 * k + j) 0 ≡ get_or (bytes_of line) m 0
  there j m e = get_or-drop 2 (bytes_of line) (4 * k + j) 0 ∙ ap (λ (n : ℕ). get_or (bytes_of line) n 0) (omega arith)

  word_here : get_or (words_in line) k 0 ≡ 16777216 * get_or (bytes_of line) (4 * k + 2) 0 + 65536 * get_or (bytes_of line) (4 * k + 3) 0 + 256 * get_or (bytes_of line) (4 * k + 4) 0 + get_or (bytes_of line) (4 * k + 5) 0
  word_here =
      words_here (drop 2 (bytes_of line)) k (omega (arith, length-drop 2 (bytes_of line), length_bytes line))
      ∙ (λ i. 16777216 * there 0 (4 * k + 2) refl i + 65536 * there 1 (4 * k + 3) refl i + 256 * there 2 (4 * k + 4) refl i + there 3 (4 * k + 5) refl i)

  -- the move of four bytes that were read
  pub word_read : (a b c d : ℕ) → a ≡ get_or (bytes_of line) (4 * k + 2) 0 → b ≡ get_or (bytes_of line) (4 * k + 3) 0 → c ≡ get_or (bytes_of line) (4 * k + 4) 0 → d ≡ get_or (bytes_of line) (4 * k + 5) 0
      → 16777216 * a + 65536 * b + 256 * c + d ≡ get_or (words_in line) k 0
  word_read a b c d e f g h = (λ i. 16777216 * e i + 65536 * f i + 256 * g i + h i) ∙ sym word_here

-- one move more in a list that begins with moves
pub list_more : (words old now : List ℕ) (k v : ℕ) → now ≡ begun (take k words) old → v ≡ get_or words k 0 → k < length words → length words ≤ length old → set now k v ≡ begun (take (k + 1) words) old
list_more words old now k v e q h r =
    (λ i. set (e i) k (q i))
    ∙ begun_more (take k words) old k (get_or words k 0) 0 (length-take-le k words (omega arith)) (omega arith)
    ∙ ap (λ (l : List ℕ). begun l old) (sym (ap (λ (n : ℕ). take n words) (add-one k) ∙ take-suc words k 0 h))

-- ---- moves written

pub word-digits : (w : ℕ) → two_digits (w / 65536) ++ two_digits (w % 65536) ≡ concat_map byte_digits (word_bytes w)
word-digits w = λ i. concat_map byte_digits (first i ∷ w / 65536 % 256 ∷ third i ∷ fourth i ∷ [])
  where
    first : w / 65536 / 256 % 256 ≡ w / 16777216 % 256
    first = omega arith

    third : w % 65536 / 256 % 256 ≡ w / 256 % 256
    third = omega arith

    fourth : w % 65536 % 256 ≡ w % 256
    fourth = omega arith

pub length_digits : (ws : List ℕ) → length (word_digits ws) ≡ 8 * length ws
length_digits [] = refl
length_digits (w ∷ ws) = let h = length_digits ws in omega arith

pub length_line : (rows columns : ℕ) (ws : List ℕ) → length (move_line rows columns ws) ≡ 8 * length ws + 4
unfolding move_line
length_line rows columns ws = let h = length_digits ws in omega arith

-- the digits of one move more
pub digits_more : (ws : List ℕ) (k : ℕ) → k < length ws → word_digits (take (k + 1) ws) ≡ word_digits (take k ws) ++ concat_map byte_digits (word_bytes (get_or ws k 0))
digits_more ws k h =
    ap word_digits (ap (λ (n : ℕ). take n ws) (add-one k) ∙ take-suc ws k 0 h)
    ∙ ap (concat_map byte_digits) (concat_map_append word_bytes (take k ws) (get_or ws k 0 ∷ []))
    ∙ concat_map_append byte_digits (concat_map word_bytes (take k ws)) (word_bytes (get_or ws k 0))

-- rows, columns and the moves put one after the other
pub line_there : (rows columns : ℕ) (ws old a b new : List ℕ) → 8 * length ws + 4 ≤ length old → a ≡ sets old 0 (byte_digits rows) → b ≡ sets a 2 (byte_digits columns) → new ≡ sets b 4 (word_digits ws)
    → new ≡ begun (move_line rows columns ws) old
unfolding move_line
line_there rows columns ws old a b new h e f g =
    g
    ∙ ap (λ (l : List ℕ). sets l 4 (word_digits ws)) (f ∙ ap (λ (l : List ℕ). sets l 2 (byte_digits columns)) e)
    ∙ sets_more old 0 4 (byte_digits rows ++ byte_digits columns) (word_digits ws) refl
    ∙ sets_begun (move_line rows columns ws) old (omega (arith, length_line rows columns ws))
