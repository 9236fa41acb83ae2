-- Stored move lists: what is written is read back the same, and what is read was written so. Assumes nothing.
use Prim.Native.Nat.{ℕ, ◌+◌, ◌*◌, ◌/◌, ◌%◌, ◌<◌, ◌≤◌}
use native.Mathlib.Omega.{arith}
use mathlib.Core.Path.{◌≡◌, ap, ap₂, refl, ◌∙◌}
use mathlib.Core.List.{List, [], ◌∷◌}
use mathlib.Core.Option.{none}
use lib.Dec.{ltb}
use lib.ListN.{drop, get_or, length, length-drop}
use Rattle.game.specs.Lists.{Each, concat_map}
use Rattle.game.specs.Calls.{first_given, trace}
use Rattle.game.proofs.KeyDraws.{four_back}
use Rattle.hex_digits.specs.Hex.{byte_digits, bytes_of, hex_digit}
use Rattle.stored.specs.MoveLine.{move_line, move_line_checks, stored_of, word_bytes, words_of}
use Rattle.hex_digits.proofs.Bytes.{length_bytes}
use Rattle.hex_digits.proofs.Back.{bytes_back, bytes_clean, bytes_small, digits_back, small_drop, two_first}
use Rattle.lines.proofs.Verdict.{columns_byte, rows_byte}
use Rattle.stored.proofs.Words.{length_line, words_in}
use Rattle.stored.proofs.MoveCalls.{but_room, passed_moves}

-- numbers below a limit
abbrev pub Below : ℕ → List ℕ → Type 0
Below limit = Each (λ n. n < limit)

-- ---- moves and their bytes

words_small : (ws : List ℕ) → Below 256 (concat_map word_bytes ws)
words_small [] = tt
words_small (w ∷ ws) = (omega arith, (omega arith, (omega arith, (omega arith, words_small ws))))

words_back : (ws : List ℕ) → Below 4294967296 ws → words_of (concat_map word_bytes ws) ≡ ws
words_back [] s = refl
words_back (w ∷ ws) s = ap₂ (λ (v : ℕ) (vs : List ℕ). v ∷ vs) (omega (arith, four_back w s.0)) (words_back ws s.1)

moves_back : (bs : List ℕ) → Below 256 bs → length bs % 4 ≡ 0 → concat_map word_bytes (words_of bs) ≡ bs
moves_back [] s h = refl
moves_back (a ∷ []) s h = absurd (omega arith)
moves_back (a ∷ b ∷ []) s h = absurd (omega arith)
moves_back (a ∷ b ∷ c ∷ []) s h = absurd (omega arith)
moves_back (a ∷ b ∷ c ∷ d ∷ bs) s h =
    let p : a < 256 = s.0 in
    let q : b < 256 = s.1.0 in
    let r : c < 256 = s.1.1.0 in
    let t : d < 256 = s.1.1.1.0 in
    let w = 16777216 * a + 65536 * b + 256 * c + d in
    let e : w / 16777216 % 256 ≡ a = omega arith in
    let f : w / 65536 % 256 ≡ b = omega arith in
    let g : w / 256 % 256 ≡ c = omega arith in
    let k : w % 256 ≡ d = omega arith in
    λ i. e i ∷ f i ∷ g i ∷ k i ∷ moves_back bs s.1.1.1.1 (omega arith) i

-- ---- written and read back

module _ (rows columns : ℕ) (words : List ℕ) (some_rows : 1 ≤ rows) (few_rows : rows ≤ 255) (some_columns : 1 ≤ columns) (few_columns : columns ≤ 255) (small : Below 4294967296 words) where
  all_small : Below 256 (rows ∷ columns ∷ concat_map word_bytes words)
  all_small = (omega arith, (omega arith, words_small words))

  bytes_are : bytes_of (move_line rows columns words) ≡ rows ∷ columns ∷ concat_map word_bytes words
  unfolding move_line
  bytes_are = bytes_back (rows ∷ columns ∷ concat_map word_bytes words) (all_small)

  -- a written line holds its rows, columns and moves
  pub read_written : stored_of (move_line rows columns words) ≡ record { rows = rows; columns = columns; words = words }
  unfolding stored_of
  read_written =
      let e = bytes_are in
      λ i. record {
        rows = get_or (e i) 0 0;
        columns = get_or (e i) 1 0;
        words = (ap (λ (bs : List ℕ). words_of (drop 2 bs)) e ∙ words_back words small) i;
      }

  -- and no check refuses it but for room
  pub written_passes : (lent : List ℕ) → first_given (move_line_checks (move_line rows columns words) lent) ≡ first_given (record { given = ltb (length lent) (length words); refusal = trace } ∷ [])
  unfolding move_line
  written_passes lent =
      let e = bytes_are in
      let r : rows_byte (move_line rows columns words) ≡ rows = ap (λ (bs : List ℕ). get_or bs 0 0) e in
      let c : columns_byte (move_line rows columns words) ≡ columns = ap (λ (bs : List ℕ). get_or bs 1 0) e in
      let n = length_line rows columns words in
      let w : words_in (move_line rows columns words) ≡ words = ap (λ (bs : List ℕ). words_of (drop 2 bs)) e ∙ words_back words small in
      but_room (move_line rows columns words) lent (bytes_clean (rows ∷ columns ∷ concat_map word_bytes words) (all_small)) (omega arith) (omega arith)
      (λ q. omega arith) (omega arith) (λ q. omega arith) (omega arith)
      ∙ ap (λ (ws : List ℕ). first_given (record { given = ltb (length lent) (length ws); refusal = trace } ∷ [])) w

-- a line that passes its checks is the line of what it stores
pub written_read : (line lent : List ℕ) → first_given (move_line_checks line lent) ≡ none → move_line (stored_of line).rows (stored_of line).columns (stored_of line).words ≡ line
unfolding move_line stored_of
written_read line lent e =
    let p = passed_moves line lent e in
    let l = length_bytes line in
    let d = length-drop 2 (bytes_of line) in
    let whole = p.whole in
    let enough = p.enough in
    ap (λ (bs : List ℕ). concat_map byte_digits (rows_byte line ∷ columns_byte line ∷ bs)) (moves_back (drop 2 (bytes_of line)) (small_drop (bytes_of line) (bytes_small line)) (omega arith))
    ∙ ap (concat_map byte_digits) (two_first (bytes_of line) (omega arith))
    ∙ digits_back line p.clean (omega arith)

-- P7's line, 0202000100010002000000030001, is that of L1 F0 C1
pub p7_line : move_line 2 2 (65537 ∷ 131072 ∷ 196609 ∷ [])
    ≡ 48 ∷ 50 ∷ 48 ∷ 50 ∷ 48 ∷ 48 ∷ 48 ∷ 49 ∷ 48 ∷ 48 ∷ 48 ∷ 49 ∷ 48 ∷ 48 ∷ 48 ∷ 50 ∷ 48 ∷ 48 ∷ 48 ∷ 48 ∷ 48 ∷ 48 ∷ 48 ∷ 51 ∷ 48 ∷ 48 ∷ 48 ∷ 49 ∷ []
unfolding move_line hex_digit
p7_line = refl
