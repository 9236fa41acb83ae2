-- A stored move list is a line (RULES 9.4, 9.5): rows, columns, then each move as four bytes, high first. Assumes nothing.
use Rattle.std.specs.Prelude.{ℕ, ◌+◌, ◌*◌, ◌/◌, ◌%◌, ◌||◌, not, List, [], ◌∷◌, eqb, ltb, get_or, length, take, drop}
use Rattle.game.specs.Lists.{concat_map, some_of}
use Rattle.game.specs.Area.{begun}
use Rattle.game.specs.Calls.{Check, first_given, frame, gives, shape, side_out, trace}
use Rattle.hex_digits.specs.Hex.{byte_digits, bytes_of, is_wrong}
use Rattle.lines.specs.Outputs.{RunOutcome, unless_given}

-- a word as four bytes, high first
abbrev pub word_bytes : ℕ → List ℕ
word_bytes w = w / 16777216 % 256 ∷ w / 65536 % 256 ∷ w / 256 % 256 ∷ w % 256 ∷ []

-- the words of bytes, four each, high first; fewer than four give none
abbrev pub words_of : List ℕ → List ℕ
words_of (a ∷ b ∷ c ∷ d ∷ bs) = (16777216 * a + 65536 * b + 256 * c + d) ∷ words_of bs
words_of (a ∷ b ∷ c ∷ []) = []
words_of (a ∷ b ∷ []) = []
words_of (a ∷ []) = []
words_of [] = []

-- the digits of moves
abbrev pub word_digits : List ℕ → List ℕ
word_digits words = concat_map byte_digits (concat_map word_bytes words)

-- the line of rows, columns and moves
unfoldable pub move_line : ℕ → ℕ → List ℕ → List ℕ
move_line rows columns words = concat_map byte_digits (rows ∷ columns ∷ concat_map word_bytes words)

-- what a line of moves holds
pub record Stored : Type 0 where
  pub rows : ℕ
  pub columns : ℕ
  pub words : List ℕ

-- the rows, columns and moves of a line
unfoldable pub stored_of : List ℕ → Stored
stored_of line =
    record {
      rows = get_or (bytes_of line) 0 0;
      columns = get_or (bytes_of line) 1 0;
      words = words_of (drop 2 (bytes_of line));
    }

-- the checks of a stored line, in their order: wrong character, fewer than 4 digits, no whole number of moves; SHAPE; no room
abbrev pub move_line_checks : List ℕ → List ℕ → List Check
move_line_checks line lent =
    record { given = some_of is_wrong line; refusal = frame }
    ∷ record { given = ltb (length line) 4 || not (eqb (length line % 8) 4); refusal = frame }
    ∷ record { given = side_out (stored_of line).rows || side_out (stored_of line).columns; refusal = shape }
    ∷ record { given = ltb (length lent) (length (stored_of line).words); refusal = trace }
    ∷ []

-- a stored line read: rows, columns and how many moves, and the moves at the start of the list
unfoldable pub read_moves_call : List ℕ → List ℕ → RunOutcome
read_moves_call line lent =
    unless_given (first_given (move_line_checks line lent)) lent
    (record {
      answer = gives ((stored_of line).rows ∷ (stored_of line).columns ∷ length (stored_of line).words ∷ []);
      run = begun (stored_of line).words lent;
    })

-- the checks before a line is written, in their order: SHAPE; TRACE for more moves than the list has, or too little room for their digits
abbrev pub write_checks : ℕ → ℕ → List ℕ → ℕ → List ℕ → List Check
write_checks rows columns list n lent =
    record { given = side_out rows || side_out columns; refusal = shape }
    ∷ record { given = ltb (length list) n; refusal = trace }
    ∷ record { given = ltb (length lent) (4 + 8 * n); refusal = trace }
    ∷ []

-- the first n moves of a list written as a line: its digits' count, and the digits at the start of the lent run
unfoldable pub write_moves_call : ℕ → ℕ → List ℕ → ℕ → List ℕ → RunOutcome
write_moves_call rows columns list n lent =
    unless_given (first_given (write_checks rows columns list n lent)) lent
    (record {
      answer = gives ((4 + 8 * n) ∷ []);
      run = begun (move_line rows columns (take n list)) lent;
    })
