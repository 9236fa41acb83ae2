-- A board line (RULES 9.2): rows, columns, then mine bits row by row, high bit first, last byte padded with 0 bits. Assumes nothing.
use Rattle.std.specs.Prelude.{ℕ, ◌+◌, ◌-◌, ◌*◌, ◌/◌, ◌%◌, ◌^◌, Bool, ◌||◌, cond, not, List, [], ◌∷◌, ◌++◌, map, eqb, ltb, ℤ, pos, negsuc, get_or, length}
use Rattle.std.proofs.Math.Option.{Option, none, some}
use Rattle.game.specs.Lists.{bit, concat_map, fold, range, some_of}
use Rattle.game.specs.Grid.{Grid, is_mine, size}
use Rattle.game.specs.Area.{begun}
use Rattle.game.specs.Calls.{Answer, Check, Refusal, board, first_given, frame, gives, refuses, shape_check, size_over}
use Rattle.hex_digits.specs.Hex.{byte_digits, bytes_of, is_wrong}

-- the bit at a place of a run of bytes, high bit first
unfoldable pub bit_at : List ℕ → ℕ → Bool
bit_at bytes k = eqb (get_or bytes (k / 8) 0 / 2 ^ (7 - k % 8) % 2) 1

-- the mine bits come after rows and columns: the bit at a place of them
abbrev pub mine_bit : List ℕ → ℕ → Bool
mine_bit bytes k = bit_at bytes (16 + k)

-- one of the mine bits from one place up to another is set
unfoldable pub bit_between : List ℕ → ℕ → ℕ → Bool
bit_between bytes a b = some_of (mine_bit bytes) (range a b)

-- -1 for a mine bit, 0 for another
abbrev pub value_of : Bool → ℤ
value_of b = cond b (negsuc 0) (pos 0)

-- the values of n cells
abbrev pub cell_values : List ℕ → ℕ → List ℤ
cell_values bytes n = map (λ k. value_of (mine_bit bytes k)) (range 0 n)

-- the grid that the bytes of a board line stand for
unfoldable pub grid_of_bytes : List ℕ → Grid
grid_of_bytes bytes =
    record {
      rows = get_or bytes 0 0;
      columns = get_or bytes 1 0;
      values = cell_values bytes (get_or bytes 0 0 * get_or bytes 1 0);
    }

-- the grid that a board line stands for
abbrev pub line_grid : List ℕ → Grid
line_grid line = grid_of_bytes (bytes_of line)

-- the bytes that the mine bits of n cells take
abbrev pub bit_bytes : ℕ → ℕ
bit_bytes n = (n + 7) / 8

-- the value at a place of a grid's run is a mine; past its end there is none
abbrev pub place_mine : Grid → ℕ → Bool
place_mine g p = is_mine (get_or g.values p (pos 0))

-- the byte of that place among bits: eight of them, high bit first
unfoldable pub byte_of_bits : (ℕ → Bool) → ℕ → ℕ
byte_of_bits bits k = fold (λ b j. 2 * b + bit (bits (8 * k + j))) 0 (range 0 8)

-- the board line of a grid: rows, columns, then mine bits row by row, high bit first, last byte padded with 0 bits
unfoldable pub board_line : Grid → List ℕ
board_line g = concat_map byte_digits (g.rows ∷ g.columns ∷ map (byte_of_bits (place_mine g)) (range 0 (bit_bytes (size g))))

-- the checks of the digits alone: wrong character, odd digits, fewer than 4 or more than 516 digits
abbrev pub digit_checks : List ℕ → List Check
digit_checks line =
    record { given = some_of is_wrong line; refusal = frame }
    ∷ record { given = eqb (length line % 2) 1; refusal = frame }
    ∷ record { given = ltb (length line) 4 || ltb 516 (length line); refusal = frame }
    ∷ []

-- one of them is given
unfoldable pub digits_refused : List ℕ → Bool
digits_refused line = some_of (λ (c : Check). c.given) (digit_checks line)

-- SIZE: over 2,048 cells
abbrev pub size_check : Grid → Check
size_check g = record { given = ltb 2048 (size g); refusal = size_over }

-- FRAME: the mine bits of a grid don't take as many bytes as the line has after rows and columns
abbrev pub bytes_check : Grid → List ℕ → Check
bytes_check g bytes = record { given = not (eqb (length bytes) (2 + bit_bytes (size g))); refusal = frame }

-- FRAME: a padding bit is set
abbrev pub padding_check : Grid → List ℕ → Check
padding_check g bytes =
    record { given = bit_between bytes (size g) (8 * bit_bytes (size g)); refusal = frame }

-- the checks of a board line, in their order
abbrev pub board_line_checks : List ℕ → List Check
board_line_checks line =
    digit_checks line
    ++ shape_check (line_grid line)
    ∷ size_check (line_grid line)
    ∷ bytes_check (line_grid line) (bytes_of line)
    ∷ padding_check (line_grid line) (bytes_of line)
    ∷ []

-- the refusal of a board line, if any
unfoldable pub line_refusal : List ℕ → Option Refusal
line_refusal line = first_given (board_line_checks line)

-- what reading a board line comes to: the answer, and the lent run of values at exit
pub record GridOutcome : Type 0 where
  pub answer : Answer
  pub values : List ℤ

-- BOARD: the lent run has no room for the cells
abbrev pub cells_check : Grid → List ℤ → Check
cells_check g lent = record { given = ltb (length lent) (size g); refusal = board }

-- a refused line changes nothing lent
abbrev pub unless_refused : Option Refusal → List ℤ → GridOutcome → GridOutcome
unless_refused (some f) lent o = record { answer = refuses f; values = lent }
unless_refused none lent o = o

-- a board line read: rows and columns, and the values at the start of the lent run
unfoldable pub board_line_call : List ℕ → List ℤ → GridOutcome
board_line_call line lent =
    unless_refused (first_given (board_line_checks line ++ cells_check (line_grid line) lent ∷ [])) lent
    (record {
      answer = gives ((line_grid line).rows ∷ (line_grid line).columns ∷ []);
      values = begun (line_grid line).values lent;
    })
