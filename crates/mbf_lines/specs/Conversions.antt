-- What the programs mbf_to_line and line_to_mbf write for an input (RULES 13.7, 13.8). Assumes nothing.
use Rattle.std.specs.Prelude.{ℕ, ◌≡◌, false, true, List, [], ◌∷◌, ◌++◌, eqb, length}
use Rattle.std.proofs.Math.Option.{Option, none, some}
use Rattle.game.specs.Area.{begun}
use Rattle.game.specs.Calls.{Check, Refusal, first_given, number_of}
use Rattle.game.specs.Grid.{Grid}
use Rattle.hex_digits.specs.Hex.{byte_digits}
use Rattle.lines.specs.BoardLine.{board_line, line_grid, line_refusal, size_check}
use Rattle.mbf_form.specs.Form.{file_grid, file_of, listed_grid}
use Rattle.mbf_form.specs.Calls.{mine_checks, side_checks}

-- a refusal as it is printed: its byte as two digits, a line
abbrev pub refusal_line : Refusal → List ℕ
refusal_line f = byte_digits (number_of f) ++ 10 ∷ []

-- bytes are at the start of a lent run, and so many
pub record Printed (bytes : List ℕ) (count : ℕ) (before after : List ℕ) : Type 0 where
  pub counts : count ≡ length bytes
  pub leaves : after ≡ begun bytes before

-- ---- a file as a line

-- the checks of a file that is to be a line, in their order: SIZE, over 2,048 cells, comes right after SHAPE
abbrev pub small_file_checks : List ℕ → List Check
small_file_checks file = side_checks file ++ size_check (listed_grid file) ∷ mine_checks file

-- the refusal of such a file, if any
unfoldable pub small_file_refusal : List ℕ → Option Refusal
small_file_refusal file = first_given (small_file_checks file)

-- the board line of a grid, with its line feed, unless it is refused
abbrev pub line_unless : Option Refusal → Grid → List ℕ
line_unless (some f) g = refusal_line f
line_unless none g = board_line g ++ 10 ∷ []

-- what mbf_to_line prints for a file
unfoldable pub file_line : List ℕ → List ℕ
file_line file = line_unless (small_file_refusal file) (file_grid file)

-- ---- a line as a file

-- the first line of an input: what stands before its first line feed; nothing where there is no line
abbrev pub first_line : List ℕ → List ℕ
first_line [] = []
first_line (b ∷ bs) = elim (eqb b 10) [ true ↦ [] | false ↦ b ∷ first_line bs ]

-- the file of a grid, unless it is refused
abbrev pub file_unless : Option Refusal → Grid → List ℕ
file_unless (some f) g = refusal_line f
file_unless none g = file_of g

-- what line_to_mbf writes for an input: the file of its first line
unfoldable pub line_file : List ℕ → List ℕ
line_file input = file_unless (line_refusal (first_line input)) (line_grid (first_line input))
