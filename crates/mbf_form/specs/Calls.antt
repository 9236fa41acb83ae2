-- What reading and writing an MBF file come to: the answer, and the lent run at exit, for all inputs (RULES 13.3 to 13.6). Assumes nothing.
use Rattle.std.specs.Prelude.{ℕ, ◌+◌, ◌*◌, not, List, [], ◌∷◌, ◌++◌, eqb, ltb, ℤ, length}
use Rattle.std.proofs.Math.Option.{Option}
use Rattle.game.specs.Lists.{range, some_of}
use Rattle.game.specs.Grid.{Grid}
use Rattle.game.specs.Area.{begun}
use Rattle.game.specs.Calls.{Check, Refusal, board, board_checks, file_wrong, first_given, gives, shape_check, strictly}
use Rattle.lines.specs.BoardLine.{GridOutcome, cells_check, unless_refused}
use Rattle.lines.specs.Outputs.{RunOutcome, kept_run, unless_given}
use Rattle.mbf_form.specs.Form.{file_columns, file_grid, file_of, file_rows, listed_grid, mine_count, mine_places, past_edge, twice}

-- ---- reading

-- FILE: under two bytes
abbrev pub short_check : List ℕ → Check
short_check file = record { given = ltb (length file) 2; refusal = file_wrong }

-- FILE: the length isn't 4 + 2 x the mine count
abbrev pub length_check : List ℕ → Check
length_check file = record { given = not (eqb (length file) (4 + 2 * mine_count file)); refusal = file_wrong }

-- FILE: a mine past the edge
abbrev pub edge_check : List ℕ → Check
edge_check file = record { given = some_of (past_edge file) (range 0 (mine_count file)); refusal = file_wrong }

-- FILE: a mine listed twice
abbrev pub twice_check : List ℕ → Check
twice_check file = record { given = twice (mine_places file); refusal = file_wrong }

-- the checks of the width and height bytes, in their order
abbrev pub side_checks : List ℕ → List Check
side_checks file = short_check file ∷ shape_check (listed_grid file) ∷ []

-- the checks of the count and the mines, in their order
abbrev pub mine_checks : List ℕ → List Check
mine_checks file = length_check file ∷ edge_check file ∷ twice_check file ∷ []

-- the refusal of a file, if any
unfoldable pub file_refusal : List ℕ → Option Refusal
file_refusal file = first_given (side_checks file ++ mine_checks file)

-- a file read: rows and columns, and the grid's values at the start of the lent run; BOARD, for too short a run, comes last
unfoldable pub read_file_call : List ℕ → List ℤ → GridOutcome
read_file_call file lent =
    unless_refused (first_given (side_checks file ++ mine_checks file ++ cells_check (listed_grid file) lent ∷ [])) lent
    (record { answer = gives (file_rows file ∷ file_columns file ∷ []); values = begun (file_grid file).values lent })

-- ---- writing

-- BOARD: the output has no room for the file
abbrev pub output_check : Grid → List ℕ → Check
output_check g lent = record { given = ltb (length lent) (length (file_of g)); refusal = board }

-- a grid written: how many bytes its file has, at the start of the lent run
unfoldable pub write_file_call : Grid → List ℕ → RunOutcome
write_file_call g lent =
    unless_given (first_given (board_checks g ++ output_check g lent ∷ [])) lent
    (record { answer = gives (length (file_of g) ∷ []); run = begun (file_of g) lent })

-- the same, strictly: NUMBER stands before the output's BOARD
abbrev pub strict_write_file_call : Grid → List ℕ → RunOutcome
strict_write_file_call g lent = strictly (kept_run lent) g (write_file_call g lent)
