-- A line made a file and a line again is the line, and a file made a line and a file again has its mines in index order: both have the mines of one grid. Assumes nothing.
use Prim.Native.Nat.{ℕ, ◌*◌, ◌≤◌}
use mathlib.Core.Path.{◌≡◌, ap, refl, sym, ◌∙◌}
use mathlib.Core.Bool.{not}
use mathlib.Core.List.{List, [], ◌∷◌, ◌++◌, append-nil, map}
use mathlib.Core.Option.{Option, none}
use lib.ListN.{length}
use borrow.Author.Tests.{eq-eqb}
use Rattle.game.specs.Lists.{range}
use Rattle.game.specs.Calls.{Refusal, board_checks, first_given}
use Rattle.game.specs.Grid.{Grid, size}
use Rattle.game.proofs.Canonical.{length_right}
use Rattle.game.proofs.Checks.{none_given}
use Rattle.lines.specs.BoardLine.{board_line, line_grid, line_refusal, value_of}
use Rattle.lines.proofs.Verdict.{length_values, passed}
use Rattle.lines.proofs.Written.{line_accepted, line_back, line-grid}
use Rattle.mbf_form.specs.Form.{file_columns, file_grid, file_of, file_rows, listed_grid, listed_values}
use Rattle.mbf_form.proofs.Accepted.{Accepted, shaped}
use Rattle.mbf_form.proofs.Listed.{length_listed}
use Rattle.mbf_form.proofs.Written.{canonical_file, written_accepted, written_grid}
use Rattle.mbf_lines.specs.Conversions.{file_line, file_unless, first_line, line_file, small_file_refusal}
use Rattle.mbf_lines.proofs.Boards.{line_passes}
use Rattle.mbf_lines.proofs.Firsts.{by_first_line, clean_line}
use Rattle.mbf_lines.proofs.Places.{canonical_line, file_place}
use Rattle.mbf_lines.proofs.Verdict.{line_printed, small, small_enough}

-- ---- what is not refused

-- the grid of an accepted file's listed mines passes the board's checks
listed_passes : (file : List ℕ) → Accepted file → first_given (board_checks (listed_grid file)) ≡ none
listed_passes file a =
    none_given (board_checks (listed_grid file)) (shaped file a, (ap not (eq-eqb (length (listed_grid file).values) (size (listed_grid file)) (length_listed file)), tt))

-- a line that is accepted is written as its file, whatever follows its line feed
file_written : (line rest : List ℕ) → first_line rest ≡ [] → line_refusal line ≡ none → line_file (line ++ rest) ≡ file_of (line_grid line)
file_written line rest h e =
    sym (by_first_line (line ++ rest) line (sym (clean_line line rest (passed line e).digits.clean ∙ ap (λ (l : List ℕ). line ++ l) h ∙ append-nil line)))
    ∙ ap (λ (o : Option Refusal). file_unless o (line_grid line)) e

-- the file of a grid has its sides
few_written : (g : Grid) → size g ≤ 2048 → file_rows (file_of g) * file_columns (file_of g) ≤ 2048
unfolding file_of
few_written g h = h

-- ---- there and back again

-- a line that is accepted, made a file and then a line again, is the line
pub line_again : (line : List ℕ) → line_refusal line ≡ none → file_line (line_file line) ≡ line ++ 10 ∷ []
line_again line e =
    let g = line_grid line in
    let passes = line_passes line e in
    ap file_line (ap line_file (sym (append-nil line)) ∙ file_written line [] refl e)
    ∙ line_printed (file_of g) (small_enough (file_of g) (written_accepted g passes) (few_written g (passed line e).few))
    ∙ ap (λ (h : Grid). board_line h ++ 10 ∷ []) (written_grid g passes)
    ∙ ap (λ (l : List ℕ). l ++ 10 ∷ []) (canonical_line g (length_values line) ∙ line_back line e)

-- a file that is accepted, made a line and then a file again, is the file with its mines in index order
pub file_again : (file : List ℕ) → small_file_refusal file ≡ none → line_file (file_line file) ≡ file_of (file_grid file)
unfolding listed_values
file_again file e =
    let s = small file e in
    let g = file_grid file in
    let sides = shaped file s.taken in
    let long = length_right (listed_grid file) in
    ap line_file (line_printed file e)
    ∙ file_written (board_line g) (10 ∷ []) refl (line_accepted g sides s.few long)
    ∙ ap file_of (line-grid g sides s.few long ∙ (λ i. record { rows = g.rows; columns = g.columns; values = map (λ p. value_of (file_place file s.taken p i)) (range 0 (size g)) }))
    ∙ sym (canonical_file (listed_grid file) (listed_passes file s.taken))
