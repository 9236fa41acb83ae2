-- The grids that the strict calls accept are exactly those that files stand for: both are the canonical grids that pass SHAPE and BOARD; and a grid written strictly. Assumes nothing.
use Prim.Native.Nat.{ℕ}
use mathlib.Core.Path.{◌≡◌, sym, ◌∙◌}
use mathlib.Core.List.{List, [], ◌∷◌}
use mathlib.Core.Option.{none}
use Rattle.game.specs.Calls.{board_checks, first_given, number_wrong, strict_checks}
use Rattle.game.specs.Grid.{Grid}
use Rattle.game.proofs.Canonical.{canonical_mines, canonical_same}
use Rattle.game.proofs.Strict.{AllRight, Fault, accepted_board, accepted→, →accepted}
use Rattle.game.proofs.StrictCalls.{same-strictly, strict_fault}
use Rattle.lines.specs.Outputs.{kept_run}
use Rattle.mbf_form.specs.Form.{file_grid, file_of, listed_grid}
use Rattle.mbf_form.specs.Calls.{file_refusal, output_check, strict_write_file_call, write_file_call}
use Rattle.mbf_form.proofs.Accepted.{accepted}
use Rattle.mbf_form.proofs.Listed.{length_listed}
use Rattle.mbf_form.proofs.Order.{grid_passes}
use Rattle.mbf_form.proofs.Written.{written_accepted, written_grid}

-- a grid that the strict checks accept is what its file stands for
pub accepted_file : (g : Grid) → first_given (strict_checks g) ≡ none → (file_refusal (file_of g) ≡ none) × (file_grid (file_of g) ≡ g)
accepted_file g e =
    let passes = accepted_board g e in (written_accepted g passes, written_grid g passes ∙ sym (accepted→ g e))

-- the grid of a file that passes is accepted
pub file_accepted : (file : List ℕ) → file_refusal file ≡ none → first_given (strict_checks (file_grid file)) ≡ none
file_accepted file e =
    →accepted (file_grid file) (grid_passes file (accepted file e))
    (canonical_same (listed_grid file) (file_grid file).values (canonical_mines (listed_grid file) (length_listed file)))

-- on a grid without a wrong value writing strictly is writing, also where SHAPE or BOARD refuses
pub right_write : (g : Grid) (lent : List ℕ) → AllRight g → strict_write_file_call g lent ≡ write_file_call g lent
unfolding write_file_call
right_write g lent r = same-strictly (kept_run lent) g (output_check g lent ∷ []) _ r

-- on any other that passes it is NUMBER, whatever the output's length
pub fault_write : (g : Grid) (lent : List ℕ) → first_given (board_checks g) ≡ none → (f : Fault g) → strict_write_file_call g lent ≡ kept_run lent (number_wrong f.cell)
fault_write g lent e f = strict_fault (kept_run lent) g (write_file_call g lent) e f
