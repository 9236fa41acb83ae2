-- The checks of a file that is to be a line: those of its sides, then SIZE, then those of its mines. Assumes nothing.
use Prim.Native.Nat.{ℕ, ◌*◌, ◌<◌, ◌≤◌}
use mathlib.Core.Path.{◌≡◌, ap, sym, ◌∙◌}
use mathlib.Core.Bool.{Bool, false, true}
use mathlib.Core.List.{List, [], ◌∷◌, ◌++◌}
use mathlib.Core.Option.{Option, none, some}
use lib.Dec.{ltb}
use lib.ListN.{length}
use borrow.Author.Tests.{le-ltb, lt-ltb, ltb-false}
use Rattle.game.specs.Calls.{Refusal, first_given, size_over}
use Rattle.game.proofs.Checks.{each_fails, given_append, none_given, or_else}
use Rattle.lines.specs.BoardLine.{board_line, size_check}
use Rattle.mbf_form.specs.Form.{file_columns, file_grid, file_rows, listed_grid}
use Rattle.mbf_form.specs.Calls.{file_refusal, mine_checks, side_checks}
use Rattle.mbf_form.proofs.Accepted.{Accepted, accepted}
use Rattle.mbf_lines.specs.Conversions.{file_line, line_unless, refusal_line, small_file_checks, small_file_refusal}

-- ---- the refusal by the tests

module _ (file : List ℕ) where
  -- the verdict on the sides, or else on the cells and the mines
  in_parts : (o : Option Refusal) (t : Bool) → first_given (side_checks file) ≡ o → ltb 2048 (file_rows file * file_columns file) ≡ t
      → or_else o (first_given (record { given = t; refusal = size_over } ∷ mine_checks file)) ≡ small_file_refusal file
  unfolding small_file_refusal
  in_parts o t e f =
      sym (given_append (side_checks file) (size_check (listed_grid file) ∷ mine_checks file)
      ∙ (λ i. or_else (e i) (first_given (record { given = f i; refusal = size_over } ∷ mine_checks file))))

  pub sides_refused : (f : Refusal) → some f ≡ first_given (side_checks file) → some f ≡ small_file_refusal file
  unfolding or_else
  sides_refused f e = in_parts (some f) _ (sym e) (λ i. ltb 2048 (file_rows file * file_columns file))

  module _ (sides : first_given (side_checks file) ≡ none) where
    pub two-bytes : 2 ≤ length file
    two-bytes = ltb-false (length file) 2 (each_fails (side_checks file) sides).0

    pub many_cells : 2048 < file_rows file * file_columns file → some size_over ≡ small_file_refusal file
    unfolding or_else
    many_cells h = in_parts none true sides (lt-ltb 2048 (file_rows file * file_columns file) h)

    pub mines_decide : file_rows file * file_columns file ≤ 2048 → first_given (mine_checks file) ≡ small_file_refusal file
    unfolding or_else
    mines_decide h = in_parts none false sides (le-ltb 2048 (file_rows file * file_columns file) h)

-- ---- what is printed

-- the refusal of a file that is refused
pub refusal_printed : (file : List ℕ) (f : Refusal) → some f ≡ small_file_refusal file → refusal_line f ≡ file_line file
unfolding file_line
refusal_printed file f e = ap (λ (o : Option Refusal). line_unless o (file_grid file)) e

-- the line of one that is not
pub line_printed : (file : List ℕ) → small_file_refusal file ≡ none → file_line file ≡ board_line (file_grid file) ++ 10 ∷ []
unfolding file_line
line_printed file e = ap (λ (o : Option Refusal). line_unless o (file_grid file)) e

-- ---- where nothing is refused

-- what the checks leave of a file
pub record SmallFile (file : List ℕ) : Type 0 where
  pub taken : Accepted file
  pub few : file_rows file * file_columns file ≤ 2048

pub small : (file : List ℕ) → small_file_refusal file ≡ none → SmallFile file
unfolding small_file_refusal file_refusal
small file e =
    let h = each_fails (small_file_checks file) e in
    record {
      taken = accepted file (none_given (side_checks file ++ mine_checks file) (h.0, (h.1.0, h.1.1.1)));
      few = ltb-false 2048 (file_rows file * file_columns file) h.1.1.0;
    }

-- a file that is accepted is one that can be a line, where it has at most 2,048 cells
pub small_enough : (file : List ℕ) → file_refusal file ≡ none → file_rows file * file_columns file ≤ 2048 → small_file_refusal file ≡ none
unfolding small_file_refusal file_refusal
small_enough file e h =
    let f = each_fails (side_checks file ++ mine_checks file) e in
    none_given (small_file_checks file) (f.0, (f.1.0, (le-ltb 2048 (file_rows file * file_columns file) h, f.1.1)))
