-- What reading a file comes to, by the verdicts on its sides, its mines and the room, and the grid that its bits are. Assumes nothing.
use Prim.Native.Nat.{ℕ, ◌*◌, ◌<◌, ◌≤◌}
use native.Mathlib.Omega.{arith}
use mathlib.Core.Path.{◌≡◌, sym, ◌∙◌}
use mathlib.Core.List.{List, [], ◌∷◌, ◌++◌, map}
use mathlib.Core.Option.{none, some}
use lib.IntN.{ℤ}
use lib.ListN.{length}
use Rattle.game.specs.Area.{begun}
use Rattle.game.specs.Calls.{Refusal, board, first_given, gives, refuses}
use Rattle.game.specs.Grid.{right_values}
use Rattle.game.specs.Lists.{range}
use Rattle.area.specs.Stages.{Shape}
use Rattle.checks.proofs.More.{enough, first_stands, last_decides, too_low}
use Rattle.lines.specs.Answers.{KeepsGrid}
use Rattle.lines.specs.BoardLine.{cells_check, value_of}
use Rattle.lines.proofs.Outputs.{grid_else, grid_refused}
use Rattle.mbf_form.specs.Form.{file_columns, file_grid, file_rows, listed_grid, listed_values, mine_places}
use Rattle.mbf_form.specs.Calls.{file_refusal, mine_checks, read_file_call, side_checks}
use Rattle.mbf_form.proofs.Accepted.{accepted}
use Rattle.mbf_checks.specs.Marks.{BitsOf}
use Rattle.mbf_read.specs.Numbers.{bit_grid}

module _ (file : List ℕ) (lent : List ℤ) where
  -- refused for its sides
  pub sides_refused : (f : Refusal) → some f ≡ first_given (side_checks file) → KeepsGrid (read_file_call file lent) (refuses f) lent
  unfolding read_file_call
  sides_refused f e = grid_refused _ lent _ f (first_stands (side_checks file) (mine_checks file ++ cells_check (listed_grid file) lent ∷ []) f e)

  -- refused for its count or its mines
  pub mines_refused : (f : Refusal) → none ≡ first_given (side_checks file) → some f ≡ first_given (mine_checks file) → KeepsGrid (read_file_call file lent) (refuses f) lent
  unfolding read_file_call
  mines_refused f e g =
      let room = cells_check (listed_grid file) lent ∷ [] in
      grid_refused _ lent _ f (first_stands (mine_checks file) room f g ∙ last_decides (side_checks file) (mine_checks file ++ room) e)

  module _ (fine : file_refusal file ≡ none) where
    -- refused for the room
    pub room_refused : length lent < file_rows file * file_columns file → KeepsGrid (read_file_call file lent) (refuses board) lent
    unfolding read_file_call file_refusal
    room_refused h = grid_refused _ lent _ board (too_low (side_checks file ++ mine_checks file) (length lent) (file_rows file * file_columns file) board (sym fine) h)

    -- read
    pub read_kept : (rows columns : ℕ) (values : List ℤ) → file_rows file * file_columns file ≤ length lent → rows ≡ file_rows file → columns ≡ file_columns file
        → values ≡ begun (file_grid file).values lent → KeepsGrid (read_file_call file lent) (gives (rows ∷ columns ∷ [])) values
    unfolding read_file_call file_refusal
    read_kept rows columns values h r c v =
        grid_else _ lent _ (gives (rows ∷ columns ∷ [])) values (enough (side_checks file ++ mine_checks file) (length lent) (file_rows file * file_columns file) board (sym fine) h)
        (λ i. gives (r i ∷ c i ∷ [])) v

-- where nothing is refused, the verdict on both
pub both_fine : (file : List ℕ) → none ≡ first_given (side_checks file) → none ≡ first_given (mine_checks file) → file_refusal file ≡ none
unfolding file_refusal
both_fine file e f = sym (f ∙ last_decides (side_checks file) (mine_checks file) e)

-- the shape of an accepted file
pub shape_of : (file : List ℕ) (rows columns : ℕ) → file_refusal file ≡ none → rows ≡ file_rows file → columns ≡ file_columns file → Shape rows columns
shape_of file rows columns fine r c =
    let a = accepted file fine in
    record { some_rows = omega (arith, a.some_rows); few_rows = omega (arith, a.few_rows); some_columns = omega (arith, a.some_columns); few_columns = omega (arith, a.few_columns) }

-- the bits of a file's mines are its grid
pub bits_grid : (file bits : List ℕ) (rows columns : ℕ) → rows ≡ file_rows file → columns ≡ file_columns file → BitsOf (mine_places file) bits → right_values (bit_grid rows columns bits) ≡ (file_grid file).values
unfolding listed_values
bits_grid file bits rows columns r c b =
    λ i. right_values (record { rows = r i; columns = c i; values = map (λ p. value_of (b.set p i)) (range 0 (r i * c i)) })
