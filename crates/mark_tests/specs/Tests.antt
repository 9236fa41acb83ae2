-- What a mark turns on, of the rules and by what the work area holds. Assumes nothing.
use Rattle.std.specs.Prelude.{ℕ, ◌+◌, ◌*◌, Bool, ◌&&◌, ◌||◌, not, List, eqb, ℤ}
use Rattle.game.specs.Grid.{Grid, square, zero_cell}
use Rattle.game.specs.Lists.{range, some_of}
use Rattle.game.specs.Position.{Position, closed}
use Rattle.area.specs.Numbers.{first_at, content_at, second_at, state_at}

-- a closed 0-cell stands in the square of the cell
abbrev pub borders_closed : Grid → Position → ℕ → Bool
borders_closed g s i = some_of (λ j. zero_cell g j && closed s j) (square g i)

-- the same of one cell, by what the work area holds
abbrev pub closed_zero_at : List ℤ → ℕ → Bool
closed_zero_at w i = eqb (content_at w i) 1 && eqb (state_at w i) 0

-- a label is one of two; 0 is none
abbrev pub one_of : ℕ → ℕ → ℕ → Bool
one_of first second label = not (eqb label 0) && (eqb label first || eqb label second)

-- the cell has one of two labels
abbrev pub shares_at : List ℤ → ℕ → ℕ → ℕ → Bool
shares_at w first second i = one_of first second (first_at w i) || one_of first second (second_at w i)

-- a cell of the column has one of two labels
abbrev pub column_shares : List ℤ → ℕ → ℕ → ℕ → ℕ → Bool
column_shares w rows first second column = some_of (λ row. shares_at w first second (column * rows + row)) (range 0 rows)
