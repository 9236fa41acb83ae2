-- What visiting a 0-cell's neighbours in turn does to the work area. `k` gives the contents of the cells, which stay. Assumes nothing.
use Rattle.std.specs.Prelude.{ℕ, ◌+◌, ◌-◌, ◌*◌, ◌<◌, List, T, ℤ}
use Rattle.game.specs.Grid.{Grid, column_of, row_of, square}
use Rattle.game.specs.Lists.{has}
use Rattle.labels.specs.Spread.{Change, ClearFrom, Closed, Side}

-- the number, of nine, of the neighbour y of i
abbrev pub turn : Grid → ℕ → ℕ → ℕ
turn g i y = 3 * (row_of g y + 1 - row_of g i) + (column_of g y + 1 - column_of g i)

-- after visiting the first n neighbours of i
pub record Visited (g : Grid) (k : ℕ → ℕ) (op i n : ℕ) (w w' : List ℤ) : Type 0 where
  pub change : Change g k op i w w'
  pub closed : Closed g k op w w'
  pub passed : (y : ℕ) → T (has y (square g i)) → turn g i y < n → Side k op w w' y
  pub clear : ClearFrom g 0 w → ClearFrom g 0 w'
