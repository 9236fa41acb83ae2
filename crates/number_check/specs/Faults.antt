-- The first wrong value of a row, and the lowest cell at fault. Assumes nothing.
use Rattle.std.specs.Prelude.{ℕ, ◌<◌, ◌≤◌, ◌≡◌, false, true}
use Rattle.game.specs.Grid.{Grid, index, size, wrong}

-- of the columns of a row below a limit, column is the first whose value is wrong, or the limit where none is
pub record FirstWrong (g : Grid) (row limit column : ℕ) : Type 0 where
  pub within : column ≤ limit
  pub before : (c : ℕ) → c < column → wrong g (index g row c) ≡ false
  pub found : column < limit → wrong g (index g row column) ≡ true

-- cell is the lowest whose value is wrong, or the number of cells where none is
pub record LowestWrong (g : Grid) (cell : ℕ) : Type 0 where
  pub within : cell ≤ size g
  pub lower : (i : ℕ) → i < cell → wrong g i ≡ false
  pub found : cell < size g → wrong g cell ≡ true
