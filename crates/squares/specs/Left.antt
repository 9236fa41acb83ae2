-- The cells of a square that are left to go over. Assumes nothing.
use Rattle.std.specs.Prelude.{ℕ, ◌+◌, ◌<◌, ◌≤◌, List, ◌++◌}
use Rattle.area.specs.Squares.{block_cells, row_cells}

-- the cells left in a row, in the columns from column on that are below b, then those of the rows below it that are above last, each in the columns from a on
abbrev pub cells_left : (rows row last column a b : ℕ) → List ℕ
cells_left rows row last column a b = row_cells rows row column b ++ block_cells rows (row + 1) last a b

-- what is left lies on a grid
pub record OnGrid (rows row last column a b : ℕ) : Type 0 where
  pub row_on : row < last
  pub rows_on : last ≤ rows
  pub few_rows : rows ≤ 255
  pub some_columns : a < b
  pub column_on : column ≤ b
  pub few_columns : b ≤ 255
