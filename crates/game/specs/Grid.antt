-- The grid, a cell's square and its number (RULES 1, 2.1, 2.2), the canonical grid and values that are wrong (1.4, 1.5). Assumes nothing.
use Rattle.std.specs.Prelude.{ℕ, zero, suc, ◌+◌, ◌-◌, ◌*◌, ◌/◌, ◌%◌, min, Bool, true, false, ◌&&◌, not, cond, List, map, ℤ, pos, negsuc, get_or, eqb}
use Rattle.std.specs.Int.Signed.{le_z}
use Rattle.game.specs.Lists.{range, count, concat_map}

-- rows, columns and a run of values, row after row
pub record Grid : Type 0 where
  pub rows : ℕ
  pub columns : ℕ
  pub values : List ℤ

-- only -1 is a mine; any other value is a safe cell
abbrev pub is_mine : ℤ → Bool
is_mine (pos n) = false
is_mine (negsuc zero) = true
is_mine (negsuc (suc n)) = false

-- two numbers are equal
abbrev pub same : ℤ → ℤ → Bool
same a b = le_z a b && le_z b a

-- how many cells the grid has
abbrev pub size : Grid → ℕ
size g = g.rows * g.columns

-- the cells by their index, lowest first
abbrev pub cells : Grid → List ℕ
cells g = range 0 (size g)

-- a cell's index is column x rows + row
abbrev pub index : Grid → ℕ → ℕ → ℕ
index g row column = column * g.rows + row

-- the row of a cell
abbrev pub row_of : Grid → ℕ → ℕ
row_of g i = i % g.rows

-- the column of a cell
abbrev pub column_of : Grid → ℕ → ℕ
column_of g i = i / g.rows

-- the value of a cell: values stand row after row
abbrev pub value_at : Grid → ℕ → ℤ
value_at g i = get_or g.values (row_of g i * g.columns + column_of g i) (pos 0)

-- the cell is a mine
unfoldable pub mine : Grid → ℕ → Bool
mine g i = is_mine (value_at g i)

-- the cell is safe
abbrev pub safe : Grid → ℕ → Bool
safe g i = not (mine g i)

-- p and the places beside it, of n places
abbrev pub near : ℕ → ℕ → List ℕ
near n p = range (p - 1) (min (p + 2) n)

-- the cell and its neighbours, cut at the edge, by row, then column
unfoldable pub square : Grid → ℕ → List ℕ
square g i =
    concat_map (λ row. map (λ column. index g row column) (near g.columns (column_of g i))) (near g.rows (row_of g i))

-- the mines in the cell's square; a mine counts itself
unfoldable pub number : Grid → ℕ → ℕ
number g i = count (mine g) (square g i)

-- a cell of number 0
abbrev pub zero_cell : Grid → ℕ → Bool
zero_cell g i = eqb (number g i) 0

-- ---- the canonical grid

-- the cell whose value stands at a place of the run: values stand row after row
abbrev pub cell_at : Grid → ℕ → ℕ
cell_at g p = index g (p / g.columns) (p % g.columns)

-- the right value of a cell: -1 for a mine, its number for a safe cell
unfoldable pub right_value : Grid → ℕ → ℤ
right_value g i = cond (mine g i) (negsuc 0) (pos (number g i))

-- the right value of each cell, row after row
unfoldable pub right_values : Grid → List ℤ
right_values g = map (λ p. right_value g (cell_at g p)) (range 0 (size g))

-- the canonical grid: the same mines, and in each safe cell its number
abbrev pub canonical : Grid → Grid
canonical g = record { rows = g.rows; columns = g.columns; values = right_values g }

-- ---- values that are wrong

-- the value of a cell is wrong: it is another than the right one
unfoldable pub wrong : Grid → ℕ → Bool
wrong g i = not (same (value_at g i) (right_value g i))
