-- An MBF file (RULES 13, docs/MBF.md): a byte of width, a byte of height, the mine count as two bytes high first, then a column byte and a row byte for each mine. Assumes nothing.
use Rattle.std.specs.Prelude.{ℕ, ◌+◌, ◌*◌, Bool, false, ◌||◌, List, [], ◌∷◌, ◌++◌, map, leb, ℤ, get_or, length}
use Rattle.game.specs.Lists.{concat_map, has, keep, range}
use Rattle.game.specs.Grid.{Grid, canonical, cells, column_of, mine, row_of}
use Rattle.hex_digits.specs.Hex.{two_bytes}
use Rattle.lines.specs.BoardLine.{value_of}

-- ---- what a file says

-- the width byte: columns
abbrev pub file_columns : List ℕ → ℕ
file_columns file = get_or file 0 0

-- the height byte: rows
abbrev pub file_rows : List ℕ → ℕ
file_rows file = get_or file 1 0

-- the mine count, high byte first
abbrev pub mine_count : List ℕ → ℕ
mine_count file = 256 * get_or file 2 0 + get_or file 3 0

-- the column byte of the mine that is listed as number k
abbrev pub mine_column : List ℕ → ℕ → ℕ
mine_column file k = get_or file (2 * k + 4) 0

-- its row byte
abbrev pub mine_row : List ℕ → ℕ → ℕ
mine_row file k = get_or file (2 * k + 5) 0

-- the place of its value in a grid's run, which stands row after row
abbrev pub mine_place : List ℕ → ℕ → ℕ
mine_place file k = mine_row file k * file_columns file + mine_column file k

-- the places of the listed mines, in the file's order
unfoldable pub mine_places : List ℕ → List ℕ
mine_places file = map (mine_place file) (range 0 (mine_count file))

-- the index of its cell: column x rows + row
abbrev pub mine_cell : List ℕ → ℕ → ℕ
mine_cell file k = mine_column file k * file_rows file + mine_row file k

-- the cells of the listed mines, in the file's order
unfoldable pub mine_cells : List ℕ → List ℕ
mine_cells file = map (mine_cell file) (range 0 (mine_count file))

-- the mine that is listed as number k is past the edge
unfoldable pub past_edge : List ℕ → ℕ → Bool
past_edge file k = leb (file_columns file) (mine_column file k) || leb (file_rows file) (mine_row file k)

-- one of them is there twice
abbrev pub twice : List ℕ → Bool
twice [] = false
twice (x ∷ xs) = has x xs || twice xs

-- -1 for each mine that a file lists, 0 for any other cell
unfoldable pub listed_values : List ℕ → List ℤ
listed_values file = map (λ p. value_of (has p (mine_places file))) (range 0 (file_rows file * file_columns file))

-- the grid of the mines that a file lists
abbrev pub listed_grid : List ℕ → Grid
listed_grid file = record { rows = file_rows file; columns = file_columns file; values = listed_values file }

-- the grid that a file stands for: its mines, and in each safe cell its number
abbrev pub file_grid : List ℕ → Grid
file_grid file = canonical (listed_grid file)

-- ---- the file of a grid

-- the mines of a grid in cell index order
abbrev pub mines_in_order : Grid → List ℕ
mines_in_order g = keep (mine g) (cells g)

-- a mine's two bytes: its column, then its row
abbrev pub mine_bytes : Grid → ℕ → List ℕ
mine_bytes g i = column_of g i ∷ row_of g i ∷ []

-- width, height and the mine count
abbrev pub head_bytes : Grid → List ℕ
head_bytes g = g.columns ∷ g.rows ∷ two_bytes (length (mines_in_order g))

-- the file of a grid: its mines stand in cell index order
unfoldable pub file_of : Grid → List ℕ
file_of g = head_bytes g ++ concat_map (mine_bytes g) (mines_in_order g)
