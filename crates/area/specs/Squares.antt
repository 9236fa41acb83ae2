-- The cells of a square: by its rows and columns, and by their place in it, so many rows down and columns right of the one above and left of the middle. Assumes nothing.
use Rattle.std.specs.Prelude.{ℕ, ◌*◌, ◌+◌, ◌-◌, ◌<◌, ◌≤◌, ◌≡◌, ◌&&◌, cond, List, [], ◌∷◌, map, eqb, leb, ltb, ℤ}
use Rattle.game.specs.Grid.{Grid, column_of, index, row_of, size, square}
use Rattle.game.specs.Lists.{concat_map, range}
use Rattle.area.specs.Numbers.{grid_of, content_at, premium_at, put_premium}

-- ---- by rows and columns

-- a cell's square, by rows and columns alone
abbrev pub square_of : ℕ → ℕ → ℕ → List ℕ
square_of rows columns i = square (grid_of rows columns []) i

-- the cells of a row, in the columns from a on that are below b
unfoldable pub row_cells : ℕ → ℕ → ℕ → ℕ → List ℕ
row_cells rows row a b = map (λ column. column * rows + row) (range a b)

-- the cells of the rows from y on that are below z, each in the columns from a on that are below b
unfoldable pub block_cells : ℕ → ℕ → ℕ → ℕ → ℕ → List ℕ
block_cells rows y z a b = concat_map (λ row. row_cells rows row a b) (range y z)

-- the sides of a cell's square: its rows from first on below last, its columns from a on below b
pub record Around (rows columns i first last a b : ℕ) : Type 0 where
  pub cells : square_of rows columns i ≡ block_cells rows first last a b
  pub some_rows : first ≤ last
  pub in_rows : last ≤ rows
  pub few_rows : last ≤ first + 3
  pub some_columns : a ≤ b
  pub in-columns : b ≤ columns
  pub few_columns : b ≤ a + 3

-- a safe cell's premium, so much up and so much down
unfoldable pub shifted : ℕ → ℕ → List ℤ → ℕ → List ℤ
shifted up down w i = cond (eqb (content_at w i) 0) w (put_premium w i (premium_at w i + up - down))

-- ---- by their place

-- r is the cell so many rows and columns on in the square of the cell i; off the grid it is no cell
pub record Neighbour (g : Grid) (i down right r : ℕ) : Type 0 where
  pub row : r < size g → row_of g r + 1 ≡ row_of g i + down
  pub column : r < size g → column_of g r + 1 ≡ column_of g i + right
  pub found : (y : ℕ) → y < size g → row_of g y + 1 ≡ row_of g i + down → column_of g y + 1 ≡ column_of g i + right → r ≡ y

-- the row or column so many on from the one before p, if n has it
abbrev pub side : ℕ → ℕ → ℕ → List ℕ
side n p d = cond (leb 1 (p + d) && leb (p + d) n) ((p + d - 1) ∷ []) []

-- the cell so many rows and columns on in the square of the cell i, if it is on the grid
unfoldable pub near_cell : Grid → ℕ → ℕ → ℕ → List ℕ
near_cell g i down right =
    concat_map (λ row. map (λ column. index g row column) (side g.columns (column_of g i) right)) (side g.rows (row_of g i) down)

-- a cell of n cells; none past them
abbrev pub on_grid : ℕ → ℕ → List ℕ
on_grid n i = cond (ltb i n) (i ∷ []) []
