-- A cell by its row and column: its index lies in the grid, and its value tells a mine. Assumes nothing.
use Prim.Native.Nat.{ℕ, ◌%◌, ◌*◌, ◌+◌, ◌<◌, ◌≤◌}
use native.Mathlib.Omega.{arith}
use native.Mathlib.Nat.{mul-le-mul_left, mul-le-mul_right}
use mathlib.Core.Path.{◌≡◌, ap, sym, ◌∙◌}
use mathlib.Core.Bool.{Bool}
use mathlib.Core.List.{List}
use lib.IntN.{pos, ℤ}
use lib.ListN.{get_or}
use Rattle.game.specs.Grid.{Grid, column_of, is_mine, mine, row_of}
use Rattle.game.proofs.Squares.{index-column, index_of, index-row}
use Rattle.area.specs.Numbers.{grid_of}
use Rattle.area.specs.Stages.{Shape}

-- the value at a row and a column is a mine
abbrev mine_at : List ℤ → ℕ → ℕ → ℕ → Bool
mine_at vs columns row column = is_mine (get_or vs (row * columns + column) (pos 0))

pub mine_here : (rows columns : ℕ) (vs : List ℤ) (row column : ℕ) → row < rows → mine_at vs columns row column ≡ mine (grid_of rows columns vs) (column * rows + row)
unfolding mine
mine_here rows columns vs row column h =
    ap (λ (k : ℕ). mine_at vs columns k column) (sym (index-row (grid_of rows columns vs) row column h))
    ∙ ap (λ (k : ℕ). mine_at vs columns ((column * rows + row) % rows) k) (sym (index-column (grid_of rows columns vs) row column h))

-- an index is below the cells
pub cell_below : (rows columns row column : ℕ) → row < rows → column < columns → column * rows + row < rows * columns
cell_below rows columns row column h k = omega (arith, mul-le-mul_right rows k)

-- a cell by its column
pub placed : (g : Grid) (rows y q : ℕ) → g.rows ≡ rows → column_of g y ≡ q → q * rows + row_of g y ≡ y
placed g rows y q e f = rw (← f, ← e) (index_of g y)

-- there are at most 65025 cells
pub cells_few : (rows columns : ℕ) → Shape rows columns → rows * columns ≤ 65025
cells_few rows columns s = omega (arith, mul-le-mul_left rows s.few_columns, mul-le-mul_right 255 s.few_rows)
