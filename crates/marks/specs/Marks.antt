-- Which columns moves at a cell may change, and which bytes are marked for them. Assumes nothing.
use Rattle.std.specs.Prelude.{ℕ, ◌<◌, ◌≡◌, List, T, length}
use Rattle.game.specs.Grid.{Grid, column_of, size, square, zero_cell}
use Rattle.game.specs.Lists.{has}
use Rattle.game.specs.Openings.{holds, joined_to}
use Rattle.game.specs.Position.{Position, closed}
use Rattle.mark_columns.specs.Columns.{Far, MarkedOr}

-- moves at the cell leave the column as it is: it is more than two from the cell's, and no cell of it is held by an opening that a closed 0-cell in the cell's square is of
pub record Quiet (g : Grid) (s : Position) (i c : ℕ) : Type 0 where
  pub far : Far c (column_of g i)
  pub apart : (j z : ℕ) → j < size g → column_of g j ≡ c → T (has z (square g i)) → T (zero_cell g z) → T (closed s z) → T (holds g j (joined_to g z)) → ⊥

-- marked at a cell: the columns that moves there may change
pub record Marked (g : Grid) (s : Position) (index : ℕ) (tops tops' : List ℕ) : Type 0 where
  pub long : length tops' ≡ length tops
  pub marks : (c : ℕ) → MarkedOr (Quiet g s index c) tops tops' c

-- one L at the cell leaves a column its closed units, and no premium in it rises: it is not the cell's own, and if the cell is a 0-cell, moves there leave it as it is
pub record Beside (g : Grid) (s : Position) (i c : ℕ) : Type 0 where
  pub other : c ≡ column_of g i → ⊥
  pub quiet : T (zero_cell g i) → Quiet g s i c

-- marked at a cell that one L opens: the columns that it may change, where no premium reaches 0
pub record Clicked (g : Grid) (s : Position) (index : ℕ) (tops tops' : List ℕ) : Type 0 where
  pub long : length tops' ≡ length tops
  pub marks : (c : ℕ) → MarkedOr (Beside g s index c) tops tops' c
