-- What is carried along a row. Assumes nothing.
use Rattle.std.specs.Prelude.{ℕ, ◌+◌, ◌-◌, min, ◌≡◌, ◌&&◌, ltb}
use Rattle.game.specs.Grid.{Grid}
use Rattle.mine_sums.specs.Columns.{column_mines, mine_in}
use Rattle.mine_sums.specs.declared.Sums.{Sums}

-- before the column c: the sums of c - 1 and c, and whether the cell in c is a mine; there is none past the last column
pub record Before (g : Grid) (row c : ℕ) (s : Sums) : Type 0 where
  pub here_is : s.here ≡ column_mines g row (c - 1) c
  pub right_is : s.right ≡ column_mines g row c (min (c + 1) g.columns)
  pub next_is : s.next ≡ (ltb c g.columns && mine_in g c row)

-- after the column c: the sums of c - 1, c and c + 1, and whether the cells in c and c + 1 are mines
pub record After (g : Grid) (row c : ℕ) (s : Sums) : Type 0 where
  pub left_is : s.left ≡ column_mines g row (c - 1) c
  pub here_is : s.here ≡ column_mines g row c (c + 1)
  pub right_is : s.right ≡ column_mines g row (c + 1) (min (c + 2) g.columns)
  pub mine_is : s.mine ≡ mine_in g c row
  pub next_is : s.next ≡ (ltb (c + 1) g.columns && mine_in g (c + 1) row)
