-- The mines of columns, each in a row and the rows beside it. Assumes nothing.
use Rattle.std.specs.Prelude.{ℕ, Bool, map}
use Rattle.game.specs.Grid.{Grid, index, mine, near}
use Rattle.game.specs.Lists.{concat_map, count, range}

-- the cell of a column in a row is a mine
abbrev pub mine_in : Grid → ℕ → ℕ → Bool
mine_in g column row = mine g (index g row column)

-- the mines of the columns from a on that are below b, in a row and the rows beside it
unfoldable pub column_mines : Grid → ℕ → ℕ → ℕ → ℕ
column_mines g row a b = count (mine g) (concat_map (λ column. map (λ r. index g r column) (near g.rows row)) (range a b))
