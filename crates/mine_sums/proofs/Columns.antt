-- The mines of a column in a row and the rows beside it, by what is above, here and below. Assumes nothing.
use Prim.Native.Nat.{ℕ, ◌+◌, ◌-◌, ◌<◌, min}
use native.Mathlib.Omega.{arith}
use mathlib.Core.Path.{◌≡◌, ap, sym, ◌∙◌}
use mathlib.Core.Bool.{Bool}
use mir.Val.{bool_byte}
use Rattle.game.specs.Grid.{Grid, index, mine, near}
use Rattle.game.specs.Lists.{count, range}
use Rattle.game.proofs.Carried.{column_part, part_one, parts_none}
use Rattle.game.proofs.Counts.{count_append, count_map}
use Rattle.game.proofs.Members.{range_split}
use Rattle.area.proofs.Tests.{count_one_more}
use Rattle.mine_sums.specs.Columns.{column_mines, mine_in}

module _ (g : Grid) where
  -- no column
  pub columns_none : (row a : ℕ) → 0 ≡ column_mines g row a a
  unfolding column_mines
  columns_none row a = parts_none (mine g) (column_part g row) a

  -- one column, by its rows
  column_one : (row column : ℕ) → count (mine_in g column) (near g.rows row) ≡ column_mines g row column (column + 1)
  unfolding column_mines
  column_one row column =
      sym (count_map (mine g) (λ r. index g r column) (near g.rows row)) ∙ part_one (mine g) (column_part g row) column

  -- and so by what is above, here and below
  pub column_three : (row column above below : ℕ) (own : Bool) → row < g.rows → above ≡ count (mine_in g column) (range (row - 1) row) → own ≡ mine_in g column row
      → below ≡ count (mine_in g column) (range (row + 1) (min (row + 2) g.rows)) → above + bool_byte own + below ≡ column_mines g row column (column + 1)
  column_three row column above below own h a o b =
      let f = mine_in g column in
      let last = min (row + 2) g.rows in
      let upper = count_one_more f (row - 1) row above own (omega arith) a o in
      let split = ap (count f) (range_split (row - 1) (row + 1) last (omega arith) (omega arith)) ∙ count_append f (range (row - 1) (row + 1)) (range (row + 1) last) in
      omega (arith, upper, split, column_one row column, b)
