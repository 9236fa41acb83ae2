-- `mine_sums::sums_after`: what was carried to the column is shifted, and one column is read, if there is one. Assumes nothing.
use Prim.Native.Nat.{◌+◌, min}
use native.Mathlib.Omega.{arith}
use borrow.Author.Tests.{le-ltb, lt-ltb}
use mathlib.Core.Path.{◌≡◌, ap, sym, ◌∙◌}
use mathlib.Core.Bool.{Bool, ◌&&◌}
use Rattle.area.specs.Numbers.{grid_of}
use Rattle.mine_sums.specs.Columns.{column_mines, mine_in}
use Rattle.mine_sums.proofs.Columns.{columns_none}
use Rattle.mine_sums.proofs.sums_after.Goals.{Start}
use Rattle.mine_sums.proofs.sums_after.Goals as goal

-- the sum that was carried as the right one
own : (c : Start) → c.args.sums.right ≡ column_mines (grid_of c.args.rows c.args.columns c.args.grid.now) c.args.row c.args.column (c.args.column + 1)
own c =
    let a = c.args in
    let e : min (a.column + 1) a.columns ≡ a.column + 1 = omega arith in
    c.requires.before.right_is ∙ ap (column_mines (grid_of a.rows a.columns a.grid.now) a.row a.column) e

-- and its cell
cell : (c : Start) → c.args.sums.next ≡ mine_in (grid_of c.args.rows c.args.columns c.args.grid.now) c.args.column c.args.row
cell c =
    let a = c.args in
    let m = mine_in (grid_of a.rows a.columns a.grid.now) a.column a.row in
    c.requires.before.next_is ∙ ap (λ (b : Bool). b && m) (lt-ltb a.column a.columns (omega arith))

pub returns-then-column-columns : goal.returns-then-column-columns
returns-then-column-columns c =
    let a = c.args in
    let g = grid_of a.rows a.columns a.grid.now in
    let e : a.column + 1 ≡ min (a.column + 2) a.columns = omega arith in
    record {
      left_is = c.requires.before.here_is;
      here_is = own c.before;
      right_is = columns_none g a.row (a.column + 1) ∙ ap (column_mines g a.row (a.column + 1)) e;
      mine_is = cell c.before;
      next_is = ap (λ (b : Bool). b && mine_in g (a.column + 1) a.row) (sym (le-ltb (a.column + 1) a.columns (omega arith)));
    }
