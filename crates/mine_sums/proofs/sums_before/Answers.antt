-- `mine_sums::sums_before`: two columns are read, one where there is none to the left. Assumes nothing.
use Prim.Native.Nat.{◌+◌, ◌-◌, min}
use native.Mathlib.Omega.{arith}
use borrow.Author.Tests.{lt-ltb}
use mathlib.Core.Path.{◌≡◌, ap, refl, sym, ◌∙◌}
use mathlib.Core.Bool.{Bool, ◌&&◌}
use lib.Dec.{ltb}
use Rattle.area.specs.Numbers.{grid_of}
use Rattle.mine_sums.specs.Columns.{column_mines, mine_in}
use Rattle.mine_sums.proofs.Columns.{columns_none}
use Rattle.mine_sums.proofs.sums_before.Goals.{After-sum_of-right}
use Rattle.mine_sums.proofs.sums_before.Goals as goal

-- the column itself
right : (c : After-sum_of-right) → c.sum_of-right.result ≡ column_mines (grid_of c.args.rows c.args.columns c.args.grid.now) c.args.row c.args.column (min (c.args.column + 1) c.args.columns)
right c =
    let a = c.args in
    let e : a.column + 1 ≡ min (a.column + 1) a.columns = omega arith in
    c.sum_of-right.ensures ∙ ap (column_mines (grid_of a.rows a.columns a.grid.now) a.row a.column) e

-- its cell
next : (c : After-sum_of-right) → c.mine_in-next.result ≡ (ltb c.args.column c.args.columns && mine_in (grid_of c.args.rows c.args.columns c.args.grid.now) c.args.column c.args.row)
next c =
    let a = c.args in
    let m = mine_in (grid_of a.rows a.columns a.grid.now) a.column a.row in
    c.mine_in-next.ensures ∙ ap (λ (b : Bool). b && m) (sym (lt-ltb a.column a.columns (omega arith)))

pub returns-then-column-eq0 : goal.returns-then-column-eq0
returns-then-column-eq0 c =
    let a = c.args in
    let g = grid_of a.rows a.columns a.grid.now in
    let e : a.column - 1 ≡ a.column = omega arith in
    (record { here_is = columns_none g a.row (a.column - 1) ∙ ap (column_mines g a.row (a.column - 1)) e; right_is = right c.before; next_is = next c.before }, refl, refl)
