-- `mbf_read::numbers::number_row`: the columns passed have their right values, by which no mine changed; so what is carried is what was carried along the row at entry. Assumes nothing.
use Prim.Native.Nat.{ℕ, ◌+◌, ◌*◌, ◌<◌, ◌≤◌}
use native.Mathlib.Omega.{arith}
use native.Mathlib.Nat.{mul-le-mul_right}
use mathlib.Core.Path.{◌≡◌, ap, refl, sym, ◌∙◌}
use mathlib.Core.List.{List}
use lib.Arith.{digits_lt}
use lib.IntN.{pos, ℤ}
use lib.ListN.{get_or}
use Rattle.game.specs.Grid.{is_mine}
use Rattle.game.specs.Lists.{fold, range}
use Rattle.game.proofs.Members.{range_none}
use Rattle.game.proofs.Squares.{next_column}
use Rattle.area.specs.Numbers.{grid_of}
use Rattle.area.proofs.Cells.{cells_few}
use Rattle.mine_sums.specs.Carried.{After}
use Rattle.mine_sums.proofs.Alike.{after_alike, before_alike}
use Rattle.mine_sums.proofs.Along.{after_before, after_few, after_number}
use Rattle.mbf_read.specs.Numbers.{put_right}
use Rattle.mbf_read.proofs.Filling.{mines_stay, one_more}
use Rattle.mbf_read.proofs.numbers.number_row.Invariants.{filled}
use Rattle.mbf_read.proofs.numbers.number_row.Goals.{After-sums_after-sums}
use Rattle.mbf_read.proofs.numbers.number_row.Goals as goal

pub loop-column-init : goal.loop-column-init
loop-column-init c =
    let a = c.args in
    let n = a.row * a.columns in
    let e : n + 0 ≡ n = omega arith in
    (omega arith, sym (ap (fold (put_right (grid_of a.rows a.columns a.grid.now)) a.grid.now) (ap (range n) e ∙ range_none n)), refl, c.sums_before-sums.ensures.0)

-- no mine changed
alike : (rows columns row column : ℕ) (old now : List ℤ) → row < rows → column ≤ columns → now ≡ filled rows columns old row column → (p : ℕ) → is_mine (get_or now p (pos 0)) ≡ is_mine (get_or old p (pos 0))
alike rows columns row column old now h k e p =
    ap (λ (w : List ℤ). is_mine (get_or w p (pos 0))) e
    ∙ mines_stay rows columns old (row * columns) (row * columns + column) p (omega (arith, next_column columns row, mul-le-mul_right {m = row + 1} {n = rows} columns (omega arith)))

pub sums_after-sums-requires : goal.sums_after-sums-requires
sums_after-sums-requires c =
    let l = c.loop-column in
    let a = c.args in
    let same = alike a.rows a.columns a.row l.column a.grid.now l.grid (omega arith) (omega arith) l.invariant.1 in
    record {
      shape = c.requires.shape;
      columns_in_bounds = (omega arith, omega arith, omega arith);
      before = before_alike a.rows a.columns a.grid.now l.grid (λ p. sym (same p)) a.row l.column l.sums l.invariant.3;
    }

-- what is carried after the column
carried : (c : After-sums_after-sums)
    → After (grid_of c.args.rows c.args.columns c.args.grid.now) c.args.row c.loop-column.column c.sums_after-sums.result
carried c =
    let l = c.loop-column in
    let a = c.args in
    let same = alike a.rows a.columns a.row l.column a.grid.now l.grid (omega arith) (omega arith) l.invariant.1 in
    after_alike a.rows a.columns l.grid a.grid.now same a.row l.column c.sums_after-sums.result c.sums_after-sums.ensures

-- a number is at most 9
few : (c : After-sums_after-sums) → c.sums_after-sums.result.left + c.sums_after-sums.result.here + c.sums_after-sums.result.right ≤ 9
few c =
    let l = c.loop-column in
    let a = c.args in
    after_few (grid_of a.rows a.columns a.grid.now) a.row l.column c.sums_after-sums.result (omega arith) (omega arith) (carried c)

-- the place of a cell is on the grid
place : (c : After-sums_after-sums)
    → c.args.row * c.args.columns + c.loop-column.column < c.args.rows * c.args.columns
place c =
    let a = c.args in
    digits_lt {q = a.row} {m = a.rows} {r = c.loop-column.column} {c = a.columns} (omega arith) (omega arith)

pub overflow_add-number : goal.overflow_add-number
overflow_add-number c = omega (arith, few (goal.at.overflow_add-number c).After-sums_after-sums)

pub overflow_add-number-in-loop-column : goal.overflow_add-number-in-loop-column
overflow_add-number-in-loop-column c = omega (arith, few (goal.at.overflow_add-number-in-loop-column c).After-sums_after-sums)

pub overflow_mul-row : goal.overflow_mul-row
overflow_mul-row c =
    omega (arith, place (goal.at.overflow_mul-row c).After-sums_after-sums, cells_few c.args.rows c.args.columns c.requires.shape)

pub overflow_add-row : goal.overflow_add-row
overflow_add-row c =
    omega (arith, place (goal.at.overflow_add-row c).After-sums_after-sums, cells_few c.args.rows c.args.columns c.requires.shape)

pub put_number-requires : goal.put_number-requires
put_number-requires c = (omega (arith, place (goal.at.put_number-requires c).After-sums_after-sums), omega (arith, few (goal.at.put_number-requires c).After-sums_after-sums))

pub overflow_step-column : goal.overflow_step-column
overflow_step-column c = omega arith

pub loop-column-smaller : goal.loop-column-smaller
loop-column-smaller c = omega arith

pub loop-column-preserved : goal.loop-column-preserved
loop-column-preserved c =
    let l = c.loop-column in
    let a = c.args in
    let g = grid_of a.rows a.columns a.grid.now in
    let r = c.sums_after-sums.result in
    let put = c.put_number in (
      omega arith,
      put.ensures
          ∙ one_more a.rows a.columns a.grid.now l.grid a.row l.column (r.left + r.here + r.right) r.mine (omega arith) (omega arith) l.invariant.1 (carried (goal.at.loop-column-preserved c).After-sums_after-sums).mine_is
          (after_number g a.row l.column r (omega arith) (omega arith) (carried (goal.at.loop-column-preserved c).After-sums_after-sums)),
      put.auto.grid ∙ l.invariant.2,
      after_before g a.row l.column r (carried (goal.at.loop-column-preserved c).After-sums_after-sums),
    )

pub shape_of-grid : goal.shape_of-grid
shape_of-grid c = c.loop-column.invariant.2

pub returns : goal.returns
returns c =
    let l = c.loop-column in
    let a = c.args in
    let e : l.column ≡ a.columns = omega arith in
    l.invariant.1 ∙ ap (filled a.rows a.columns a.grid.now a.row) e
