-- `mbf_read::numbers::fill`: the rows passed have their values, and one row more its mines. Assumes nothing.
use Prim.Native.Nat.{◌+◌, ◌*◌, min}
use native.Mathlib.Omega.{arith}
use native.Mathlib.Nat.{mul-le-mul_right}
use mathlib.Core.Path.{◌≡◌, ◌∙◌}
use Rattle.area.proofs.Cells.{cells_few}
use Rattle.mbf_read.specs.Numbers.{bit_grid}
use Rattle.mbf_read.proofs.Rows.{Stage, stage_first, stage_last, stage_row, stage_seen, stage_since}
use Rattle.mbf_read.proofs.numbers.fill.Goals.{After-put_mines}
use Rattle.mbf_read.proofs.numbers.fill.Goals as goal

pub put_mines-requires : goal.put_mines-requires
put_mines-requires c =
    omega (arith, mul-le-mul_right {m = 1} {n = c.args.rows} c.args.columns (omega arith), cells_few c.args.rows c.args.columns c.requires.shape)

-- the mines of the first row are put
first : (c : After-put_mines)
    → Stage (bit_grid c.args.rows c.args.columns c.args.bits.now) c.args.grid.now 0 c.args.columns c.put_mines.new.grid
first c =
    let a = c.args in
    stage_first a.rows a.columns a.bits.now c.put_mines.new.grid (omega arith) (omega arith) c.put_mines.ensures

pub loop-row-init : goal.loop-row-init
loop-row-init c =
    let a = c.args in
    let n : 0 * a.columns ≡ 0 = omega arith in
    let m : min 1 a.rows ≡ 1 = omega arith in
    let o : 1 * a.columns ≡ a.columns = omega arith in
    (omega arith, rw (n, m, o) (stage_seen a.rows a.columns a.bits.now (first (goal.at.loop-row-init c).After-put_mines)))

pub overflow_add-row : goal.overflow_add-row
overflow_add-row c = omega arith

pub overflow_mul-row : goal.overflow_mul-row
overflow_mul-row c =
    omega (arith, mul-le-mul_right {m = c.loop-row.row + 1} {n = c.args.rows} c.args.columns (omega arith), cells_few c.args.rows c.args.columns c.requires.shape)

pub overflow_mul-last : goal.overflow_mul-last
overflow_mul-last c =
    omega (arith, mul-le-mul_right {m = c.upper-last.result} {n = c.args.rows} c.args.columns (omega arith), cells_few c.args.rows c.args.columns c.requires.shape)

pub put_mines-requires-in-loop-row : goal.put_mines-requires-in-loop-row
put_mines-requires-in-loop-row c =
    let l = c.loop-row in
    let a = c.args in
    let u = c.upper-last.result in
    let low = mul-le-mul_right {m = l.row + 1} {n = u} a.columns (omega arith) in
    let high = mul-le-mul_right {m = u} {n = a.rows} a.columns (omega arith) in
    (omega arith, low, omega (arith, cells_few a.rows a.columns c.requires.shape), omega arith)

pub number_row-requires : goal.number_row-requires
number_row-requires c =
    record { shape = c.requires.shape; row_lt_rows = (omega arith, omega arith) }

pub overflow_step-row : goal.overflow_step-row
overflow_step-row c = omega arith

pub loop-row-smaller : goal.loop-row-smaller
loop-row-smaller c = omega arith

pub loop-row-preserved : goal.loop-row-preserved
loop-row-preserved c =
    let l = c.loop-row in
    let a = c.args in
    let u = c.upper-last in (
      omega arith,
      stage_row a.rows a.columns a.bits.now l.grid _ _ l.row u.result (omega arith) u.ensures l.invariant.1 c.put_mines-in-loop-row.ensures c.number_row.ensures,
    )

pub shape_of-grid : goal.shape_of-grid
shape_of-grid c = c.loop-row.invariant.1.long ∙ (first (goal.at.shape_of-grid c).After-put_mines).long

pub returns : goal.returns
returns c =
    let l = c.loop-row in
    let a = c.args in
    let e : l.row ≡ a.rows = omega arith in
    stage_last a.rows a.columns a.bits.now (stage_since a.rows a.columns a.bits.now (first (goal.at.returns c).After-put_mines) (rw e at l.invariant.1))
