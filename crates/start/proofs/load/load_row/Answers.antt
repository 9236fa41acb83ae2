-- `start::load::load_row`: the columns passed are loaded, and the sums carried are those before the column. Assumes nothing.
use Prim.Native.Nat.{◌+◌, ◌*◌, ◌≤◌, ◌<◌}
use native.Mathlib.Omega.{arith}
use mathlib.Core.Path.{refl, ap, sym, ◌∙◌}
use lib.ListN.{length}
use Rattle.game.specs.Lists.{fold}
use Rattle.area.specs.Numbers.{grid_of}
use Rattle.area.proofs.Cells.{cell_below}
use Rattle.area.proofs.Rows.{row_none}
use Rattle.mine_sums.proofs.Along.{after_before, after_few}
use Rattle.start.specs.Passes.{load_cell}
use Rattle.start.proofs.Loaded.{content_here, length_load, row_one_more}
use Rattle.start.proofs.load.load_row.Goals.{After-sums_after-sums, In-loop-column}
use Rattle.start.proofs.load.load_row.Goals as goal

pub loop-column-init : goal.loop-column-init
loop-column-init c =
    let a = c.args in (
      omega arith,
      omega arith,
      sym (ap (fold (load_cell (grid_of a.rows a.columns a.grid.now)) a.work.now) (row_none a.rows a.row a.from)),
      refl,
      c.sums_before-sums.ensures.0,
    )

-- the row and the column of this turn are the grid's
on-grid : (c : In-loop-column) → (c.args.row < c.args.rows) × (c.loop-column.column < c.args.columns)
on-grid c = (omega arith, omega arith)

-- nine mines at most
nine : (c : After-sums_after-sums) → c.sums_after-sums.result.left + c.sums_after-sums.result.here + c.sums_after-sums.result.right ≤ 9
nine c =
    let a = c.args in
    after_few (grid_of a.rows a.columns a.grid.now) a.row c.loop-column.column c.sums_after-sums.result (on-grid c.before).0 (on-grid c.before).1 c.sums_after-sums.ensures

-- the cell of this turn lies on the grid
cell : (c : In-loop-column) → c.loop-column.column * c.args.rows + c.args.row < c.args.rows * c.args.columns
cell c =
    let a = c.args in
    cell_below a.rows a.columns a.row c.loop-column.column (on-grid c).0 (on-grid c).1

pub overflow_add-number : goal.overflow_add-number
overflow_add-number c = omega (arith, nine c.before)

pub overflow_add-number-in-loop-column : goal.overflow_add-number-in-loop-column
overflow_add-number-in-loop-column c = omega (arith, nine c.before.before)

pub content_of-content-requires : goal.content_of-content-requires
content_of-content-requires c = nine c.before.before

pub loop-column-preserved : goal.loop-column-preserved
loop-column-preserved c =
    let new = c.load_cell in
    let k = c.content_of-content in
    let n = c.sums_after-sums in
    let l = c.loop-column in
    let a = c.args in
    let g = grid_of a.rows a.columns a.grid.now in
    let on = on-grid c.before.before.before.before.before.before.before in (
      omega arith,
      omega arith,
      row_one_more g a.work.now l.work new.new.work a.row a.from l.column k.result l.invariant.0 l.invariant.2
          (content_here g a.row l.column k.result n.result on.0 on.1 n.ensures k.ensures) new.ensures,
      ap length new.ensures ∙ length_load l.work (l.column * a.rows + a.row) k.result ∙ l.invariant.3,
      after_before g a.row l.column n.result n.ensures,
    )
