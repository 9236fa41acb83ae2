-- `area::shifts::shift_row`: the run up to the column is the fold over the columns passed. Assumes nothing.
use Prim.Native.Nat.{◌<◌, ◌+◌, ◌*◌}
use native.Mathlib.Omega.{arith}
use Rattle.area.specs.Squares.{shifted}
use Rattle.area.proofs.Cells.{cell_below}
use Rattle.area.proofs.Rows.{row_begin, row_on}
use Rattle.area.proofs.shifts.shift_row.Goals.{In-loop-column}
use Rattle.area.proofs.shifts.shift_row.Goals as goal

pub loop-column-init : goal.loop-column-init
loop-column-init c = row_begin _ _ _ _ _

-- the cell of this turn lies on the grid
cell : (c : In-loop-column)
    → c.loop-column.column * c.args.rows + c.args.row < c.args.rows * c.args.columns
cell c =
    let a = c.args in
    cell_below a.rows a.columns a.row c.loop-column.column (omega arith) (omega arith)

pub loop-column-preserved : goal.loop-column-preserved
loop-column-preserved c =
    let a = c.args in
    row_on (shifted a.up a.down) a.work.now c.loop-column.work c.shift.new.work a.rows a.row a.from c.loop-column.column c.loop-column.auto.column
    c.loop-column.invariant c.shift.ensures
