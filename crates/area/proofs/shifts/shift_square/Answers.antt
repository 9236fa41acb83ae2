-- `area::shifts::shift_square`: the run up to the row is the fold over the rows passed. Assumes nothing.
use Rattle.area.specs.Squares.{shifted}
use Rattle.area.proofs.Rows.{block_begin, block_on}
use Rattle.area.proofs.shifts.shift_square.Goals as goal

pub loop-row-init : goal.loop-row-init
loop-row-init c = block_begin _ _ _ _ _ _

pub loop-row-preserved : goal.loop-row-preserved
loop-row-preserved c = let q = c.around-sides.result in
    let a = c.args in
    block_on (shifted a.up a.down) a.work.now c.loop-row.work c.shift_row.new.work a.rows q.first c.loop-row.row q.from q.to
    c.loop-row.auto.row c.loop-row.invariant c.shift_row.ensures
