-- `walk`: the cells below the index were looked at, and so many units lack. Assumes nothing.
use native.Mathlib.Omega.{arith}
use Rattle.early.proofs.Looked.{looked_more, looked_none}
use Rattle.early.proofs.Stops.{goes_on}
use Rattle.early.proofs.walks.walk.Goals as goal

pub loop-index-init : goal.loop-index-init
loop-index-init c = let a = c.args in looked_none a.rows a.columns a.cells a.limit a.units a.work.now

pub loop-index-preserved : goal.loop-index-preserved
loop-index-preserved c =
    let b = c.look-tally in
    let l = c.loop-index in
    let a = c.args in
    let h = goes_on l.tally.lacking _ c.certain.result c.certain.ensures c.if-certain.false in
    looked_more a.rows a.columns a.cells a.limit a.units a.work.now l.index l.tally l.work l.invariant
    b.result b.new.work c.requires.has_cells.1 (omega arith) h.0 (omega (arith, h.1)) b.ensures
