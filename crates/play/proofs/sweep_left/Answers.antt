-- `play::sweep_left`: the columns passed are one run of cells; a column without the label ends the walk. Assumes nothing.
use native.Mathlib.Omega.{arith}
use Rattle.play.proofs.Sweeps.{left_ends, left_more}
use Rattle.play.proofs.sweep_left.Goals as goal

pub returns-then-found-eq0 : goal.returns-then-found-eq0
returns-then-found-eq0 c = let a = c.args in
    let u = c.sweep-found in
    left_ends a.rows a.label a.column c.loop-left.left a.work.now c.loop-left.work u.new.work u.result
    (omega arith) c.loop-left.auto.left c.loop-left.invariant u.ensures c.if-found-eq0.true

pub loop-left-preserved : goal.loop-left-preserved
loop-left-preserved c = let a = c.args in
    let u = c.sweep-found in
    left_more a.rows a.label a.column c.loop-left.left a.work.now c.loop-left.work u.new.work u.result
    (omega arith) c.loop-left.auto.left c.loop-left.invariant u.ensures
