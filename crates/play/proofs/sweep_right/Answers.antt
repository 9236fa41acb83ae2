-- `play::sweep_right`: the columns passed are one run of cells; a column without the label ends the walk. Assumes nothing.
use native.Mathlib.Omega.{arith}
use Rattle.play.proofs.Sweeps.{right_ends, right_more}
use Rattle.play.proofs.sweep_right.Goals as goal

pub returns-then-found-eq0 : goal.returns-then-found-eq0
returns-then-found-eq0 c = let a = c.args in
    let u = c.sweep-found in
    right_ends a.rows a.columns a.label a.column c.loop-right.right a.work.now c.loop-right.work u.new.work u.result
    c.loop-right.auto.right c.loop-right.invariant u.ensures (omega arith) c.if-found-eq0.true

pub loop-right-preserved : goal.loop-right-preserved
loop-right-preserved c = let a = c.args in
    let u = c.sweep-found in
    right_more a.rows a.columns a.label a.column c.loop-right.right a.work.now c.loop-right.work u.new.work u.result
    c.loop-right.auto.right c.loop-right.invariant u.ensures
