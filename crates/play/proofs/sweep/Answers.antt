-- `play::sweep`: what stands after so many cells is the sweep of the run so far. Assumes nothing.
use Prim.Native.Nat.{◌≤◌}
use native.Mathlib.Omega.{arith}
use Rattle.play.proofs.Sweeps.{at_most_one, run_more}
use Rattle.play.proofs.sweep.Goals.{After-work-1}
use Rattle.play.proofs.sweep.Goals as goal

-- the cell of this turn counts at most once
one : (c : After-work-1) → c.sweep_cell-found.result ≤ 1
one c =
    let u = c.sweep_cell-found in
    at_most_one c.args.label c.loop-index.work c.loop-index.index u.result u.new.work u.ensures

pub loop-index-preserved : goal.loop-index-preserved
loop-index-preserved c = let a = c.args in
    let u = c.sweep_cell-found in (
      omega (arith, one c),
      run_more a.label a.first c.loop-index.index a.work.now c.loop-index.work u.new.work c.loop-index.found u.result c.loop-index.auto.index c.loop-index.invariant.1 u.ensures,
    )
