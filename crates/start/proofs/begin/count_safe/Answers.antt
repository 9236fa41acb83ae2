-- `start::begin::count_safe`: the safe cells counted so far are those passed. Assumes nothing.
use Prim.Native.Nat.{ℕ}
use native.Mathlib.Omega.{arith}
use mathlib.Core.Bool.{not}
use mathlib.Core.Path.{ap}
use lib.Dec.{eqb}
use Rattle.area.proofs.Tests.{byte_le, count_one_more}
use Rattle.premiums.specs.Laying.{safe_at}
use Rattle.start.proofs.begin.count_safe.Goals as goal

pub loop-index-preserved : goal.loop-index-preserved
loop-index-preserved c =
    let l = c.loop-index in
    let a = c.args in (
      count_one_more (safe_at a.work.now) 0 l.index l.safe _ (omega arith) l.invariant.0 (ap (λ (n : ℕ). not (eqb n 0)) c.content.ensures.0),
      omega (arith, l.invariant.1, byte_le (not (eqb c.content.result 0))),
    )
