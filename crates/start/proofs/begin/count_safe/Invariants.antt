-- `start::begin::count_safe`: the safe cells counted so far are those passed. Assumes nothing.
use Prim.Native.Nat.{◌≤◌}
use mathlib.Core.Path.{◌≡◌}
use Rattle.game.specs.Lists.{count, range}
use Rattle.premiums.specs.Laying.{safe_at}
use Rattle.start.proofs.begin.count_safe.Given as goal

abbrev pub invariant-loop-index : goal.invariant-loop-index
invariant-loop-index l = (l.safe ≡ count (safe_at l.work) (range 0 l.index)) × (l.safe ≤ l.index)
