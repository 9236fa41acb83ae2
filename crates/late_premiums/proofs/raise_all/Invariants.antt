-- `late_premiums::raise_all`: the squares of the cells passed are raised. Assumes nothing.
use Prim.Native.Nat.{◌≤◌}
use mathlib.Core.Path.{◌≡◌}
use lib.ListN.{length}
use Rattle.game.specs.Lists.{range, fold}
use Rattle.late_premiums.specs.Passes.{raise_near}
use Rattle.late_premiums.proofs.raise_all.Given as goal

abbrev pub invariant-loop-index : goal.invariant-loop-index
invariant-loop-index l =
    (l.index ≤ l.cells) × (l.work ≡ fold (raise_near l.rows l.columns) l.initial.work (range 0 l.index)) × (length l.work ≡ length l.initial.work)
