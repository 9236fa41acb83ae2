-- `late_premiums::halve_all`: the cells passed are halved. Assumes nothing.
use Prim.Native.Nat.{◌≤◌}
use mathlib.Core.Path.{◌≡◌}
use lib.ListN.{length}
use Rattle.game.specs.Lists.{range, fold}
use Rattle.late_premiums.specs.Passes.{halve_cell}
use Rattle.late_premiums.proofs.halve_all.Given as goal

abbrev pub invariant-loop-index : goal.invariant-loop-index
invariant-loop-index l = (l.index ≤ l.cells) × (l.work ≡ fold halve_cell l.initial.work (range 0 l.index)) × (length l.work ≡ length l.initial.work)
