-- `late_premiums::mark_all`: the cells passed have marked their openings. Assumes nothing.
use Prim.Native.Nat.{◌≤◌}
use mathlib.Core.Path.{◌≡◌}
use lib.ListN.{length}
use Rattle.game.specs.Lists.{range, fold}
use Rattle.late_premiums.specs.Passes.{mark_cell}
use Rattle.late_premiums.proofs.mark_all.Given as goal

abbrev pub invariant-loop-index : goal.invariant-loop-index
invariant-loop-index l = (l.index ≤ l.cells) × (l.work ≡ fold (mark_cell l.cells) l.initial.work (range 0 l.index)) × (length l.work ≡ length l.initial.work)
