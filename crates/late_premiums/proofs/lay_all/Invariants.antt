-- `late_premiums::lay_all`: the cells passed are laid. Assumes nothing.
use Prim.Native.Nat.{◌≤◌}
use mathlib.Core.Path.{◌≡◌}
use lib.ListN.{length}
use Rattle.game.specs.Lists.{range, fold}
use Rattle.late_premiums.specs.Passes.{lay_cell}
use Rattle.late_premiums.proofs.lay_all.Given as goal

abbrev pub invariant-loop-index : goal.invariant-loop-index
invariant-loop-index l = (l.index ≤ l.cells) × (l.work ≡ fold (lay_cell l.cells) l.initial.work (range 0 l.index)) × (length l.work ≡ length l.initial.work)
