-- `start::settle::settle_cells`: the cells passed are settled. Assumes nothing.
use Prim.Native.Nat.{◌-◌, ◌≤◌}
use mathlib.Core.Path.{◌≡◌}
use lib.ListN.{length}
use Rattle.game.specs.Lists.{range, fold}
use Rattle.start.specs.Passes.{settle_cell}
use Rattle.start.proofs.settle.settle_cells.Given as goal

abbrev pub invariant-loop-index : goal.invariant-loop-index
invariant-loop-index l = (l.index ≤ l.cells) × (l.work ≡ fold settle_cell l.initial.work (range 0 l.index)) × (length l.work ≡ length l.initial.work)

abbrev pub decreases-loop-index : goal.decreases-loop-index
decreases-loop-index l = l.cells - l.index
