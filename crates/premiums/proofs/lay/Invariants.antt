-- `premiums::lay`: the cells passed are laid and counted. Assumes nothing.
use Prim.Native.Nat.{◌≤◌}
use mathlib.Core.Path.{◌≡◌}
use Rattle.game.specs.Lists.{count, fold, range}
use Rattle.premiums.specs.Laying.{lay_cell, unlabelled_at}
use Rattle.premiums.proofs.lay.Given as goal

abbrev pub invariant-loop-index : goal.invariant-loop-index
invariant-loop-index l =
    (l.work ≡ fold lay_cell l.initial.work (range 0 l.index)) × (l.found ≡ count (unlabelled_at l.initial.work) (range 0 l.index)) × (l.found ≤ l.index)
