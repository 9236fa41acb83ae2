-- `mbf_read::numbers::put_mines`: the places passed have their values. Assumes nothing.
use Prim.Native.Nat.{◌-◌, ◌≤◌}
use mathlib.Core.Path.{◌≡◌}
use lib.ListN.{length}
use Rattle.game.specs.Lists.{fold, range}
use Rattle.mbf_read.specs.Numbers.{put_mine}
use Rattle.mbf_read.proofs.numbers.put_mines.Given as goal

abbrev pub invariant-loop-at : goal.invariant-loop-at
invariant-loop-at l =
    (l.from ≤ l.at) × (l.at ≤ l.to) × (l.grid ≡ fold (put_mine l.bits) l.initial.grid (range l.from l.at)) × (length l.grid ≡ length l.initial.grid)

abbrev pub decreases-loop-at : goal.decreases-loop-at
decreases-loop-at l = l.to - l.at
