-- `replay::flags::flags_square`: the flags of the cells passed are counted. Assumes nothing.
use Prim.Native.Nat.{◌≤◌}
use mathlib.Core.Path.{◌≡◌}
use lib.ListN.{length}
use Rattle.game.specs.Lists.{count}
use Rattle.squares.proofs.Going.{Going}
use Rattle.replay.specs.Clicks.{flagged_at}
use Rattle.replay.proofs.flags.flags_square.Given as goal

abbrev pub invariant-loop-near : goal.invariant-loop-near
invariant-loop-near l =
    Going l.rows l.columns l.index l.yielded l.near-iterator × (l.flags ≤ length l.yielded) × (l.flags ≡ count (flagged_at l.work) l.yielded)
