-- `moves::single::flag_around`: the cells passed were flagged in turn. Assumes nothing.
use Prim.Native.Nat.{◌+◌, ◌≤◌}
use lib.ListN.{length}
use Rattle.squares.proofs.Going.{Going}
use Rattle.moves.specs.Walks.{Over, flags_from}
use Rattle.moves.proofs.single.flag_around.Given as goal

abbrev pub invariant-loop-near : goal.invariant-loop-near
invariant-loop-near l =
    Going l.rows l.columns l.index l.yielded l.near-iterator × (l.flagged.moves ≤ l.initial.flagged.moves + length l.yielded)
    × Over flags_from l.yielded l.rows l.columns l.initial.work l.initial.list l.initial.flagged l.work l.list l.flagged
