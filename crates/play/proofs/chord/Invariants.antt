-- `play::chord`: the cells passed were revealed one after the other. Assumes nothing.
use Prim.Native.Nat.{◌≤◌}
use lib.ListN.{length}
use Rattle.squares.proofs.Going.{Going}
use Rattle.play.specs.Promises.{Opens}
use Rattle.play.proofs.chord.Given as goal

abbrev pub invariant-loop-near : goal.invariant-loop-near
invariant-loop-near l =
    Going l.rows l.columns l.index l.yielded l.near-iterator × (l.opened.units ≤ length l.yielded) × Opens l.rows l.columns l.initial.work l.yielded l.opened l.work
