-- `spread::visit_square`: the cells passed are visited. Assumes nothing.
use Prim.Native.Nat.{◌*◌}
use mathlib.Core.Path.{◌≡◌}
use Rattle.game.specs.Lists.{fold}
use Rattle.squares.proofs.Going.{Going}
use Rattle.spread.specs.Spreads.{now_spread, visited}
use Rattle.spread.proofs.Visits.{Onward}
use Rattle.spread.proofs.visit_square.Given as goal

abbrev pub invariant-loop-near : goal.invariant-loop-near
invariant-loop-near l =
    Going l.rows l.columns l.index l.yielded l.near-iterator
    × Onward (l.rows * l.columns) (now_spread l.initial.work l.initial.so.waiting l.initial.so.opened) (now_spread l.work l.so.waiting l.so.opened)
    × (now_spread l.work l.so.waiting l.so.opened ≡ fold visited (now_spread l.initial.work l.initial.so.waiting l.initial.so.opened) l.yielded)
