-- `waiting::visit_square`: the cells passed are visited. Assumes nothing.
use lib.Dec.{T}
use Rattle.area.specs.Numbers.{content_at}
use Rattle.game.specs.Lists.{has}
use Rattle.labels.specs.Labels.{shaped}
use Rattle.squares.proofs.Going.{Going}
use Rattle.waiting.specs.Waits.{Pushed}
use Rattle.waiting.proofs.visit_square.Given as goal

abbrev pub invariant-loop-near : goal.invariant-loop-near
invariant-loop-near l =
    Going l.rows l.columns l.index l.yielded l.near-iterator
    × Pushed (shaped l.rows l.columns) (content_at l.initial.work) l.op l.index (λ y. T (has y l.yielded)) l.initial.work l.top l.work l.waiting
