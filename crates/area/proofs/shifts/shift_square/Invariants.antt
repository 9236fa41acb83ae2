-- `area::shifts::shift_square`: the run up to the row is the fold over the rows passed. Assumes nothing.
use mathlib.Core.Path.{◌≡◌}
use Rattle.game.specs.Lists.{fold}
use Rattle.area.specs.Squares.{block_cells, shifted}
use Rattle.area.proofs.shifts.shift_square.Given as goal

abbrev pub invariant-loop-row : goal.invariant-loop-row
invariant-loop-row l =
    l.work ≡ fold (shifted l.up l.down) l.initial.work (block_cells l.rows l.sides.first l.row l.sides.from l.sides.to)
