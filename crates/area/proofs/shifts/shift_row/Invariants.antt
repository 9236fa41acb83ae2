-- `area::shifts::shift_row`: the run up to the column is the fold over the columns passed. Assumes nothing.
use mathlib.Core.Path.{◌≡◌}
use Rattle.game.specs.Lists.{fold}
use Rattle.area.specs.Squares.{row_cells, shifted}
use Rattle.area.proofs.shifts.shift_row.Given as goal

abbrev pub invariant-loop-column : goal.invariant-loop-column
invariant-loop-column l =
    l.work ≡ fold (shifted l.up l.down) l.initial.work (row_cells l.rows l.row l.from l.column)
