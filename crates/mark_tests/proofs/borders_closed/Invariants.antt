-- `marks::borders_closed`: no place passed has a closed 0-cell; all nine are the square. Assumes nothing.
use mathlib.Core.Path.{◌≡◌}
use mathlib.Core.Bool.{false}
use mathlib.Core.List.{[]}
use Rattle.area.specs.Numbers.{grid_of}
use Rattle.area.proofs.SquareSides.{nine}
use Rattle.game.specs.Lists.{some_of}
use Rattle.mark_tests.specs.Tests.{closed_zero_at}
use Rattle.mark_tests.proofs.borders_closed.Given as goal

abbrev pub invariant-loop-place : goal.invariant-loop-place
invariant-loop-place l = some_of (closed_zero_at l.work) (nine (grid_of l.rows l.columns []) l.index l.place) ≡ false
