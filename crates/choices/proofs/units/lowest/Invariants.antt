-- `choices::units::lowest`: no cell passed is a closed unit; the search ends past the last column, or at the first one. Assumes nothing.
use Prim.Native.Nat.{◌+◌, ◌*◌, ◌<◌}
use mathlib.Core.Path.{◌≡◌}
use Rattle.std.specs.Prelude.{None}
use Rattle.choices.specs.Tests.{NoUnitBelow}
use Rattle.choices.proofs.units.lowest.Given as goal

abbrev pub invariant-loop-row : goal.invariant-loop-row
invariant-loop-row l = (l.column < l.columns) × (l.lowest ≡ record { found = None; column = l.columns }) × NoUnitBelow l.work (l.column * l.rows + l.row)

abbrev pub invariant-grid : goal.invariant-grid
invariant-grid l = (l.lowest ≡ record { found = None; column = l.columns }) × NoUnitBelow l.work (l.column * l.rows)
