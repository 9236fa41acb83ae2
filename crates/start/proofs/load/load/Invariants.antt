-- `start::load::load`: the columns passed are loaded, so at the end the grid is. Assumes nothing.
use Prim.Native.Nat.{◌-◌, min}
use mathlib.Core.Path.{◌≡◌}
use Rattle.game.specs.Lists.{range, fold}
use Rattle.area.specs.Numbers.{grid_of}
use Rattle.start.specs.Passes.{load_column}
use Rattle.start.proofs.load.load.Given as goal

abbrev pub invariant-loop-from : goal.invariant-loop-from
invariant-loop-from l =
    l.work ≡ fold (load_column (grid_of l.rows l.columns l.grid)) l.initial.work (range 0 (min l.from l.columns))

abbrev pub decreases-loop-from : goal.decreases-loop-from
decreases-loop-from l = l.columns - l.from
