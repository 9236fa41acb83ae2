-- `premiums::raise_all`: the squares of the cells passed are raised. Assumes nothing.
use mathlib.Core.Path.{◌≡◌}
use Rattle.game.specs.Lists.{range, fold}
use Rattle.premiums.specs.Laying.{raise_near}
use Rattle.premiums.proofs.raise_all.Given as goal

abbrev pub invariant-loop-index : goal.invariant-loop-index
invariant-loop-index l =
    l.work ≡ fold (raise_near l.rows l.columns) l.initial.work (range 0 l.index)
