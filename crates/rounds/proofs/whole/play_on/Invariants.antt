-- `rounds::whole::play_on`: the steps so far are those of the definition; fewer units are closed after each; what is kept of the columns stays right. Assumes nothing.
use Prim.Native.Nat.{◌*◌, ◌≤◌}
use Rattle.choices.specs.Tests.{NoUnitBelow}
use Rattle.choices.specs.Tops.{TopsKnown}
use Rattle.rounds.proofs.Onward.{StepsMidway}
use Rattle.rounds.proofs.whole.play_on.Given as goal

abbrev pub invariant-loop-current : goal.invariant-loop-current
invariant-loop-current l =
    StepsMidway l.opened_only l.rows l.columns l.initial.work l.initial.list l.initial.current l.work l.list l.current × TopsKnown l.opened_only l.work l.rows l.columns l.tops × (l.from ≤ l.columns) × NoUnitBelow l.work (l.from * l.rows)

abbrev pub decreases-loop-current : goal.decreases-loop-current
decreases-loop-current l = l.current.units
