-- `random::roll_on`: the steps so far are those of the definition; fewer units are closed after each, so a key has room; what is kept of the columns stays right. Assumes nothing.
use mathlib.Core.Path.{◌≡◌}
use mathlib.Core.Bool.{false}
use lib.ListN.{length}
use Rattle.choices.specs.Tops.{TopsKnown, UnitsKnown}
use Rattle.draws.specs.Answers.{mode_of}
use Rattle.random.proofs.Courses.{RoundMidway}
use Rattle.random.proofs.Supplies.{Spent}
use Rattle.random.proofs.roll_on.Given as goal

abbrev pub invariant-loop-state : goal.invariant-loop-state
invariant-loop-state l =
    (length l.work ≡ length l.initial.work) × (length l.list ≡ length l.initial.list) × (length l.tops ≡ length l.initial.tops) × (length l.column_units ≡ length l.initial.column_units)
    × RoundMidway l.rows l.columns l.initial.work (mode_of l.mode) l.draws l.units l.initial.rest l.initial.list l.work l.list l.state l.rest × TopsKnown false l.work l.rows l.columns l.tops × UnitsKnown l.work l.rows l.columns l.tops l.column_units
    × Spent l.initial.rest l.units l.rest l.state.units

abbrev pub decreases-loop-state : goal.decreases-loop-state
decreases-loop-state l = l.state.units
