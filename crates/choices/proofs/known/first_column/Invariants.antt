-- `choices::known::first_column`: the first of the columns passed that has the highest premium. Assumes nothing.
use mathlib.Core.Path.{◌≡◌}
use lib.ListN.{length}
use Rattle.choices.specs.Tops.{TopsKnown, first_of}
use Rattle.choices.proofs.known.first_column.Given as goal

abbrev pub invariant-loop-column : goal.invariant-loop-column
invariant-loop-column l =
    (length l.tops ≡ length l.initial.tops) × TopsKnown l.opened_only l.work l.rows l.columns l.tops × (l.found ≡ first_of l.opened_only l.work l.rows l.columns l.column)
