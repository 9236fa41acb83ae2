-- `ties::pick`: the candidates of the columns passed are counted, until the place is in a column. Assumes nothing.
use Prim.Native.Nat.{◌*◌, ◌≤◌}
use mathlib.Core.Path.{◌≡◌}
use Rattle.game.specs.Lists.{count, range}
use Rattle.ties.specs.Candidates.{candidate_at}
use Rattle.choices.specs.Tops.{UnitsKnown}
use Rattle.ties.proofs.pick.Given as goal

abbrev pub invariant-loop-column : goal.invariant-loop-column
invariant-loop-column l =
    UnitsKnown l.work l.rows l.columns l.units l.units × (l.passed ≡ count (candidate_at l.top l.work) (range 0 (l.column * l.rows))) × (l.passed ≤ l.column * l.rows) × (l.passed ≤ l.place)
