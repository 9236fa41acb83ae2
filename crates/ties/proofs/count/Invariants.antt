-- `ties::count`: the candidates counted so far are those of the columns passed. Assumes nothing.
use Prim.Native.Nat.{◌*◌, ◌≤◌}
use mathlib.Core.Path.{◌≡◌}
use Rattle.game.specs.Lists.{count, range}
use Rattle.ties.specs.Candidates.{candidate_at}
use Rattle.choices.specs.Tops.{UnitsKnown}
use Rattle.ties.proofs.count.Given as goal

abbrev pub invariant-loop-column : goal.invariant-loop-column
invariant-loop-column l =
    UnitsKnown l.work l.rows l.columns l.units l.units × (l.candidates ≡ count (candidate_at l.top l.work) (range 0 (l.column * l.rows))) × (l.candidates ≤ l.column * l.rows)
