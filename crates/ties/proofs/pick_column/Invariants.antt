-- `ties::pick_column`: the candidates passed are counted; the one at the place has as many before it. Assumes nothing.
use Prim.Native.Nat.{◌*◌, ◌+◌, ◌≤◌}
use mathlib.Core.Path.{◌≡◌}
use Rattle.game.specs.Lists.{count, range}
use Rattle.ties.specs.Candidates.{candidate_at}
use Rattle.ties.proofs.pick_column.Given as goal

abbrev pub invariant-loop-row : goal.invariant-loop-row
invariant-loop-row l =
    (l.passed ≡ count (candidate_at l.top l.work) (range 0 (l.column * l.rows + l.row))) × (l.passed ≤ l.place) × (l.passed ≤ l.column * l.rows + l.row)
