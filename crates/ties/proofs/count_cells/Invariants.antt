-- `ties::count_cells`: the candidates counted so far are those passed. Assumes nothing.
use Prim.Native.Nat.{◌*◌, ◌+◌, ◌≤◌}
use mathlib.Core.Path.{◌≡◌}
use Rattle.game.specs.Lists.{count, range}
use Rattle.ties.specs.Candidates.{candidate_at}
use Rattle.ties.proofs.count_cells.Given as goal

abbrev pub invariant-loop-row : goal.invariant-loop-row
invariant-loop-row l =
    (l.candidates ≡ count (candidate_at l.top l.work) (range (l.column * l.rows) (l.column * l.rows + l.row))) × (l.candidates ≤ l.row)
