-- The cycle of `label_cell` and `visit`. `label_cell` labels a 0-cell before it visits its neighbours, so the 0-cells without label fall from cell to cell; in `visit` the neighbours left fall.
-- Assumes nothing.
use Prim.Native.Nat.{◌+◌, ◌*◌, ◌≤◌}
use Rattle.area.specs.Numbers.{content_at}
use Rattle.labels.specs.Labels.{free_of, shaped}
use Rattle.cycle.specs.Visits.{Visited}
use Rattle.cycle.proofs.+label_cell_visit.Given as goal

abbrev pub decreases-label_cell : goal.decreases-label_cell
decreases-label_cell l = free_of (l.rows * l.columns) l.work.now * 2

abbrev pub decreases-visit : goal.decreases-visit
decreases-visit l = free_of (l.rows * l.columns) l.work.now * 2 + 1

abbrev pub invariant-visit-loop-k : goal.invariant-visit-loop-k
invariant-visit-loop-k l = (l.k ≤ 9) × Visited (shaped l.rows l.columns) (content_at l.initial.work) l.op l.index l.k l.initial.work l.work
