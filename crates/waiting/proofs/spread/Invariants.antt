-- `waiting::spread`: each newly labelled 0-cell waits or has its square visited, until none waits. Twice the 0-cells without label, plus the cells that wait, fall. Assumes nothing.
use Rattle.area.specs.Numbers.{HasCells, content_at}
use Prim.Native.Nat.{◌*◌, ◌+◌}
use mathlib.Core.List.{List}
use lib.IntN.{ℤ}
use Rattle.labels.specs.Labels.{free_of, shaped}
use Rattle.waiting.specs.Waits.{Waited}
use Rattle.waiting.proofs.Takes.{Spreading}
use Rattle.waiting.proofs.spread.Given as goal

abbrev pub invariant-loop-top : goal.invariant-loop-top
invariant-loop-top l =
    (w : List ℤ) → HasCells w (l.rows * l.columns) → Waited (l.rows * l.columns) l.op l.index 0 w l.initial.top l.initial.work → Spreading (shaped l.rows l.columns) (content_at w) l.op l.index w l.work l.top

abbrev pub decreases-loop-top : goal.decreases-loop-top
decreases-loop-top l = 2 * free_of (l.rows * l.columns) l.work + l.top
