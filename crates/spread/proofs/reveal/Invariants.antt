-- `spread::reveal`: the work area is that of a position that the spread came to, until none waits. Twice the closed cells, plus the cells that wait, fall. Assumes nothing.
use Prim.Native.Nat.{◌*◌, ◌+◌}
use mathlib.Core.Path.{◌≡◌}
use mathlib.Core.List.{List}
use lib.IntN.{ℤ}
use lib.ListN.{length}
use Rattle.game.specs.Grid.{Grid}
use Rattle.game.specs.Position.{Position}
use Rattle.spread.specs.Spreads.{Fits, closed_cells, now_spread}
use Rattle.spread.proofs.Reveals.{Spreads}
use Rattle.spread.proofs.reveal.Given as goal

abbrev pub invariant-loop-so : goal.invariant-loop-so
invariant-loop-so l =
    Fits (l.rows * l.columns) (now_spread l.work l.so.waiting l.so.opened) × (length l.work ≡ length l.initial.work)
    × ((g : Grid) (s : Position) (old : List ℤ) → Spreads l.rows l.columns g s old l.index (now_spread l.initial.work l.initial.so.waiting l.initial.so.opened) → Spreads l.rows l.columns g s old l.index (now_spread l.work l.so.waiting l.so.opened))

abbrev pub decreases-loop-so : goal.decreases-loop-so
decreases-loop-so l = 2 * closed_cells (l.rows * l.columns) l.work + l.so.waiting
