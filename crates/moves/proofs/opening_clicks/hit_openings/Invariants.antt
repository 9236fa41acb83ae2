-- `moves::opening_clicks::hit_openings`: the cells passed were clicked in turn where they are closed 0-cells. Assumes nothing.
use Prim.Native.Nat.{◌≤◌, ◌+◌}
use mathlib.Core.Path.{◌≡◌}
use lib.ListN.{length}
use Rattle.game.specs.Lists.{range}
use Rattle.moves.specs.Walks.{Over, hits_from}
use Rattle.moves.proofs.opening_clicks.hit_openings.Given as goal

abbrev pub invariant-loop-index : goal.invariant-loop-index
invariant-loop-index l =
    (l.index ≤ l.cells) × (length l.work ≡ length l.initial.work) × (length l.list ≡ length l.initial.list) × (l.clicked.moves ≤ l.initial.clicked.moves + l.index)
    × Over hits_from (range 0 l.index) l.rows l.columns l.initial.work l.initial.list l.initial.clicked l.work l.list l.clicked
