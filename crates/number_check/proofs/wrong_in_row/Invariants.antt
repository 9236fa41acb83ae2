-- `number_check::wrong_in_row`: no column passed has a wrong value; the sums of three columns are carried, and are the number of the cell. Assumes nothing.
use Prim.Native.Nat.{ℕ, ◌-◌, ◌<◌, ◌≤◌}
use mathlib.Core.Path.{◌≡◌}
use mathlib.Core.Bool.{false}
use Rattle.game.specs.Grid.{index, wrong}
use Rattle.area.specs.Numbers.{grid_of}
use Rattle.mine_sums.specs.Carried.{Before}
use Rattle.number_check.proofs.wrong_in_row.Given as goal

abbrev pub invariant-loop-column : goal.invariant-loop-column
invariant-loop-column l =
    (l.column ≤ l.limit) × ((c : ℕ) → c < l.column → wrong (grid_of l.rows l.columns l.grid) (index (grid_of l.rows l.columns l.grid) l.row c) ≡ false)
    × Before (grid_of l.rows l.columns l.grid) l.row l.column l.sums

abbrev pub decreases-loop-column : goal.decreases-loop-column
decreases-loop-column l = l.limit - l.column
