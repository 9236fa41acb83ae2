-- `mbf_read::numbers::number_row`: the columns passed have their right values, by which no mine changed; so what is carried is what was carried along the row at entry. Assumes nothing.
use Prim.Native.Nat.{ℕ, ◌+◌, ◌-◌, ◌*◌, ◌≤◌}
use mathlib.Core.Path.{◌≡◌}
use mathlib.Core.List.{List}
use lib.IntN.{ℤ}
use lib.ListN.{length}
use Rattle.game.specs.Lists.{fold, range}
use Rattle.area.specs.Numbers.{grid_of}
use Rattle.mine_sums.specs.Carried.{Before}
use Rattle.mbf_read.specs.Numbers.{put_right}
use Rattle.mbf_read.proofs.numbers.number_row.Given as goal

-- the values of the row up to a column
abbrev pub filled : ℕ → ℕ → List ℤ → ℕ → ℕ → List ℤ
filled rows columns old row column = fold (put_right (grid_of rows columns old)) old (range (row * columns) (row * columns + column))

abbrev pub invariant-loop-column : goal.invariant-loop-column
invariant-loop-column l =
    (l.column ≤ l.columns) × (l.grid ≡ filled l.rows l.columns l.initial.grid l.row l.column) × (length l.grid ≡ length l.initial.grid) × Before (grid_of l.rows l.columns l.initial.grid) l.row l.column l.sums

abbrev pub decreases-loop-column : goal.decreases-loop-column
decreases-loop-column l = l.columns - l.column
