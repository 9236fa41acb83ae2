-- `mbf_read::numbers::fill`: the rows passed have their values, and one row more its mines. Assumes nothing.
use Prim.Native.Nat.{◌+◌, ◌-◌, ◌*◌, ◌≤◌, min}
use Rattle.mbf_read.specs.Numbers.{bit_grid}
use Rattle.mbf_read.proofs.Rows.{Stage}
use Rattle.mbf_read.proofs.numbers.fill.Given as goal

abbrev pub invariant-loop-row : goal.invariant-loop-row
invariant-loop-row l =
    (l.row ≤ l.rows) × Stage (bit_grid l.rows l.columns l.bits) l.initial.grid (l.row * l.columns) (min (l.row + 1) l.rows * l.columns) l.grid

abbrev pub decreases-loop-row : goal.decreases-loop-row
decreases-loop-row l = l.rows - l.row
