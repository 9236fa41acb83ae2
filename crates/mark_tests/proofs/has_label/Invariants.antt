-- `marks::has_label`: no row passed has such a cell. Assumes nothing.
use Prim.Native.Nat.{ℕ, ◌*◌, ◌+◌, ◌<◌}
use mathlib.Core.Path.{◌≡◌}
use mathlib.Core.Bool.{false}
use Rattle.mark_tests.specs.Tests.{shares_at}
use Rattle.mark_tests.proofs.has_label.Given as goal

abbrev pub invariant-loop-row : goal.invariant-loop-row
invariant-loop-row l = (k : ℕ) → k < l.row → shares_at l.work l.first l.second (l.column * l.rows + k) ≡ false
