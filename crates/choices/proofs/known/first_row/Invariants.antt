-- `choices::known::first_row`: no row passed has such a cell. Assumes nothing.
use Prim.Native.Nat.{ℕ, ◌*◌, ◌+◌, ◌<◌}
use mathlib.Core.Path.{◌≡◌}
use mathlib.Core.Bool.{false}
use Rattle.choices.specs.Tests.{top_at}
use Rattle.choices.proofs.known.first_row.Given as goal

abbrev pub invariant-loop-row : goal.invariant-loop-row
invariant-loop-row l = (k : ℕ) → k < l.row → top_at l.opened_only l.top l.work (l.column * l.rows + k) ≡ false
