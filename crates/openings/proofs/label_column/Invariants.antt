-- `label_column`: the cells of the column passed were looked at in index order. Assumes nothing.
use Prim.Native.Nat.{◌*◌, ◌+◌, ◌-◌, ◌≤◌}
use mathlib.Core.Path.{◌≡◌}
use mathlib.Core.List.{List}
use lib.IntN.{ℤ}
use lib.ListN.{length}
use Rattle.openings.specs.Numbering.{Numbered}
use Rattle.openings.proofs.label_column.Given as goal

abbrev pub invariant-loop-row : goal.invariant-loop-row
invariant-loop-row l =
    (l.row ≤ l.rows) × (length l.work ≡ length l.initial.work) × (l.found ≤ l.count + l.row)
    × ((w₀ : List ℤ) → Numbered l.rows l.columns w₀ (l.column * l.rows) l.count l.initial.work → Numbered l.rows l.columns w₀ (l.column * l.rows + l.row) l.found l.work)

abbrev pub decreases-loop-row : goal.decreases-loop-row
decreases-loop-row l = l.rows - l.row
