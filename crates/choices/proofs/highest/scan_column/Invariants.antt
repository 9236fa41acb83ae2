-- `choices::highest::scan_column`: the highest premium of the cells passed. Assumes nothing.
use Prim.Native.Nat.{◌*◌, ◌+◌}
use mathlib.Core.Path.{◌≡◌}
use Rattle.game.specs.Lists.{fold, range}
use Rattle.choices.specs.Tops.{top_with}
use Rattle.choices.proofs.highest.scan_column.Given as goal

abbrev pub invariant-loop-row : goal.invariant-loop-row
invariant-loop-row l = l.top ≡ fold (λ t r. top_with l.opened_only l.work t (l.column * l.rows + r)) 9 (range 0 l.row)
