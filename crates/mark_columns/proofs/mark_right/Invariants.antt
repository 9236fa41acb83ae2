-- `mark_columns::mark_right`: the columns passed are marked. Assumes nothing.
use Prim.Native.Nat.{ℕ}
use Rattle.mark_columns.specs.Columns.{MarkedOr}
use Rattle.mark_columns.proofs.Marks.{Outside}
use Rattle.mark_columns.proofs.mark_right.Given as goal

abbrev pub invariant-loop-right : goal.invariant-loop-right
invariant-loop-right l = (c : ℕ) → MarkedOr (Outside l.column l.right c) l.initial.tops l.tops c
