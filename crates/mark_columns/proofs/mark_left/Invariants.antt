-- `mark_columns::mark_left`: the columns passed are marked. Assumes nothing.
use Prim.Native.Nat.{ℕ}
use Rattle.mark_columns.specs.Columns.{MarkedOr}
use Rattle.mark_columns.proofs.Marks.{Outside}
use Rattle.mark_columns.proofs.mark_left.Given as goal

abbrev pub invariant-loop-left : goal.invariant-loop-left
invariant-loop-left l = (c : ℕ) → MarkedOr (Outside l.left l.column c) l.initial.tops l.tops c
