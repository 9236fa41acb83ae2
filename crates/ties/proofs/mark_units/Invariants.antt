-- `ties::mark_units`: the columns passed that are marked for their premiums are marked. Assumes nothing.
use Prim.Native.Nat.{ℕ, ◌<◌}
use mathlib.Core.Path.{◌≡◌}
use mathlib.Core.List.{List}
use lib.ListN.{get_or}
use Rattle.mark_columns.specs.Columns.{MarkedOr}
use Rattle.ties.proofs.mark_units.Given as goal

-- a column before one is not marked for its premium
abbrev pub Shown : List ℕ → ℕ → ℕ → Type 0
Shown tops column c = c < column → get_or tops c 0 ≡ 0 → ⊥

abbrev pub invariant-loop-column : goal.invariant-loop-column
invariant-loop-column l =
    (c : ℕ) → MarkedOr (Shown l.tops l.column c) l.initial.units l.units c
