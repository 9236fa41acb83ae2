-- `choices::units::lowest`: no cell passed is a closed unit; the search ends past the last column, or at the first one. Assumes nothing.
use Prim.Native.Nat.{ℕ, ◌+◌, ◌*◌}
use native.Mathlib.Omega.{arith}
use mathlib.Core.Path.{◌≡◌, subst, sym, ◌∙◌}
use Rattle.choices.specs.Tests.{NoUnitBelow}
use Rattle.choices.proofs.Below.{at_lowest, none_lowest, one_more}
use Rattle.choices.proofs.units.lowest.Goals as goal

pub loop-row-preserved : goal.loop-row-preserved
loop-row-preserved c =
    let x = c.grid.column in
    let a = c.args in
    (c.loop-row.invariant.0, c.loop-row.invariant.1, one_more a.work.now (x * a.rows + c.loop-row.row) (x * a.rows + (c.loop-row.row + 1)) c.loop-row.invariant.2 (sym c.unit.ensures ∙ c.if-unit.false) (omega arith))

pub returns-then-unit : goal.returns-then-unit
returns-then-unit c =
    let a = c.args in
    at_lowest a.rows a.columns a.work.now c.grid.column c.loop-row.row c.loop-row.invariant.0 (omega arith) (sym c.if-unit.true ∙ c.unit.ensures) c.loop-row.invariant.2

pub returns-after-grid : goal.returns-after-grid
returns-after-grid c =
    let a = c.args in
    let e : c.grid.column ≡ a.columns = omega arith in
    rw c.grid.invariant.0 (none_lowest a.rows a.columns a.work.now (subst (λ (n : ℕ). NoUnitBelow a.work.now (n * a.rows)) e c.grid.invariant.1))
