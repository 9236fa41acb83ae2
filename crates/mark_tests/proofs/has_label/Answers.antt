-- `marks::has_label`: no row passed has such a cell. Assumes nothing.
use native.Mathlib.Omega.{arith}
use mathlib.Core.Path.{◌∙◌, sym}
use Rattle.mark_tests.specs.Tests.{shares_at}
use Rattle.mark_tests.proofs.Sharing.{column_has, column_none, none_more}
use Rattle.mark_tests.proofs.has_label.Goals as goal

pub returns-then-shares : goal.returns-then-shares
returns-then-shares c =
    let a = c.args in
    column_has (shares_at a.work.now a.first a.second) a.rows a.column c.loop-row.row c.cell-index.result (omega arith) c.cell-index.ensures.0 (sym c.if-shares.true ∙ c.shares.ensures)

pub loop-row-preserved : goal.loop-row-preserved
loop-row-preserved c =
    let a = c.args in
    none_more (shares_at a.work.now a.first a.second) a.rows a.column c.loop-row.row c.cell-index.result c.loop-row.invariant c.cell-index.ensures.0 (sym c.shares.ensures ∙ c.if-shares.false)

pub returns : goal.returns
returns c =
    let l = c.loop-row in
    let a = c.args in
    column_none (shares_at a.work.now a.first a.second) a.rows a.column l.row (omega arith) l.invariant
