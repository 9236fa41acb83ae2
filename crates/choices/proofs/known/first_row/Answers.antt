-- `choices::known::first_row`: no row passed has such a cell. Assumes nothing.
use native.Mathlib.Omega.{arith}
use mathlib.Core.Path.{◌∙◌, sym}
use Rattle.choices.specs.Tests.{top_at}
use Rattle.choices.proofs.Firsts.{column_first, column_first_none}
use Rattle.choices.proofs.known.first_row.Goals as goal

pub returns-then-has_top : goal.returns-then-has_top
returns-then-has_top c =
    let a = c.args in
    column_first (top_at a.opened_only a.top a.work.now) a.rows a.column c.loop-row.row c.cell-at.result (omega arith) c.cell-at.ensures.0
    (sym c.if-has_top.true ∙ c.has_top.ensures) c.loop-row.invariant

pub returns : goal.returns
returns c =
    let l = c.loop-row in
    let a = c.args in
    column_first_none (top_at a.opened_only a.top a.work.now) a.rows a.column l.row (omega arith) l.invariant
