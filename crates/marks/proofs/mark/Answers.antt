-- `marks::mark`: the columns near the cell's own, and both walks from there on if a closed 0-cell is near, which no cell without label has. Assumes nothing.
use native.Mathlib.Omega.{arith}
use mathlib.Core.Path.{◌∙◌, sym}
use Rattle.marks.proofs.Spanned.{marks_near, marks_spanned, none_borders}
use Rattle.marks.proofs.mark.Goals as goal

pub returns-then-first-eq0 : goal.returns-then-first-eq0
returns-then-first-eq0 c =
    let a = c.args in
    let f = c.mark_near in
    λ g p old t. marks_near a.rows a.columns g p old a.work.now a.index c.requires.has_cells.1 t a.tops.now f.new.tops
    (none_borders a.rows a.columns g p old a.work.now a.index c.requires.has_cells.1 t (sym c.if-first-eq0.true ∙ c.first_label-first.ensures.0)) f.ensures.0 f.ensures.1

pub returns-then-not-borders_closed : goal.returns-then-not-borders_closed
returns-then-not-borders_closed c =
    let a = c.args in
    let f = c.mark_near in
    λ g p old t. marks_near a.rows a.columns g p old a.work.now a.index c.requires.has_cells.1 t a.tops.now f.new.tops
    (sym c.if-not-borders_closed.true ∙ c.borders_closed.ensures g p old t) f.ensures.0 f.ensures.1

pub returns : goal.returns
returns c =
    let a = c.args in
    λ g p old t. marks_spanned a.rows a.columns g p old a.work.now a.index c.requires.has_cells.1 t c.first_label-first.result c.second_label-second.result c.saturating_sub.result _
    a.tops.now c.mark_near.new.tops c.mark_left.new.tops c.mark_right.new.tops c.first_label-first.ensures.0 c.second_label-second.ensures.0
    c.mark_near.ensures c.mark_left.ensures c.mark_right.ensures (omega arith) (omega arith)
