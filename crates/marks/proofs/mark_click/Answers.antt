-- `marks::mark_click`: a 0-cell opens all of its opening, any other cell itself. Assumes nothing.
use mathlib.Core.Path.{◌∙◌}
use Rattle.marks.proofs.Spanned.{clicked_one}
use Rattle.marks.proofs.mark_click.Goals as goal

pub returns : goal.returns
returns c =
    let a = c.args in
    λ g p old t. clicked_one a.rows a.columns g p old a.work.now a.index c.requires.has_cells.1 t a.tops.now _
    (λ e. c.if-content-eq1.false (c.content.ensures.0 ∙ e)) c.mark_one.ensures.0 c.mark_one.ensures.1
