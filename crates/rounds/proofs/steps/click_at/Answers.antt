-- `rounds::steps::click_at`: one L, after the columns that it may change were marked. Assumes nothing.
use Rattle.rounds.proofs.Columns.{click_kept}
use Rattle.rounds.proofs.steps.click_at.Goals as goal

pub returns : goal.returns
returns c =
    let a = c.args in
    λ o g s old st p t u n e. click_kept a.rows a.columns g s old a.work.now c.click.new.work a.index c.requires.has_cells.1 st a.tops.now c.mark_click.new.tops
    a.list.now a.state c.click.new.list c.click.result o (c.mark_click.ensures g s old st) t u n (c.click.ensures.made g s old st p t u e)
