-- `rounds::steps::act_at`: the moves at a cell, after the columns that they may change were marked. Assumes nothing.
use Rattle.rounds.proofs.Columns.{act_kept}
use Rattle.rounds.proofs.steps.act_at.Goals as goal

pub returns : goal.returns
returns c =
    let a = c.args in
    λ o g s old st p t u e. act_kept a.rows a.columns g s old a.work.now c.act.new.work a.index c.requires.has_cells.1 st a.tops.now c.mark.new.tops
    a.list.now a.state c.act.new.list c.act.result o (c.mark.ensures g s old st) (c.act.ensures g s old st p t u e)
