-- `rounds::whole::go_on`: the first steps and the steps to the end are the defined ones. Assumes nothing.
use Rattle.rounds.proofs.Columns.{none_kept}
use Rattle.rounds.proofs.Ending.{went_on}
use Rattle.rounds.proofs.whole.go_on.Goals as goal

pub play_on-requires-clause-tops_known : goal.play_on-requires-clause-tops_known
play_on-requires-clause-tops_known c = let a = c.args in none_kept a.openings_first c.begin-begun.new.work a.rows a.columns 255 c.requires.shape.few_columns

pub returns : goal.returns
returns c =
    let y = c.play_on in
    let a = c.args in
    let x = c.begin-begun in
    λ g s old st f e. went_on a.rows a.columns g s old a.openings_first a.list.now a.state x.new.work x.new.list x.result
    y.new.work y.new.list y.result f (x.ensures.made g s old st f e) (λ p n. y.ensures g p old n)
