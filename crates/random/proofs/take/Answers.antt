-- `random::take`: one L below 10, else the moves at the chosen cell. Assumes nothing.
use mathlib.Core.Path.{subst}
use mathlib.Core.Bool.{false}
use mathlib.Core.List.{List}
use Rattle.game.specs.Moves.{Move}
use Rattle.rounds.specs.Promises.{MadeKnown}
use Rattle.random.proofs.Takes.{act_taken, click_taken}
use Rattle.random.proofs.take.Goals as goal

pub returns-then-top-lt10 : goal.returns-then-top-lt10
returns-then-top-lt10 c =
    let a = c.args in
    let y = c.click_at in
    λ g s old st f t u n e. subst (λ (ms : List Move). MadeKnown false a.rows a.columns g s old ms a.list.now a.work.now a.tops.now a.state y.new.work y.new.list y.new.tops y.result)
    (click_taken g s a.top a.index c.if-top-lt10.true) (y.ensures false g s old st f t (u c.if-top-lt10.true).0 (u c.if-top-lt10.true).1 e)

pub returns : goal.returns
returns c =
    let a = c.args in
    let y = c.act_at in
    λ g s old st f t u n e. subst (λ (ms : List Move). MadeKnown false a.rows a.columns g s old ms a.list.now a.work.now a.tops.now a.state y.new.work y.new.list y.new.tops y.result)
    (act_taken g s a.top a.index c.if-top-lt10.false) (y.ensures false g s old st f t (n c.if-top-lt10.false) e)
