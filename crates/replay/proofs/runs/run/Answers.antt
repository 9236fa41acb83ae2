-- `replay::runs::run`: so far the list was played as its replay goes; a refused move stops both. Assumes nothing.
use mathlib.Core.Path.{◌∙◌, ◌≡◌, ap}
use lib.ListN.{take}
use Rattle.std.specs.Prelude.{Some}
use Rattle.std.specs.Result.{result_from_control_flow, result_ok}
use Rattle.replay.proofs.Running.{ends, goes-on}
use Rattle.replay.proofs.runs.run.Goals as goal

pub loop-place-preserved : goal.loop-place-preserved
loop-place-preserved c = let a = c.args in
    let l = c.loop-place in
    let q = c.make in
    let k : q.result ≡ Some c.in_ok-left.left = c.ok_or.ensures.ok_part ∙ ap result_ok (c.branch-left.ensures ∙ ap result_from_control_flow c.in_ok-left.is) in
    (q.auto.work ∙ l.invariant.0, goes-on a.rows a.columns a.work.now (take a.count a.list.now) a.safe l.place l.left l.work l.invariant.1 c.loop-place-test.true q.result q.new.work q.ensures c.in_ok-left.left k)

pub returns : goal.returns
returns c = let a = c.args in
    let l = c.loop-place in
    ends a.rows a.columns a.work.now (take a.count a.list.now) a.safe l.place l.left l.work l.invariant.1 c.loop-place-test.false c.ending_of.result c.ending_of.ensures
