-- `replay::clicks::click_square`: the cells passed were clicked one after the other. Assumes nothing.
use native.Mathlib.Omega.{arith}
use mathlib.Core.Path.{◌∙◌}
use mathlib.Core.List.{[], ◌∷◌}
use Rattle.squares.proofs.Going.{begun, done, goes_on, on_grid}
use Rattle.replay.proofs.Clicking.{clicked_both, clicked_none}
use Rattle.replay.proofs.clicks.click_square.Goals as goal

pub loop-near-init : goal.loop-near-init
loop-near-init c = let a = c.args in
    let e = c.into_iter-near-iterator.ensures.into_iter_gives ∙ c.around-near-items.ensures in
    (begun a.rows a.columns a.index c.into_iter-near-iterator.result e (omega arith), clicked_none a.rows a.columns a.mines a.work.now a.left)

pub click-so-requires : goal.click-so-requires
click-so-requires c = let a = c.args in
    let l = c.loop-near in
    record { shape = c.requires.shape; has_cells = (omega arith, on_grid a.rows a.columns a.index l.yielded l.near-iterator l.invariant.0 c.in-Some.near c.next.new.self c.in-Some.ensures.steps) }

pub loop-near-preserved : goal.loop-near-preserved
loop-near-preserved c = let a = c.args in
    let l = c.loop-near in
    let u = c.click-so in (
      goes_on a.rows a.columns a.index l.yielded l.near-iterator l.invariant.0 c.in-Some.near c.next.new.self c.in-Some.ensures.steps,
      clicked_both a.rows a.columns a.mines a.work.now l.work u.new.work l.yielded (c.in-Some.near ∷ []) a.left l.so u.result l.invariant.1 u.ensures,
    )

pub returns : goal.returns
returns c = let a = c.args in
    let l = c.loop-near in
    let e = done a.rows a.columns a.index l.yielded l.near-iterator l.invariant.0 c.in-None.ensures.steps.0 in rw e at l.invariant.1
