-- `spread::visit_square`: the cells passed are visited. Assumes nothing.
use Prim.Native.Nat.{◌*◌}
use native.Mathlib.Omega.{arith}
use mathlib.Core.Path.{◌∙◌, ap, refl, sym}
use mathlib.Core.List.{[], ◌∷◌}
use Rattle.game.specs.Lists.{fold}
use Rattle.game.proofs.Members.{fold_append}
use Rattle.squares.proofs.Going.{begun, done, goes_on, on_grid}
use Rattle.spread.specs.Spreads.{now_spread, visited}
use Rattle.spread.proofs.Visits.{onward_none, onward_one, visit_ready}
use Rattle.spread.proofs.visit_square.Goals as goal

pub loop-near-init : goal.loop-near-init
loop-near-init c = let a = c.args in
    let e = c.into_iter-near-iterator.ensures.into_iter_gives ∙ c.around-near-items.ensures in (
      begun a.rows a.columns a.index c.into_iter-near-iterator.result e (omega arith),
      onward_none (a.rows * a.columns) (now_spread a.work.now a.progress.waiting a.progress.opened) c.requires.fits,
      refl,
    )

pub visit-so-requires : goal.visit-so-requires
visit-so-requires c = let a = c.args in
    let l = c.loop-near in
    let ready = visit_ready a.rows a.columns c.requires.shape (now_spread a.work.now a.progress.waiting a.progress.opened) l.work l.so.waiting l.so.opened c.requires.has_cells.0 l.invariant.1 c.in-Some.near
    (on_grid a.rows a.columns a.index l.yielded l.near-iterator l.invariant.0 c.in-Some.near c.next.new.self c.in-Some.ensures.steps) in
    record { has_cell = ready.0; has_cell_2 = ready.1 }

pub loop-near-preserved : goal.loop-near-preserved
loop-near-preserved c = let a = c.args in
    let l = c.loop-near in
    let v = c.visit-so in
    let near = c.in-Some.near in
    let on = on_grid a.rows a.columns a.index l.yielded l.near-iterator l.invariant.0 near c.next.new.self c.in-Some.ensures.steps in
    let p = now_spread a.work.now a.progress.waiting a.progress.opened in
    let q = now_spread l.work l.so.waiting l.so.opened in
    let r = now_spread v.new.work v.result.waiting v.result.opened in (
      goes_on a.rows a.columns a.index l.yielded l.near-iterator l.invariant.0 near c.next.new.self c.in-Some.ensures.steps,
      onward_one a.rows a.columns c.requires.shape p q r c.requires.has_cells.0 l.invariant.1 near on v.ensures,
      v.ensures ∙ ap (λ x. visited x near) l.invariant.2 ∙ sym (fold_append visited p l.yielded (near ∷ [])),
    )

pub returns : goal.returns
returns c = let a = c.args in
    let l = c.loop-near in
    l.invariant.2 ∙ ap (fold visited (now_spread a.work.now a.progress.waiting a.progress.opened)) (done a.rows a.columns a.index l.yielded l.near-iterator l.invariant.0 c.in-None.ensures.steps.0)
