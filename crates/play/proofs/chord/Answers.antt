-- `play::chord`: the cells passed were revealed one after the other. Assumes nothing.
use native.Mathlib.Omega.{arith}
use mathlib.Core.Path.{◌∙◌, ap}
use mathlib.Core.List.{[], ◌∷◌}
use lib.ListN.{length-append}
use Rattle.squares.proofs.Going.{begun, done, goes_on, nine, on_grid}
use Rattle.play.specs.declared.Opened.{Opened}
use Rattle.play.proofs.Chords.{opens_both, opens_chord, opens_none, opens_one}
use Rattle.play.proofs.chord.Goals as goal

pub loop-near-init : goal.loop-near-init
loop-near-init c = let a = c.args in
    let e = c.into_iter-near-iterator.ensures.into_iter_gives ∙ c.around-near-items.ensures in
    (begun a.rows a.columns a.index c.into_iter-near-iterator.result e (omega arith), omega arith, opens_none a.rows a.columns a.work.now)

pub uncover-more-requires : goal.uncover-more-requires
uncover-more-requires c = let a = c.args in
    let l = c.loop-near in
    record { shape = c.requires.shape; has_cells = (omega arith, omega (arith, on_grid a.rows a.columns a.index l.yielded l.near-iterator l.invariant.0 c.in-Some.near c.next.new.self c.in-Some.ensures.steps)) }

pub both-opened-requires : goal.both-opened-requires
both-opened-requires c = let a = c.args in
    let l = c.loop-near in
    omega (arith, nine a.rows a.columns a.index l.yielded l.near-iterator l.invariant.0, l.invariant.1)

pub loop-near-preserved : goal.loop-near-preserved
loop-near-preserved c = let a = c.args in
    let l = c.loop-near in
    let near = c.in-Some.near in
    let u = c.uncover-more in
    let t = c.both-opened in (
      goes_on a.rows a.columns a.index l.yielded l.near-iterator l.invariant.0 near c.next.new.self c.in-Some.ensures.steps,
      omega (arith, ap (λ (o : Opened). o.units) t.ensures, length-append l.yielded (near ∷ [])),
      opens_both a.rows a.columns a.work.now l.yielded (near ∷ []) l.opened u.result t.result l.work u.new.work t.ensures l.invariant.2
          (opens_one a.rows a.columns l.work near u.result u.new.work u.ensures.1),
    )

pub returns : goal.returns
returns c = let a = c.args in
    let l = c.loop-near in
    let e = done a.rows a.columns a.index l.yielded l.near-iterator l.invariant.0 c.in-None.ensures.steps.0 in
    opens_chord a.rows a.columns a.work.now a.index l.opened l.work (rw e at l.invariant.2)
