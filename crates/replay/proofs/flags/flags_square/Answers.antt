-- `replay::flags::flags_square`: the flags of the cells passed are counted. Assumes nothing.
use native.Mathlib.Omega.{arith}
use mathlib.Core.Path.{◌∙◌, ap, refl}
use mathlib.Core.List.{[], ◌∷◌}
use lib.ListN.{length-append}
use Rattle.game.specs.Lists.{count}
use Rattle.game.proofs.Counts.{bit_small, count_append}
use Rattle.squares.proofs.Going.{begun, done, goes_on, nine, on_grid}
use Rattle.replay.specs.Clicks.{flagged_at}
use Rattle.replay.proofs.flags.flags_square.Goals as goal

pub loop-near-init : goal.loop-near-init
loop-near-init c = let a = c.args in
    let e = c.into_iter-near-iterator.ensures.into_iter_gives ∙ c.around-near-items.ensures in
    (begun a.rows a.columns a.index c.into_iter-near-iterator.result e (omega arith), omega arith, refl)

pub flagged-flags-requires : goal.flagged-flags-requires
flagged-flags-requires c = let a = c.args in
    let l = c.loop-near in
    omega (arith, on_grid a.rows a.columns a.index l.yielded l.near-iterator l.invariant.0 c.in-Some.near c.next.new.self c.in-Some.ensures.steps)

pub overflow_add-flags : goal.overflow_add-flags
overflow_add-flags c = let a = c.args in
    let l = c.loop-near in
    omega (arith, nine a.rows a.columns a.index l.yielded l.near-iterator l.invariant.0, c.flagged-flags.ensures, bit_small (flagged_at a.work.now c.in-Some.near))

pub loop-near-preserved : goal.loop-near-preserved
loop-near-preserved c = let a = c.args in
    let l = c.loop-near in
    let near = c.in-Some.near in
    let f = flagged_at a.work.now in (
      goes_on a.rows a.columns a.index l.yielded l.near-iterator l.invariant.0 near c.next.new.self c.in-Some.ensures.steps,
      omega (arith, length-append l.yielded (near ∷ []), c.flagged-flags.ensures, bit_small (f near)),
      omega (arith, l.invariant.2, c.flagged-flags.ensures, count_append f l.yielded (near ∷ [])),
    )

pub returns : goal.returns
returns c = let a = c.args in
    let l = c.loop-near in
    l.invariant.2 ∙ ap (count (flagged_at a.work.now)) (done a.rows a.columns a.index l.yielded l.near-iterator l.invariant.0 c.in-None.ensures.steps.0)
