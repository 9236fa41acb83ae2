-- `moves::single::flag_around`: the cells passed were flagged in turn. Assumes nothing.
use native.Mathlib.Omega.{arith}
use mathlib.Core.Path.{◌∙◌, refl}
use mathlib.Core.List.{[], ◌∷◌}
use lib.ListN.{length-append}
use Rattle.squares.proofs.Going.{begun, done, goes_on, nine, on_grid}
use Rattle.moves.specs.Walks.{flags_from}
use Rattle.moves.proofs.Flags.{flags_append, flags-square}
use Rattle.moves.proofs.Joins.{over_both, over_none}
use Rattle.moves.proofs.single.flag_around.Goals as goal

pub loop-near-init : goal.loop-near-init
loop-near-init c =
    let a = c.args in
    let e = c.into_iter-near-iterator.ensures.into_iter_gives ∙ c.around-near-items.ensures in (
      begun a.rows a.columns a.index c.into_iter-near-iterator.result e (omega arith),
      omega arith,
      over_none flags_from a.rows a.columns a.work.now a.list.now a.state (λ g s. refl),
    )

pub flag_mine-flagged-requires : goal.flag_mine-flagged-requires
flag_mine-flagged-requires c =
    let a = c.args in
    let l = c.loop-near in
    let few = nine a.rows a.columns a.index l.yielded l.near-iterator l.invariant.0 in
    record {
      shape = c.requires.shape;
      has_cells = (omega arith, on_grid a.rows a.columns a.index l.yielded l.near-iterator l.invariant.0 c.in-Some.near c.next.new.self c.in-Some.ensures.steps, omega (arith, few, l.invariant.1));
    }

pub loop-near-preserved : goal.loop-near-preserved
loop-near-preserved c =
    let a = c.args in
    let l = c.loop-near in
    let u = c.flag_mine-flagged in
    let near = c.in-Some.near in (
      goes_on a.rows a.columns a.index l.yielded l.near-iterator l.invariant.0 near c.next.new.self c.in-Some.ensures.steps,
      omega (arith, l.invariant.1, u.ensures.moves_bound, length-append l.yielded (near ∷ [])),
      over_both flags_from a.rows a.columns l.yielded (near ∷ []) a.work.now a.list.now a.state l.work l.list l.flagged u.new.work u.new.list u.result
          (λ g s. flags_append g l.yielded (near ∷ []) s) l.invariant.2 u.ensures.over,
    )

pub returns-clause-moves_bound : goal.returns-clause-moves_bound
returns-clause-moves_bound c =
    let a = c.args in
    let l = c.loop-near in
    omega (arith, l.invariant.1, nine a.rows a.columns a.index l.yielded l.near-iterator l.invariant.0)

pub returns-clause-made : goal.returns-clause-made
returns-clause-made c =
    let a = c.args in
    let l = c.loop-near in
    let e = done a.rows a.columns a.index l.yielded l.near-iterator l.invariant.0 c.in-None.ensures.steps.0 in
    flags-square a.rows a.columns a.work.now a.list.now a.state a.index l.work l.list l.flagged (rw e at l.invariant.2)
