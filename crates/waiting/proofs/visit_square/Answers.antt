-- `waiting::visit_square`: the cells passed are visited. Assumes nothing.
use Prim.Native.Nat.{ℕ, ◌*◌}
use native.Mathlib.Omega.{arith}
use mathlib.Core.Path.{◌≡◌, ◌∙◌, subst, sym}
use mathlib.Core.List.{List, [], ◌∷◌, ◌++◌}
use lib.Dec.{T}
use Rattle.game.specs.Grid.{square}
use Rattle.game.specs.Lists.{has}
use Rattle.area.specs.Numbers.{HasCells, content_at}
use Rattle.labels.specs.Labels.{shaped}
use Rattle.squares.proofs.Going.{begun, done, goes_on, in_square}
use Rattle.waiting.specs.Waits.{InSquare, Visitable}
use Rattle.waiting.proofs.Stacks.{border_places, last_passed, none_passed, pushed_again, pushed_all, pushed_cell, visitable_again}
use Rattle.waiting.proofs.visit_square.Goals.{In-Some}
use Rattle.waiting.proofs.visit_square.Goals as goal

pub loop-near-init : goal.loop-near-init
loop-near-init c =
    let a = c.args in
    let e = c.into_iter-near-iterator.ensures.into_iter_gives ∙ c.around-near-items.ensures in (
      begun a.rows a.columns a.index c.into_iter-near-iterator.result e (omega arith),
      none_passed (shaped a.rows a.columns) a.op c.requires.ready.some_label a.index a.work.now a.top,
    )

-- the cell of a turn is beside the cell that is visited
beside : (c : In-Some) → T (has c.in-Some.near (square (shaped c.args.rows c.args.columns) c.args.index))
beside c =
    let a = c.args in
    let l = c.loop-near in
    in_square a.rows a.columns a.index l.yielded l.near-iterator l.invariant.0 c.in-Some.near c.next.new.self c.in-Some.ensures.steps

-- which may be visited still
visitable : (c : In-Some) → Visitable (c.args.rows * c.args.columns) (content_at c.loop-near.work) c.args.index c.loop-near.waiting c.loop-near.work
visitable c =
    let a = c.args in
    let l = c.loop-near in
    visitable_again (shaped a.rows a.columns) a.op c.requires.ready.some_label a.index (λ y. T (has y l.yielded)) a.work.now l.work a.top l.waiting l.invariant.1 c.requires.visitable

room : (c : In-Some) → HasCells c.loop-near.work (c.args.rows * c.args.columns)
room c = omega (arith, c.loop-near.invariant.1.change.long, c.requires.ready.room)

pub wait-waiting-requires-clause-work_bound : goal.wait-waiting-requires-clause-work_bound
wait-waiting-requires-clause-work_bound c =
    let a = c.args in
    let l = c.loop-near in
    let p = (goal.at.wait-waiting-requires-clause-work_bound c).In-Some in
    let v = visitable p in
    border_places (shaped a.rows a.columns) a.op c.requires.ready.some_label a.index l.work c.border.new.work c.in-Some.near l.waiting v.inside v.zero-cell (beside p) (room p) v.places c.border.ensures

pub loop-near-preserved : goal.loop-near-preserved
loop-near-preserved c =
    let a = c.args in
    let l = c.loop-near in
    let near = c.in-Some.near in
    let p = (goal.at.loop-near-preserved c).In-Some in
    let v = visitable p in
    let g = shaped a.rows a.columns in
    let o = c.requires.ready.some_label in
    let q = pushed_cell g a.op o a.index l.work c.border.new.work c.wait-waiting.new.work near l.waiting c.wait-waiting.result v.inside v.zero-cell (beside p) (room p) v.places c.border.ensures c.wait-waiting.ensures in (
      goes_on a.rows a.columns a.index l.yielded l.near-iterator l.invariant.0 near c.next.new.self c.in-Some.ensures.steps,
      pushed_again g a.op o a.index (λ y. T (has y l.yielded)) (λ y. y ≡ near) (λ y. T (has y (l.yielded ++ (near ∷ []))))
          a.work.now l.work c.wait-waiting.new.work a.top l.waiting c.wait-waiting.result (λ y t. last_passed l.yielded near y t) l.invariant.1 q,
    )

pub returns : goal.returns
returns c =
    let a = c.args in
    let l = c.loop-near in
    let g = shaped a.rows a.columns in
    let e = done a.rows a.columns a.index l.yielded l.near-iterator l.invariant.0 c.in-None.ensures.steps.0 in
    pushed_all g a.op c.requires.ready.some_label a.index (λ y. T (has y l.yielded)) (InSquare g a.index) a.work.now l.work a.top l.waiting
    (λ y h q. subst (λ (xs : List ℕ). T (has y xs)) (sym e) q.beside) l.invariant.1
