-- `waiting::spread`: each newly labelled 0-cell waits or has its square visited, until none waits. Twice the 0-cells without label, plus the cells that wait, fall. Assumes nothing.
use Rattle.area.specs.Numbers.{HasCells, content_at}
use Prim.Native.Nat.{ℕ, ◌*◌, ◌+◌, ◌-◌}
use native.Mathlib.Omega.{arith}
use mathlib.Core.Path.{◌≡◌, subst}
use mathlib.Core.List.{List}
use lib.IntN.{ℤ}
use Rattle.labels.specs.Labels.{shaped}
use Rattle.waiting.specs.Waits.{InSquare, Pushed, Waited}
use Rattle.labels.proofs.Frees.{free_few}
use Rattle.waiting.proofs.Takes.{Spreading, spread_first, spread_more, taken_less, taken_visitable}
use Rattle.waiting.proofs.spread.Goals.{In-loop-top}
use Rattle.waiting.proofs.spread.Goals as goal

-- a turn takes one of the cells that wait
again : (c : In-loop-top) (w : List ℤ) → HasCells w (c.args.rows * c.args.columns)
    → Waited (c.args.rows * c.args.columns) c.args.op c.args.index 0 w c.wait-top.result c.wait-top.new.work
    → Spreading (shaped c.args.rows c.args.columns) (content_at w) c.args.op c.args.index w c.loop-top.work (c.loop-top.top - 1 + 1)
again c w h q =
    let a = c.args in
    let e : c.loop-top.top ≡ c.loop-top.top - 1 + 1 = omega (arith, c.loop-top-test.true) in
    subst (λ (t : ℕ). Spreading (shaped a.rows a.columns) (content_at w) a.op a.index w c.loop-top.work t) e (c.loop-top.invariant w h q)

so : (c : In-loop-top) → Spreading (shaped c.args.rows c.args.columns) (content_at c.args.work.now) c.args.op c.args.index
    c.args.work.now c.loop-top.work (c.loop-top.top - 1 + 1)
so c = again c c.args.work.now c.requires.ready.room c.wait-top.ensures

room : (c : In-loop-top) → HasCells c.loop-top.work (c.args.rows * c.args.columns)
room c = omega (arith, (so c).change.long, c.requires.ready.room)

pub wait-top-requires-clause-work_bound : goal.wait-top-requires-clause-work_bound
wait-top-requires-clause-work_bound c = omega (arith, free_few (c.args.rows * c.args.columns) c.args.work.now)

pub loop-top-init : goal.loop-top-init
loop-top-init c =
    let a = c.args in
    λ w room v. spread_first (shaped a.rows a.columns) a.op c.requires.ready.some_label a.index w c.wait-top.new.work c.wait-top.result room v

pub visit_square-top-requires-clause-visitable : goal.visit_square-top-requires-clause-visitable
visit_square-top-requires-clause-visitable c =
    let a = c.args in
    let l = c.loop-top in
    let p = so c.before.before.before.before.before in
    rw c.waiting-at.ensures.0
    (taken_visitable (shaped a.rows a.columns) a.op c.requires.ready.some_label a.index a.work.now l.work c.put_waiting.new.work (l.top - 1) p c.put_waiting.ensures)

pub loop-top-smaller : goal.loop-top-smaller
loop-top-smaller c =
    let a = c.args in
    let l = c.loop-top in
    let p = so c.before.before.before.before.before.before.before in
    let v = c.visit_square-top in
    let g = shaped a.rows a.columns in
    let x = c.waiting-at.result in
    let less = taken_less g a.op c.requires.ready.some_label a.index a.work.now l.work c.put_waiting.new.work (l.top - 1) p c.put_waiting.ensures (InSquare g x) x v.new.work v.result v.ensures in
    omega (arith, less, c.loop-top-test.true)

pub loop-top-preserved : goal.loop-top-preserved
loop-top-preserved c =
    let a = c.args in
    let l = c.loop-top in
    let v = c.visit_square-top in
    let g = shaped a.rows a.columns in
    let w1 = c.put_waiting.new.work in
    λ w h q.
    let p = again c.before.before.before.before.before.before.before w h q in
    let room_now : HasCells l.work (a.rows * a.columns) = omega (arith, h, p.change.long) in
    spread_more g a.op c.requires.ready.some_label a.index w l.work w1 v.new.work (l.top - 1) v.result room_now p c.put_waiting.ensures
    (subst (λ (x : ℕ). Pushed g (content_at w1) a.op x (InSquare g x) w1 (l.top - 1) v.new.work v.result) c.waiting-at.ensures.0 v.ensures)
