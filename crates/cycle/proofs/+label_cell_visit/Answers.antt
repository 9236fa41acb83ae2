-- The cycle of `label_cell` and `visit`: its goals. Assumes nothing.
use Prim.Native.Nat.{ℕ, ◌+◌, ◌*◌, ◌<◌}
use native.Mathlib.Omega.{arith}
use mathlib.Core.Path.{◌≡◌, ◌∙◌, ap, subst}
use mathlib.Core.Bool.{not}
use mathlib.Core.List.{List}
use lib.IntN.{ℤ}
use Rattle.area.specs.Numbers.{content_at}
use Rattle.labels.specs.Labels.{Ready, free_of, put_label, shaped}
use Rattle.cycle.specs.Visits.{Visited}
use Rattle.labels.proofs.Edges.{fresh_yes, labelled_content}
use Rattle.labels.proofs.Changes.{content_stays}
use Rattle.labels.proofs.Frees.{free_le, free_labelled}
use Rattle.labels.proofs.Borders.{ready_again}
use Rattle.cycle.proofs.Visits.{border_free, opened_all, stepped, visited_more, visited_none}
use Rattle.cycle.proofs.+label_cell_visit.Goals as goal

pub label_cell-visit-requires : goal.label_cell-visit-requires
label_cell-visit-requires t c =
    let a = c.args in
    let w = a.work.now in
    let w1 = c.put_label.new.work in
    let n = a.rows * a.columns in
    let f = fresh_yes n w a.index c.fresh.result c.fresh.ensures (ap not c.if-not-fresh.false) in
    let e : w1 ≡ put_label w a.index a.op = c.put_label.ensures in
    let less : free_of n w1 + 1 ≡ free_of n w = rw e (free_labelled n a.op c.requires.ready.some_label w a.index c.requires.ready.room f) in
    (omega (arith, less, c.decreases), (ready_again w w1 c.requires.ready c.put_label.auto.work, (f.inside, (rw e (labelled_content w a.index a.op ∙ f.zero-cell), c.requires.columns_bound))))

pub label_cell-returns : goal.label_cell-returns
label_cell-returns t c =
    let a = c.args in
    let w = a.work.now in
    let f = fresh_yes (a.rows * a.columns) w a.index c.fresh.result c.fresh.ensures (ap not c.if-not-fresh.false) in
    opened_all (shaped a.rows a.columns) a.op c.requires.ready.some_label w c.put_label.new.work c.visit.new.work a.index c.requires.ready.room f
    c.put_label.ensures c.visit.ensures

-- neighbours that were visited leave what the next one asks
still_ready : {rows columns op i k : ℕ} (w w1 : List ℤ) → Ready rows columns op w → Visited (shaped rows columns) (content_at w) op i k w w1 → Ready rows columns op w1
still_ready w w1 r v = ready_again w w1 r v.change.long

still_zero : {rows columns op i k : ℕ} (w w1 : List ℤ) → Ready rows columns op w → Visited (shaped rows columns) (content_at w) op i k w w1 → content_at w i ≡ 1 → content_at w1 i ≡ 1
still_zero {rows = rows} {columns = columns} {op = op} {i = i} w w1 r v e = content_stays (shaped rows columns) (content_at w) op r.some_label i w w1 v.change i ∙ e

pub visit-loop-k-init : goal.visit-loop-k-init
visit-loop-k-init t c =
    let a = c.args in
    (omega arith, visited_none (shaped a.rows a.columns) a.op c.requires.ready.some_label a.work.now a.index)

pub visit-label_cell-requires : goal.visit-label_cell-requires
visit-label_cell-requires t c =
    let l = c.loop-k in
    let a = c.args in
    let q = c.requires in
    let g = shaped a.rows a.columns in
    let r = still_ready a.work.now l.work q.ready l.invariant.1 in
    let less = border_free g a.op q.ready.some_label l.work c.border.new.work a.index l.k c.near-at.result q.index_bound
    (still_zero a.work.now l.work q.ready l.invariant.1 q.index_value) (omega (arith, c.loop-k-test.true)) r.room c.near-at.ensures c.border.ensures in
    let fewer = free_le g (content_at a.work.now) a.op q.ready.some_label a.index a.work.now l.work l.invariant.1.change in
    (omega (arith, less, fewer, c.decreases), (ready_again l.work c.border.new.work r c.border.auto.work, q.columns_bound))

pub visit-loop-k-preserved : goal.visit-loop-k-preserved
visit-loop-k-preserved t c =
    let l = c.loop-k in
    let a = c.args in
    let q = c.requires in
    let g = shaped a.rows a.columns in
    let o = q.ready.some_label in
    let w = l.work in
    let w1 = c.border.new.work in
    let few : l.k < 9 = omega (arith, c.loop-k-test.true) in
    let one = stepped g a.op o w w1 c.label_cell.new.work a.index l.k c.near-at.result q.index_bound (still_zero a.work.now w q.ready l.invariant.1 q.index_value) few
    (still_ready a.work.now w q.ready l.invariant.1).room c.near-at.ensures c.border.ensures c.label_cell.ensures in
    (omega (arith, few), visited_more g a.op o a.work.now w c.label_cell.new.work a.index l.k q.index_bound l.invariant.1 one)

pub visit-returns : goal.visit-returns
visit-returns t c =
    let l = c.loop-k in
    let a = c.args in
    let e : l.k ≡ 9 = omega (arith, l.invariant.0, c.loop-k-test.false) in
    subst (λ (n : ℕ). Visited (shaped a.rows a.columns) (content_at a.work.now) a.op a.index n a.work.now l.work) e l.invariant.1
