-- `ties::pick_column`: the candidates passed are counted; the one at the place has as many before it. Assumes nothing.
use Prim.Native.Nat.{ℕ, ◌*◌, ◌+◌}
use native.Mathlib.Omega.{arith}
use mathlib.Core.Path.{◌∙◌, ◌≡◌, ap, subst, sym}
use lib.Dec.{T}
use Rattle.game.specs.Lists.{bit, count, range}
use Rattle.game.proofs.Counts.{count_more}
use Rattle.area.proofs.Cells.{cell_below}
use Rattle.ties.specs.Candidates.{candidate_at}
use Rattle.choices.proofs.Passing.{kept_at}
use Rattle.ties.proofs.pick_column.Goals as goal
use Rattle.ties.proofs.pick_column.Goals.{then-candidate+else-passed-place, else-candidate}

pub returns-then-passed-place : goal.returns-then-passed-place
returns-then-passed-place c =
    λ _.
    let a = c.args in
    let f = candidate_at a.top a.work.now in
    let t : T (f c.cell-index.result) = subst T (sym (sym c.candidate.ensures ∙ c.if-candidate.true)) tt in
    let e = c.cell-index.ensures.0 in
    let h = cell_below a.rows a.columns c.loop-row.row a.column (omega arith) c.requires.has_cells.1 in
    kept_at f (a.rows * a.columns) c.cell-index.result a.place (omega (arith, e, h)) t (omega (arith, c.if-passed-place.true, c.loop-row.invariant.0, c.loop-row.invariant.1, ap (λ (m : ℕ). count f (range 0 m)) e))

pub loop-row-preserved : goal.loop-row-preserved
loop-row-preserved c =
    let l = c.loop-row in
    let a = c.args in
    let f = candidate_at a.top a.work.now in
    let j = a.column * a.rows + l.row in
    let m = count_more f 0 j (omega arith) in
    let up : j + 1 ≡ a.column * a.rows + (l.row + 1) = omega arith in
    let n = ap (λ (i : ℕ). count f (range 0 i)) up in
    let e = c.candidate.ensures ∙ ap f c.cell-index.ensures.0 in
    elim c.if-candidate.branch [
      | then-candidate+else-passed-place w ↦ let b = ap bit (sym e ∙ w.if-candidate.true) in omega arith
      | else-candidate w ↦ let b = ap bit (sym e ∙ w.if-candidate.false) in omega arith
    ]
