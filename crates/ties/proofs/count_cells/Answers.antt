-- `ties::count_cells`: the candidates counted so far are those passed. Assumes nothing.
use Prim.Native.Nat.{ℕ, ◌*◌, ◌+◌}
use native.Mathlib.Omega.{arith}
use mathlib.Core.Path.{◌∙◌, ◌≡◌, ap, sym}
use Rattle.game.specs.Lists.{bit, count, range}
use Rattle.game.proofs.Counts.{count_more}
use Rattle.ties.specs.Candidates.{candidate_at}
use Rattle.ties.proofs.count_cells.Goals as goal
use Rattle.ties.proofs.count_cells.Goals.{then-candidate, else-candidate}

pub loop-row-preserved : goal.loop-row-preserved
loop-row-preserved c =
    let l = c.loop-row in
    let a = c.args in
    let f = candidate_at a.top a.work.now in
    let j = a.column * a.rows + l.row in
    let m = count_more f (a.column * a.rows) j (omega arith) in
    let up : j + 1 ≡ a.column * a.rows + (l.row + 1) = omega arith in
    let n = ap (λ (i : ℕ). count f (range (a.column * a.rows) i)) up in
    let e = c.candidate.ensures ∙ ap f c.cell-index.ensures.0 in
    elim c.if-candidate.branch [
      | then-candidate w ↦ let b = ap bit (sym e ∙ w.if-candidate.true) in omega arith
      | else-candidate w ↦ let b = ap bit (sym e ∙ w.if-candidate.false) in omega arith
    ]
