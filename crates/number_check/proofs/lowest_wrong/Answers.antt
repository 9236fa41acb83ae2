-- `number_check::lowest_wrong`: the lowest cell at fault of the rows passed. Assumes nothing.
use Prim.Native.Nat.{ℕ}
use native.Mathlib.Omega.{arith}
use mathlib.Core.Path.{◌≡◌, subst}
use Rattle.area.specs.Numbers.{grid_of}
use Rattle.number_check.proofs.Rows.{SoFar, so_far_all, so_far_at, so_far_found, so_far_kept}
use Rattle.number_check.proofs.lowest_wrong.Goals.{Then-column-limit, else-column-limit, then-column-limit}
use Rattle.number_check.proofs.lowest_wrong.Goals as goal

pub loop-row-preserved : goal.loop-row-preserved
loop-row-preserved c =
    let a = c.args in
    let l = c.loop-row in
    let w = c.wrong_in_row-column in
    let g = grid_of a.rows a.columns a.grid.now in (
      omega arith,
      elim c.if-column-limit.branch [
        | then-column-limit u ↦ so_far_at g (so_far_found g l.row l.limit l.lowest w.result l.invariant.1 (omega arith) w.ensures u.if-column-limit.true) u.limit-is u.lowest-is
        | else-column-limit u ↦ so_far_at g (so_far_kept g l.row l.limit l.lowest w.result l.invariant.1 (omega arith) w.ensures u.if-column-limit.false) u.limit-is u.lowest-is
      ],
    )

pub returns : goal.returns
returns c =
    let a = c.args in
    let l = c.loop-row in
    let g = grid_of a.rows a.columns a.grid.now in
    let e : l.row ≡ a.rows = omega arith in
    so_far_all g l.limit l.lowest (subst (λ (k : ℕ). SoFar g k l.limit l.lowest) e l.invariant.1)
