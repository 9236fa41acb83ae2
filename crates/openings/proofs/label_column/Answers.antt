-- `label_column`: the cells of the column passed were looked at in index order. Assumes nothing.
use Prim.Native.Nat.{ℕ, ◌*◌, ◌+◌}
use native.Mathlib.Omega.{arith}
use native.Mathlib.Nat.{add_assoc}
use mathlib.Core.Path.{◌∙◌, subst}
use Rattle.area.specs.Numbers.{content_at}
use Rattle.area.proofs.Cells.{cell_below}
use Rattle.labels.specs.Labels.{shaped}
use Rattle.openings.specs.Numbering.{Begun, Numbered}
use Rattle.openings.proofs.Numbers.{numbered_more}
use Rattle.openings.proofs.label_column.Goals as goal

pub loop-row-preserved : goal.loop-row-preserved
loop-row-preserved c =
    let b = c.begin-found in
    let l = c.loop-row in
    let a = c.args in
    let i = a.column * a.rows + l.row in
    let n : Begun (shaped a.rows a.columns) (content_at l.work) l.found i l.work b.result b.new.work =
    subst (λ (k : ℕ). Begun (shaped a.rows a.columns) (content_at l.work) l.found k l.work b.result b.new.work) c.cell-index.ensures.0 b.ensures in (
      omega arith,
      b.ensures.long ∙ l.invariant.1,
      omega (arith, b.ensures.few, l.invariant.2),
      λ w₀ m. subst (λ (k : ℕ). Numbered a.rows a.columns w₀ k b.result b.new.work) (add_assoc (a.column * a.rows) l.row 1)
          (numbered_more a.rows a.columns w₀ i l.found b.result l.work b.new.work (l.invariant.3 w₀ m) (cell_below a.rows a.columns l.row a.column (omega arith) (omega arith)) n),
    )
