-- `choices::highest::scan_column`: the highest premium of the cells passed. Assumes nothing.
use Prim.Native.Nat.{ℕ, ◌*◌, ◌+◌}
use native.Mathlib.Omega.{arith}
use mathlib.Core.Path.{◌∙◌, ap, sym}
use Rattle.game.proofs.Members.{fold_more}
use Rattle.choices.specs.Tops.{top_with}
use Rattle.choices.proofs.highest.scan_column.Goals as goal

pub loop-row-preserved : goal.loop-row-preserved
loop-row-preserved c =
    let l = c.loop-row in
    let a = c.args in
    let f : ℕ → ℕ → ℕ = λ t r. top_with a.opened_only a.work.now t (a.column * a.rows + r) in
    c.better-top.ensures ∙ ap (top_with a.opened_only a.work.now l.top) c.cell-index.ensures.0 ∙ ap (λ (t : ℕ). f t l.row) l.invariant
    ∙ sym (fold_more f 9 0 l.row (omega arith))
