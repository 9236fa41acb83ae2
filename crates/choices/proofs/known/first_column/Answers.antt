-- `choices::known::first_column`: the first of the columns passed that has the highest premium. Assumes nothing.
use Prim.Native.Nat.{ℕ}
use native.Mathlib.Omega.{arith}
use mathlib.Core.Path.{◌∙◌, ap₂, sym}
use Rattle.game.proofs.Members.{fold_more}
use Rattle.choices.specs.Tops.{column_top, higher_of}
use Rattle.choices.specs.declared.Best.{Best}
use Rattle.choices.proofs.known.first_column.Goals as goal

pub loop-column-preserved : goal.loop-column-preserved
loop-column-preserved c =
    let t = c.top_of-top in
    let l = c.loop-column in
    let a = c.args in
    let f : Best → ℕ → Best = λ b k. higher_of b (column_top a.opened_only a.work.now a.rows k) k in (
      t.ensures.tops_len_unchanged.0 ∙ l.invariant.0,
      t.ensures.tops_len_unchanged.1,
      c.higher-found.ensures ∙ ap₂ (λ (b : Best) (k : ℕ). higher_of b k l.column) l.invariant.2 t.ensures.value
          ∙ sym (fold_more f (record { top = 9; at = a.columns }) 0 l.column (omega arith)),
    )
