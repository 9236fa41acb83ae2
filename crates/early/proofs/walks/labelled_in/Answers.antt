-- `early::walks::labelled_in`: no cell passed is a 0-cell with a label. Assumes nothing.
use Prim.Native.Nat.{ℕ, ◌*◌, ◌+◌}
use native.Mathlib.Omega.{arith}
use mathlib.Core.Path.{◌∙◌, ◌≡◌, ap, sym}
use mathlib.Core.Bool.{Bool, ◌&&◌, false, not, true}
use mathlib.Core.List.{List}
use lib.Dec.{eqb}
use lib.IntN.{ℤ}
use Rattle.area.specs.Numbers.{content_at, first_at}
use borrow.Author.Tests.{eq-eqb, ne_eqb}
use Rattle.early.specs.Walks.{labelled_zero}
use Rattle.game.proofs.Members.{none_more, one_there}
use Rattle.early.proofs.walks.labelled_in.Goals.{else-content-eq1-via-then-content-eq1+else-first_label-ne0, else-content-eq1-via-else-content-eq1}
use Rattle.early.proofs.walks.labelled_in.Goals as goal

-- ---- what a cell is
module _ (w : List ℤ) (i k : ℕ) (e : k ≡ content_at w i) where
  no_zero : (k ≡ 1 → ⊥) → labelled_zero w i ≡ false
  no_zero n = ap (λ (b : Bool). b && not (eqb (first_at w i) 0)) (ne_eqb (content_at w i) 1 (λ q. n (e ∙ q)))

  no_label : (m : ℕ) → k ≡ 1 → m ≡ first_at w i → m ≡ 0 → labelled_zero w i ≡ false
  no_label m z f q = simp (eq-eqb (content_at w i) 1 (sym e ∙ z), eq-eqb (first_at w i) 0 (sym f ∙ q))

  with_label : (m : ℕ) → k ≡ 1 → m ≡ first_at w i → (m ≡ 0 → ⊥) → labelled_zero w i ≡ true
  with_label m z f n = simp (eq-eqb (content_at w i) 1 (sym e ∙ z), ne_eqb (first_at w i) 0 (λ q. n (f ∙ q)))

pub returns-then-first_label-ne0 : goal.returns-then-first_label-ne0
returns-then-first_label-ne0 c =
    let a = c.args in
    one_there (labelled_zero a.work.now) (a.column * a.rows) c.loop-index.index (a.column * a.rows + a.rows) c.loop-index.auto.index (omega arith)
    (with_label a.work.now c.loop-index.index c.content.result c.content.ensures.0 c.first_label.result c.if-content-eq1.true c.first_label.ensures.0 c.if-first_label-ne0.true)

pub loop-index-preserved : goal.loop-index-preserved
loop-index-preserved c =
    let a = c.args in
    let w = a.work.now in
    let i = c.loop-index.index in
    let k = c.content in
    none_more (labelled_zero w) (a.column * a.rows) i c.loop-index.auto.index c.loop-index.invariant (elim c.else-content-eq1.branch [
      | else-content-eq1-via-then-content-eq1+else-first_label-ne0 b ↦ no_label w i k.result k.ensures.0 b.first_label.result b.if-content-eq1.true b.first_label.ensures.0 b.if-first_label-ne0.false
      | else-content-eq1-via-else-content-eq1 b ↦ no_zero w i k.result k.ensures.0 b.if-content-eq1.false
    ])
