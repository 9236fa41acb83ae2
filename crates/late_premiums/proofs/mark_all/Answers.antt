-- `late_premiums::mark_all`: the cells passed have marked their openings. Assumes nothing.
use native.Mathlib.Omega.{arith}
use mathlib.Core.Path.{ap, sym, ◌∙◌}
use mathlib.Core.List.{List}
use lib.IntN.{ℤ}
use lib.ListN.{length}
use Rattle.game.proofs.Members.{fold_more}
use Rattle.late_premiums.specs.Passes.{mark_cell}
use Rattle.late_premiums.proofs.Steps.{length_mark}
use Rattle.late_premiums.proofs.mark_all.Goals as goal

pub loop-index-preserved : goal.loop-index-preserved
loop-index-preserved c =
    let l = c.loop-index in
    let a = c.args in
    let e = c.mark.ensures in (
      omega arith,
      e ∙ ap (λ (w : List ℤ). mark_cell a.cells w l.index) l.invariant.1 ∙ sym (fold_more (mark_cell a.cells) a.work.now 0 l.index (omega arith)),
      ap length e ∙ length_mark a.cells l.work l.index ∙ l.invariant.2,
    )
