-- `late_premiums::halve_all`: the cells passed are halved. Assumes nothing.
use native.Mathlib.Omega.{arith}
use mathlib.Core.Path.{◌≡◌, ap, sym, ◌∙◌}
use mathlib.Core.List.{List}
use lib.IntN.{ℤ}
use lib.ListN.{length}
use Rattle.game.proofs.Members.{fold_more}
use Rattle.late_premiums.specs.Passes.{halve_cell}
use Rattle.late_premiums.proofs.Steps.{length_halve}
use Rattle.late_premiums.proofs.halve_all.Goals as goal

pub loop-index-preserved : goal.loop-index-preserved
loop-index-preserved c =
    let l = c.loop-index in
    let a = c.args in
    let e : c.put_premium.new.work ≡ halve_cell l.work l.index = cc in (
      omega arith,
      e ∙ ap (λ (w : List ℤ). halve_cell w l.index) l.invariant.1 ∙ sym (fold_more halve_cell a.work.now 0 l.index (omega arith)),
      ap length e ∙ length_halve l.work l.index ∙ l.invariant.2,
    )
