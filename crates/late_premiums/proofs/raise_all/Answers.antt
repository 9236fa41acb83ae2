-- `late_premiums::raise_all`: the squares of the cells passed are raised. Assumes nothing.
use native.Mathlib.Omega.{arith}
use mathlib.Core.Path.{ap, sym, ◌∙◌}
use mathlib.Core.List.{List}
use lib.IntN.{ℤ}
use lib.ListN.{length}
use Rattle.game.proofs.Members.{fold_more}
use Rattle.late_premiums.specs.Passes.{raise_near}
use Rattle.late_premiums.proofs.Steps.{length_near}
use Rattle.late_premiums.proofs.raise_all.Goals as goal

pub loop-index-preserved : goal.loop-index-preserved
loop-index-preserved c =
    let l = c.loop-index in
    let a = c.args in
    let e = c.raise_near.ensures in (
      omega arith,
      e ∙ ap (λ (w : List ℤ). raise_near a.rows a.columns w l.index) l.invariant.1 ∙ sym (fold_more (raise_near a.rows a.columns) a.work.now 0 l.index (omega arith)),
      ap length e ∙ length_near a.rows a.columns l.work l.index ∙ l.invariant.2,
    )
