-- `start::settle::settle_cells`: the cells passed are settled. Assumes nothing.
use native.Mathlib.Omega.{arith}
use mathlib.Core.Path.{◌≡◌, ap, sym, ◌∙◌}
use mathlib.Core.List.{List}
use lib.IntN.{ℤ}
use lib.ListN.{length}
use Rattle.game.proofs.Members.{fold_more}
use Rattle.area.specs.Numbers.{put_premium}
use Rattle.start.specs.Passes.{settle_cell}
use Rattle.start.proofs.Settled.{length_settle}
use Rattle.start.proofs.settle.settle_cells.Goals as goal

pub loop-index-preserved : goal.loop-index-preserved
loop-index-preserved c =
    let l = c.loop-index in
    let a = c.args in
    let e : c.put_premium.new.work ≡ settle_cell l.work l.index
    = c.put_premium.ensures ∙ ap (λ (w : List ℤ). put_premium w l.index 0) c.lower_premium.ensures in (
      omega arith,
      e ∙ ap (λ (w : List ℤ). settle_cell w l.index) l.invariant.1 ∙ sym (fold_more settle_cell a.work.now 0 l.index (omega arith)),
      ap length e ∙ length_settle l.work l.index ∙ l.invariant.2,
    )
