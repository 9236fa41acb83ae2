-- `premiums::lay`: the cells passed are laid and counted. Assumes nothing.
use native.Mathlib.Omega.{arith}
use mathlib.Core.Path.{◌≡◌, ap, sym, ◌∙◌}
use mathlib.Core.List.{List}
use lib.IntN.{ℤ}
use Rattle.game.proofs.Members.{fold_more}
use Rattle.area.proofs.Tests.{byte_le, count_one_more}
use Rattle.premiums.specs.Laying.{lay_cell, unlabelled_at}
use Rattle.premiums.proofs.Raising.{lay_unlabelled}
use Rattle.premiums.proofs.lay.Goals as goal

pub loop-index-preserved : goal.loop-index-preserved
loop-index-preserved c =
    let l = c.loop-index in
    let a = c.args in
    let e : c.put_state.new.work ≡ lay_cell l.work l.index = cc in (
      e ∙ ap (λ (w : List ℤ). lay_cell w l.index) l.invariant.0 ∙ sym (fold_more lay_cell a.work.now 0 l.index (omega arith)),
      count_one_more (unlabelled_at a.work.now) 0 l.index _ _ (omega arith) l.invariant.1 (c.unlabelled.ensures ∙ lay_unlabelled a.work.now l.work l.index l.index l.invariant.0),
      omega (arith, l.invariant.2, byte_le c.unlabelled.result),
    )
