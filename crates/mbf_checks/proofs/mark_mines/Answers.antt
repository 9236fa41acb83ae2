-- `mbf_checks::mark_mines`: after k mines the bits are theirs. Assumes nothing.
use Prim.Native.Nat.{ℕ, ◌+◌, ◌*◌}
use native.Mathlib.Omega.{arith}
use mathlib.Core.Path.{◌≡◌, ap, subst, sym, ◌∙◌}
use mathlib.Core.Bool.{Bool}
use lib.ListN.{length, length-replicate}
use Rattle.mbf_form.specs.Form.{mine_count}
use Rattle.mbf_checks.specs.Marks.{MarkedOne}
use Rattle.mbf_checks.proofs.Marking.{Midway, all_marked, marked_long, none_marked, one_more, place_small, refused_here}
use Rattle.mbf_checks.proofs.mark_mines.Goals.{Start}
use Rattle.mbf_checks.proofs.mark_mines.Goals as goal

-- there are as many bits as for the largest grid
whole : (c : Start) → 8192 ≡ length c.args.bits.now
whole c = sym (ap length c.requires.2 ∙ length-replicate {A = ℕ} 8192 0)

pub loop-k-init : goal.loop-k-init
loop-k-init c = (omega arith, subst (Midway c.args.file.now 0) (sym c.requires.2) (none_marked _), λ j. omega (arith, c.slice_known-1.given j))

pub mark_mine-requires : goal.mark_mine-requires
mark_mine-requires c = (omega arith, c.loop-k.invariant.1.bits_of.long)

pub shape_of-bits-then-not-mark_mine : goal.shape_of-bits-then-not-mark_mine
shape_of-bits-then-not-mark_mine c =
    let l = c.loop-k in
    marked_long _ l.k l.bits _ _ c.mark_mine.ensures ∙ l.invariant.1.bits_of.long ∙ whole (goal.at.shape_of-bits-then-not-mark_mine c).Start

pub returns-then-not-mark_mine : goal.returns-then-not-mark_mine
returns-then-not-mark_mine c =
    let l = c.loop-k in
    let a = c.args in
    refused_here a.file.now l.k l.bits _ l.invariant.1 (subst (λ (b : Bool). MarkedOne a.file.now l.k l.bits b c.mark_mine.new.bits) c.if-not-mark_mine.true c.mark_mine.ensures) (omega arith)

pub overflow_step-k : goal.overflow_step-k
overflow_step-k c = omega arith

pub loop-k-smaller : goal.loop-k-smaller
loop-k-smaller c = omega arith

pub loop-k-preserved : goal.loop-k-preserved
loop-k-preserved c =
    let l = c.loop-k in
    let a = c.args in
    let bytes = c.shared_slice_known-1.given in (
      omega arith,
      one_more a.file.now l.k l.bits _ l.invariant.1 (subst (λ (b : Bool). MarkedOne a.file.now l.k l.bits b c.mark_mine.new.bits) c.if-not-mark_mine.false c.mark_mine.ensures) (l.invariant.2 _)
          (place_small _ _ _ (omega (arith, bytes 0)) (omega (arith, bytes (2 * l.k + 5))) (omega (arith, bytes (2 * l.k + 4)))),
      λ j. omega (arith, c.slice_known-in-loop-k-1.given j),
    )

pub shape_of-bits : goal.shape_of-bits
shape_of-bits c = c.loop-k.invariant.1.bits_of.long ∙ whole (goal.at.shape_of-bits c).Start

pub returns : goal.returns
returns c =
    let l = c.loop-k in
    let a = c.args in
    let e : l.k ≡ mine_count a.file.now = omega arith in
    all_marked a.file.now l.bits (subst (λ (n : ℕ). Midway a.file.now n l.bits) e l.invariant.1)
