-- `mbf_read::numbers::put_mines`: the places passed have their values. Assumes nothing.
use Prim.Native.Nat.{ℕ}
use native.Mathlib.Omega.{arith}
use mathlib.Core.Path.{◌≡◌, ap, refl, subst, sym, ◌∙◌}
use mathlib.Core.Bool.{Bool, false, true}
use lib.IntN.{ℤ}
use lib.ListN.{length-set, set}
use mir.Syntax.{w32}
use mir.Val.{SFits, of_z, to_z}
use mir.Facts.{to_z-of_z}
use Rattle.game.specs.Lists.{fold, range}
use Rattle.game.proofs.Members.{fold_more, range_none}
use Rattle.lines.specs.BoardLine.{bit_at, value_of}
use Rattle.mbf_read.specs.Numbers.{put_mine}
use Rattle.mbf_read.proofs.numbers.put_mines.Goals as goal

pub loop-at-init : goal.loop-at-init
loop-at-init c =
    let a = c.args in
    (omega arith, omega arith, sym (ap (fold (put_mine a.bits.now) a.grid.now) (range_none a.from)), refl)

pub mine_value-value-requires : goal.mine_value-value-requires
mine_value-value-requires c = omega arith

pub offset_bounds-grid-at : goal.offset_bounds-grid-at
offset_bounds-grid-at c = omega arith

pub bounds-grid-at : goal.bounds-grid-at
bounds-grid-at c = omega arith

pub overflow_step-at : goal.overflow_step-at
overflow_step-at c = omega arith

pub loop-at-smaller : goal.loop-at-smaller
loop-at-smaller c = omega arith

-- such a value fits the run
value_fits : (b : Bool) → SFits w32 (value_of b)
value_fits true = record { sfits = omega arith }
value_fits false = record { sfits = omega arith }

-- so it is stored as itself
value_stored : (b : Bool) (v : ℤ) → v ≡ value_of b → to_z w32 (of_z w32 v) ≡ value_of b
value_stored b v e = to_z-of_z (subst (SFits w32) (sym e) (value_fits b)) ∙ e

pub loop-at-preserved : goal.loop-at-preserved
loop-at-preserved c =
    let l = c.loop-at in
    let a = c.args in
    let m = c.mine_value-value in
    let v = value_stored (bit_at a.bits.now l.at) m.result m.ensures in (
      omega arith,
      omega arith,
      (λ i. set (l.invariant.2 i) l.at (v i)) ∙ sym (fold_more (put_mine a.bits.now) a.grid.now a.from l.at l.invariant.0),
      length-set l.grid l.at (to_z w32 (of_z w32 m.result)) ∙ l.invariant.3,
    )

pub shape_of-grid : goal.shape_of-grid
shape_of-grid c = c.loop-at.invariant.3

pub returns : goal.returns
returns c =
    let l = c.loop-at in
    let a = c.args in
    let e : l.at ≡ a.to = omega arith in
    l.invariant.2 ∙ ap (λ (n : ℕ). fold (put_mine a.bits.now) a.grid.now (range a.from n)) e
