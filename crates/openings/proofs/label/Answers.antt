-- `label`: once the columns before one were looked at, the openings that begin in them are labelled; the columns left fall. Assumes nothing.
use native.Mathlib.Omega.{arith}
use native.Mathlib.Nat.{mul_comm, zero-mul}
use Prim.Native.Nat.{ℕ, ◌*◌}
use mathlib.Core.Path.{◌∙◌, ◌≡◌, ap, refl, subst, sym}
use Rattle.openings.specs.Numbering.{Numbered}
use Rattle.openings.proofs.Numbers.{numbered_all, numbered_none}
use Rattle.openings.proofs.label.Goals as goal

pub loop-column-init : goal.loop-column-init
loop-column-init c = (omega arith, refl, omega arith, subst (λ (k : ℕ). Numbered c.args.rows c.args.columns c.args.work.now k 0 c.args.work.now) (sym (zero-mul c.args.rows)) (numbered_none c.args.rows c.args.columns c.args.work.now))

pub returns : goal.returns
returns c =
    let l = c.loop-column in
    let e : l.column ≡ c.args.columns = omega arith in
    numbered_all c.args.rows c.args.columns c.args.work.now l.count l.work
    (subst (λ (i : ℕ). Numbered c.args.rows c.args.columns c.args.work.now i l.count l.work) (ap (λ (k : ℕ). k * c.args.rows) e ∙ mul_comm c.args.columns c.args.rows) l.invariant.3)
