-- `line_prices::block::read_byte`: a line feed, a byte past the 517th, or a byte that is kept. Assumes nothing.
use Prim.Native.Nat.{ℕ}
use native.Mathlib.Omega.{arith}
use mathlib.Core.Path.{◌∙◌, ◌≡◌, subst, sym}
use mathlib.Core.Bool.{Bool, false}
use borrow.Author.Tests.{eq-eqb, eqb-true}
use lib.Dec.{T, eqb}
use Rattle.line_prices.specs.Bytes.{desk_at}
use Rattle.line_prices.proofs.Bytes.{feed_read, full_read, kept_read}
use Rattle.line_prices.proofs.block.read_byte.Goals as goal

-- a byte that ends no line is no line feed
other : (b : ℕ) (r : Bool) → r ≡ eqb b 10 → r ≡ false → b ≡ 10 → ⊥
other b r e f q = subst T (sym (e ∙ eq-eqb b 10 q) ∙ f) tt

pub returns-then-is_end : goal.returns-then-is_end
returns-then-is_end c =
    let s = c.args in
    c.end_line.ensures ∙ feed_read (desk_at s.held.now s.place s.out.now) s.byte (eqb-true s.byte 10 (sym c.is_end.ensures ∙ c.if-is_end.true))

pub returns-then-count-ge517 : goal.returns-then-count-ge517
returns-then-count-ge517 c =
    let s = c.args in
    full_read (desk_at s.held.now s.place s.out.now) s.byte (other s.byte c.is_end.result c.is_end.ensures c.if-is_end.false) (omega (arith, c.if-count-ge517.true))

pub returns : goal.returns
returns c =
    let s = c.args in
    kept_read (desk_at s.held.now s.place s.out.now) s.byte (other s.byte c.is_end.result c.is_end.ensures c.if-is_end.false) (omega (arith, c.if-count-ge517.false))
