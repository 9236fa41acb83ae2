-- `mbf_lines::put_bytes`: the bytes passed have their digits. Assumes nothing.
use Prim.Native.Nat.{ℕ, ◌+◌, ◌*◌}
use native.Mathlib.Omega.{arith}
use mathlib.Core.Path.{◌≡◌, ap, refl, ◌∙◌}
use lib.ListN.{length, take}
use lib.Seq.{length-sets, sets}
use Rattle.game.specs.Lists.{concat_map}
use Rattle.hex_digits.specs.Hex.{byte_digits}
use Rattle.mbf_lines.proofs.Outputs.{digits_more}
use Rattle.mbf_lines.proofs.put_bytes.Goals as goal

pub loop-k-init : goal.loop-k-init
loop-k-init c = (omega arith, refl, refl)

pub byte-byte-requires : goal.byte-byte-requires
byte-byte-requires c = omega arith

pub overflow_mul-k : goal.overflow_mul-k
overflow_mul-k c = omega arith

pub overflow_add-k : goal.overflow_add-k
overflow_add-k c = omega arith

pub put_byte-requires : goal.put_byte-requires
put_byte-requires c = (omega arith, c.byte-byte.ensures.1)

pub loop-k-smaller : goal.loop-k-smaller
loop-k-smaller c = omega arith

pub loop-k-preserved : goal.loop-k-preserved
loop-k-preserved c =
    let l = c.loop-k in
    let a = c.args in
    let b = c.byte-byte in
    let e = c.put_byte.ensures in (
      omega arith,
      ap length e ∙ length-sets l.out (2 * l.k + 4) (byte_digits b.result) ∙ l.invariant.1,
      digits_more a.bytes.now a.out.now l.out _ l.k (omega arith) l.invariant.2 (e ∙ ap (λ (v : ℕ). sets l.out (2 * l.k + 4) (byte_digits v)) b.ensures.0),
    )

pub shape_of-out : goal.shape_of-out
shape_of-out c = c.loop-k.invariant.1

pub returns : goal.returns
returns c =
    let l = c.loop-k in
    let a = c.args in
    let e : l.k ≡ a.count = omega arith in
    l.invariant.2 ∙ ap (λ (n : ℕ). sets a.out.now 4 (concat_map byte_digits (take n a.bytes.now))) e
