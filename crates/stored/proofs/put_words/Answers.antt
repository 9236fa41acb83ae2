-- `stored::put_words`: the moves passed have their digits. Assumes nothing.
use Prim.Native.Nat.{ℕ, ◌+◌, ◌*◌}
use native.Mathlib.Omega.{arith}
use mathlib.Core.Path.{◌≡◌, ap, refl, sym, ◌∙◌}
use mathlib.Core.List.{List}
use lib.ListN.{get_or, length, take}
use lib.Seq.{length-sets, length-take-le, sets}
use Rattle.game.specs.Lists.{concat_map}
use Rattle.hex_digits.specs.Hex.{byte_digits}
use Rattle.stored.specs.MoveLine.{word_bytes, word_digits}
use Rattle.hex_digits.proofs.Bytes.{sets_more}
use Rattle.stored.proofs.Words.{digits_more, length_digits}
use Rattle.stored.proofs.put_words.Goals as goal

pub loop-k-init : goal.loop-k-init
loop-k-init c = (omega arith, refl, refl)

pub overflow_mul-k : goal.overflow_mul-k
overflow_mul-k c = omega arith

pub overflow_add-k : goal.overflow_add-k
overflow_add-k c = omega arith

pub bounds-list-k : goal.bounds-list-k
bounds-list-k c = omega arith

pub put_word-requires : goal.put_word-requires
put_word-requires c = omega arith

pub loop-k-smaller : goal.loop-k-smaller
loop-k-smaller c = omega arith

pub loop-k-preserved : goal.loop-k-preserved
loop-k-preserved c =
    let l = c.loop-k in
    let a = c.args in
    let list = a.list.now in
    let old = a.line.now in
    let e = c.put_word.ensures in
    let ds = concat_map byte_digits (word_bytes (get_or list l.k 0)) in
    let n = length-take-le l.k list (omega arith) in (
      omega arith,
      ap length e ∙ length-sets l.line (8 * l.k + 4) ds ∙ l.invariant.1,
      e ∙ ap (λ (r : List ℕ). sets r (8 * l.k + 4) ds) l.invariant.2
          ∙ sets_more old 4 (8 * l.k + 4) (word_digits (take l.k list)) ds (omega (arith, length_digits (take l.k list)))
          ∙ ap (sets old 4) (sym (digits_more list l.k (omega arith))),
    )

pub shape_of-line : goal.shape_of-line
shape_of-line c = c.loop-k.invariant.1

pub returns : goal.returns
returns c =
    let l = c.loop-k in
    let a = c.args in
    let e : l.k ≡ a.count = omega arith in
    l.invariant.2 ∙ ap (λ (n : ℕ). sets a.line.now 4 (word_digits (take n a.list.now))) e
