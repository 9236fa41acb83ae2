-- `stored::fill_list`: the moves passed stand in the list. Assumes nothing.
use Prim.Native.Nat.{ℕ}
use native.Mathlib.Omega.{arith}
use mathlib.Core.Path.{ap, refl, ◌∙◌}
use mathlib.Core.List.{List}
use lib.ListN.{length-set}
use lib.Seq.{take_all}
use Rattle.game.specs.Area.{begun}
use Rattle.stored.proofs.Words.{length_stored, list_more, words_in}
use Rattle.stored.proofs.fill_list.Goals as goal

pub loop-k-init : goal.loop-k-init
loop-k-init c = (omega arith, refl, refl)

pub word_at-requires : goal.word_at-requires
word_at-requires c = omega arith

pub overflow_cast-list : goal.overflow_cast-list
overflow_cast-list c = omega arith

pub bounds-list-k : goal.bounds-list-k
bounds-list-k c = omega arith

pub loop-k-smaller : goal.loop-k-smaller
loop-k-smaller c = omega arith

pub loop-k-preserved : goal.loop-k-preserved
loop-k-preserved c =
    let l = c.loop-k in
    let a = c.args in
    let n = length_stored a.line.now (omega arith) in (
      omega arith,
      length-set l.list l.k c.word_at.result ∙ l.invariant.1,
      list_more (words_in a.line.now) a.list.now l.list l.k c.word_at.result l.invariant.2 c.word_at.ensures.0 (omega arith) (omega arith),
    )

pub shape_of-list : goal.shape_of-list
shape_of-list c = c.loop-k.invariant.1

pub returns : goal.returns
returns c =
    let l = c.loop-k in
    let a = c.args in
    let n = length_stored a.line.now (omega arith) in
    l.invariant.2 ∙ ap (λ (ws : List ℕ). begun ws a.list.now) (take_all l.k (words_in a.line.now) (omega arith))
