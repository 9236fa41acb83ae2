-- `draws::first_taken`: each word so far was spent, so the rest of the words decides. Assumes nothing.
use native.Mathlib.Omega.{arith}
use Rattle.draws.proofs.Words.{all_left, word_spent, word_taken, words_over}
use Rattle.draws.proofs.first_taken.Goals as goal

pub loop-k-init : goal.loop-k-init
loop-k-init c = all_left _ _ _ _ _

pub returns-then-word-bound : goal.returns-then-word-bound
returns-then-word-bound c =
    word_taken _ _ _ _ _ c.loop-k.k c.loop-k.invariant c.four-word.result (omega arith) c.four-word.ensures.0 c.four-word.ensures.1 c.if-word-bound.true

pub loop-k-preserved : goal.loop-k-preserved
loop-k-preserved c =
    word_spent _ _ _ _ _ c.loop-k.k c.loop-k.invariant c.four-word.result (omega arith) c.four-word.ensures.0 c.four-word.ensures.1 c.if-word-bound.false

pub returns : goal.returns
returns c = words_over _ _ _ _ _ c.loop-k.k c.loop-k.invariant (omega arith)
