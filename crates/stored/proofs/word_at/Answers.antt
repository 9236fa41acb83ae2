-- `stored::word_at`: four bytes, high first. Assumes nothing.
use native.Mathlib.Omega.{arith}
use Rattle.stored.proofs.Words.{word_read}
use Rattle.stored.proofs.word_at.Goals as goal

pub returns : goal.returns
returns c =
    let a = c.args in
    let p = c.byte_at-first.ensures in
    let q = c.byte_at-second.ensures in
    let r = c.byte_at-third.ensures in
    let s = c.byte_at-fourth.ensures in
    (word_read a.line.now a.k (omega arith) _ _ _ _ (omega arith) (omega arith) (omega arith) (omega arith), omega arith)
