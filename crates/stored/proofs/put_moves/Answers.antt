-- `stored::put_moves`: rows, columns and the moves, one after the other. Assumes nothing.
use native.Mathlib.Omega.{arith}
use lib.ListN.{take}
use lib.Seq.{length-take-le}
use Rattle.stored.proofs.Words.{line_there}
use Rattle.stored.proofs.put_moves.Goals as goal

pub returns : goal.returns
returns c =
    let a = c.args in
    let n = length-take-le a.count a.list.now c.requires.2 in
    line_there a.rows a.columns (take a.count a.list.now) a.line.now _ _ _ (omega arith) c.put_byte.ensures c.put_byte-2.ensures c.put_words.ensures
