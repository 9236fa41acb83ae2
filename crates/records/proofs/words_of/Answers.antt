-- `records::words_of`: each turn writes the word of one record more. Assumes nothing.
use Rattle.std.proofs.Common.{◌≡◌, ◌∙◌, ap, arith}
use Rattle.records.specs.Records.{move_word, no_move}
use Rattle.records.proofs.Copies.{over_least, over_next}
use Rattle.records.proofs.words_of.Goals as goal

pub loop-k-preserved : goal.loop-k-preserved
loop-k-preserved c = c.write.ensures ∙ over_next (move_word c.args.rows) no_move c.loop-k.k c.args.run.now c.args.list.now c.loop-k.list c.word_of.result (omega arith) c.loop-k.invariant (c.word_of.ensures ∙ ap (move_word c.args.rows) c.read_record.ensures)

pub returns : goal.returns
returns c =
    let a = c.args in
    let e : c.loop-k.k ≡ c.min-k-end.result = omega arith in
    rw (c.loop-k.invariant, e) (over_least (move_word a.rows) no_move a.count c.min.result c.min-k-end.result a.run.now a.list.now c.min.ensures c.min-k-end.ensures)
