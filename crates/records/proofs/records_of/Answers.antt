-- `records::records_of`: each turn writes the record of one word more. Assumes nothing.
use Rattle.std.proofs.Common.{◌∙◌}
use Rattle.records.specs.Records.{record_of}
use Rattle.records.proofs.Copies.{over_all, over_next}
use Rattle.records.proofs.records_of.Goals as goal

pub loop-k-preserved : goal.loop-k-preserved
loop-k-preserved c = c.write_record.ensures ∙ over_next (record_of c.args.rows) 0 c.loop-k.k _ c.args.run.now c.loop-k.run c.record_of.result c.loop-k-test.true c.loop-k.invariant c.record_of.ensures

pub returns : goal.returns
returns c = over_all (record_of c.args.rows) 0 c.args.count c.min.result c.min-2.result c.loop-k.k c.args.list.now c.args.run.now c.loop-k.run c.min.ensures c.min-2.ensures c.loop-k-test.false c.loop-k.invariant
