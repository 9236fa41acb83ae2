use Rattle.std.proofs.Common.{◌≡◌, map, take}
use Rattle.records.specs.Records.{record_of, over}
use Rattle.records.proofs.records_of.Given as goal

abbrev pub invariant-loop-k : goal.invariant-loop-k
invariant-loop-k l = l.run ≡ over (map (record_of l.rows) (take l.k l.words)) l.fn.run
