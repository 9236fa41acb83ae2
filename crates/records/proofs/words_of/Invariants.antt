use Rattle.std.proofs.Common.{◌≡◌, map, take}
use Rattle.records.specs.Records.{move_word, over}
use Rattle.records.proofs.words_of.Given as goal

abbrev pub invariant-loop-k : goal.invariant-loop-k
invariant-loop-k l = l.list ≡ over (map (move_word l.rows) (take l.k l.run)) l.fn.list
