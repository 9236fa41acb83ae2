-- `board_reader::read_all`: after a turn too what is kept is what blocks come to. Assumes nothing.
use Rattle.std.proofs.Common.{arith}
use Rattle.board_reader.proofs.Turning.{turn_sofar}
use Rattle.board_reader.proofs.read_all.Goals as goal

pub loop-preserved : goal.loop-preserved
loop-preserved c =
    let l = c.loop in
    let r = c.read_some-turn in
    record {
      sofar = turn_sofar l.turn.kept l.invariant.sofar r.new.block r.result r.ensures;
      same_block = omega arith;
      same_out = omega arith;
    }
