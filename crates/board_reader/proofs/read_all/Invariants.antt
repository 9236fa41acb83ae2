-- `board_reader::read_all`: there are blocks such that what is kept is what they come to. Assumes nothing.
use Rattle.std.proofs.Common.{◌≡◌, length}
use Rattle.board_reader.specs.Turns.{Sofar}
use Rattle.board_reader.proofs.read_all.Given as goal

abbrev pub invariant-loop : goal.invariant-loop
invariant-loop l = record { sofar : Sofar l.turn.kept; same_block : length l.block ≡ length l.fn.block; same_out : length l.out ≡ length l.fn.out }
