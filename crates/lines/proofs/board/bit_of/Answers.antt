-- `lines::board::bit_of`: each place has its power of two. Assumes nothing.
use native.Mathlib.Omega.{arith}
use Rattle.lines.proofs.Bits.{bit-at}
use Rattle.lines.proofs.board.bit_of.Goals as goal

pub returns-in-0 : goal.returns-in-0
returns-in-0 c = let e = bit-at c.args.value c.args.place 0 c.in-0.is in omega arith

pub returns-in-1 : goal.returns-in-1
returns-in-1 c = let e = bit-at c.args.value c.args.place 1 c.in-1.is in omega arith

pub returns-in-2 : goal.returns-in-2
returns-in-2 c = let e = bit-at c.args.value c.args.place 2 c.in-2.is in omega arith

pub returns-in_default : goal.returns-in_default
returns-in_default c = let e = bit-at c.args.value c.args.place 3 (omega arith) in omega arith
