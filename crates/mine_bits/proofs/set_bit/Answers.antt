-- `mine_bits::set_bit`: the bit is not set, so its byte has room for its weight. Assumes nothing.
use Prim.Native.Nat.{ℕ, ◌+◌, ◌/◌, ◌%◌}
use native.Mathlib.Omega.{arith}
use mathlib.Core.Path.{ap}
use lib.ListN.{get_or, set}
use Rattle.lines.specs.BoardLine.{bit_at}
use Rattle.mine_bits.specs.Bits.{with_bit}
use Rattle.mine_bits.proofs.Bits.{bit_room, weight_small}
use Rattle.mine_bits.proofs.set_bit.Goals as goal

pub overflow_add-bits : goal.overflow_add-bits
unfolding bit_at
overflow_add-bits c =
    let a = c.args in
    let small = c.slice_known-1.given (a.at / 8) in
    let w = weight_small (a.at % 8) (omega arith) in
    let r = bit_room (get_or a.bits.now (a.at / 8) 0) (a.at % 8) (omega arith) (omega arith) c.requires.1 in
    omega arith

pub returns : goal.returns
unfolding with_bit
returns c =
    let a = c.args in
    ap (λ (w : ℕ). set a.bits.now (a.at / 8) (get_or a.bits.now (a.at / 8) 0 + w)) (weight_small (a.at % 8) (omega arith))
