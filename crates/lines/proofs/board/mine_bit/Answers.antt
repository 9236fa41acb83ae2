-- `lines::board::mine_bit`: the bit of the digit that holds it. Assumes nothing.
use mathlib.Core.Path.{ap, ◌∙◌}
use Prim.Native.Nat.{ℕ, ◌-◌, ◌/◌, ◌%◌, ◌^◌}
use lib.Dec.{eqb}
use Rattle.lines.proofs.Bits.{mine_here}
use Rattle.lines.proofs.board.mine_bit.Goals as goal

pub returns : goal.returns
returns c =
    let a = c.args in
    ap (λ (b : ℕ). eqb b 1) (c.bit_of.ensures ∙ ap (λ (v : ℕ). v / 2 ^ (3 - a.k % 4) % 2) c.value_of-value.ensures.0)
    ∙ mine_here a.line.now a.k c.requires
