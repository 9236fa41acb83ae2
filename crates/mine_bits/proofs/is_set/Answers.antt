-- `mine_bits::is_set`: the byte's bit, as a board line has it. Assumes nothing.
use mathlib.Core.Path.{refl}
use Rattle.lines.specs.BoardLine.{bit_at}
use Rattle.mine_bits.proofs.is_set.Goals as goal

pub returns : goal.returns
unfolding bit_at
returns c = refl
