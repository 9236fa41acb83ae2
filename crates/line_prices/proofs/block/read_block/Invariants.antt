-- `line_prices::block::read_block`: the desk after so many bytes is what they come to. Assumes nothing.
use Prim.Native.Nat.{◌≤◌}
use mathlib.Core.Path.{◌≡◌}
use lib.ListN.{length, take}
use Rattle.line_prices.specs.Bytes.{block_read, desk_at, desk_of}
use Rattle.line_prices.proofs.block.read_block.Given as goal

abbrev pub invariant-loop-byte : goal.invariant-loop-byte
invariant-loop-byte l = (l.byte-index ≤ length l.block) × (desk_at l.held l.place l.out ≡ block_read (desk_of l.initial.held l.count l.initial.out) (take l.byte-index l.block))
