-- `mbf_lines::put_bytes`: the bytes passed have their digits. Assumes nothing.
use Prim.Native.Nat.{◌-◌, ◌≤◌}
use mathlib.Core.Path.{◌≡◌}
use lib.ListN.{length, take}
use lib.Seq.{sets}
use Rattle.game.specs.Lists.{concat_map}
use Rattle.hex_digits.specs.Hex.{byte_digits}
use Rattle.mbf_lines.proofs.put_bytes.Given as goal

abbrev pub invariant-loop-k : goal.invariant-loop-k
invariant-loop-k l = (l.k ≤ l.count) × (length l.out ≡ length l.initial.out) × (l.out ≡ sets l.initial.out 4 (concat_map byte_digits (take l.k l.bytes)))

abbrev pub decreases-loop-k : goal.decreases-loop-k
decreases-loop-k l = l.count - l.k
