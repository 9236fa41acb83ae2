-- `lines::board::has_wrong`: what is passed has no wrong byte. Assumes nothing.
use Prim.Native.Nat.{◌≤◌}
use mathlib.Core.Path.{◌≡◌}
use lib.ListN.{drop, length}
use Rattle.game.specs.Lists.{some_of}
use Rattle.hex_digits.specs.Hex.{is_wrong}
use Rattle.lines.proofs.board.has_wrong.Given as goal

abbrev pub invariant-loop-byte : goal.invariant-loop-byte
invariant-loop-byte l = (l.byte-index ≤ length l.line) × (some_of is_wrong l.line ≡ some_of is_wrong (drop l.byte-index l.line))
