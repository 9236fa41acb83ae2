-- `lines::board::bit_between`: what is passed has no bit set. Assumes nothing.
use Prim.Native.Nat.{◌≤◌}
use mathlib.Core.Path.{◌≡◌}
use Rattle.game.specs.Lists.{range, some_of}
use Rattle.hex_digits.specs.Hex.{bytes_of}
use Rattle.lines.specs.BoardLine.{mine_bit}
use Rattle.lines.proofs.board.bit_between.Given as goal

abbrev pub invariant-loop-k : goal.invariant-loop-k
invariant-loop-k l = (l.k ≤ l.to) × (some_of (mine_bit (bytes_of l.line)) (range l.from l.to) ≡ some_of (mine_bit (bytes_of l.line)) (range l.k l.to))
