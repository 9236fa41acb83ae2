-- `lines::board::fill`: the cells passed have their values. Assumes nothing.
use Prim.Native.Nat.{◌-◌, ◌≤◌}
use mathlib.Core.Path.{◌≡◌}
use lib.ListN.{length}
use Rattle.game.specs.Area.{begun}
use Rattle.hex_digits.specs.Hex.{bytes_of}
use Rattle.lines.specs.BoardLine.{cell_values}
use Rattle.lines.proofs.board.fill.Given as goal

abbrev pub invariant-loop-k : goal.invariant-loop-k
invariant-loop-k l = (l.k ≤ l.cells) × (length l.grid ≡ length l.initial.grid) × (l.grid ≡ begun (cell_values (bytes_of l.line) l.k) l.initial.grid)

abbrev pub decreases-loop-k : goal.decreases-loop-k
decreases-loop-k l = l.cells - l.k
