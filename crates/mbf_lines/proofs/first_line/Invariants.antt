-- `mbf_lines::first_line`: no byte passed is a line feed. Assumes nothing.
use Prim.Native.Nat.{◌≤◌}
use mathlib.Core.Path.{◌≡◌}
use mathlib.Core.List.{◌++◌}
use lib.ListN.{drop, length, take}
use Rattle.mbf_lines.specs.Conversions.{first_line}
use Rattle.mbf_lines.proofs.first_line.Given as goal

abbrev pub invariant-loop-k : goal.invariant-loop-k
invariant-loop-k l = (l.k ≤ length l.input) × (take l.k l.input ++ first_line (drop l.k l.input) ≡ first_line l.input)
