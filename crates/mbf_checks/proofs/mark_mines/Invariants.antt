-- `mbf_checks::mark_mines`: after k mines the bits are theirs. Assumes nothing.
use Prim.Native.Nat.{ℕ, ◌-◌, ◌<◌, ◌≤◌}
use lib.ListN.{get_or}
use Rattle.mbf_checks.proofs.Marking.{Midway}
use Rattle.mbf_checks.proofs.mark_mines.Given as goal

abbrev pub invariant-loop-k : goal.invariant-loop-k
invariant-loop-k l = (l.k ≤ l.count) × Midway l.file l.k l.bits × ((j : ℕ) → get_or l.bits j 0 < 256)

abbrev pub decreases-loop-k : goal.decreases-loop-k
decreases-loop-k l = l.count - l.k
