use Rattle.std.proofs.Common.{◌≤◌, length}
use Rattle.cases.proofs.run_all.Given as goal

abbrev pub invariant-loop : goal.invariant-loop
invariant-loop l = l.kept ≤ length l.held
