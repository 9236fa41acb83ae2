use Rattle.std.proofs.Common.{◌≤◌}
use Rattle.vectors.proofs.replay_all.Given as goal

abbrev pub invariant-loop-board : goal.invariant-loop-board
invariant-loop-board l = l.wrong ≤ l.board
