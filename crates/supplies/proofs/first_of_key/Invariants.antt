-- `supplies::first_of_key`: each word looked at is the key's next one; 64 at most are. Assumes nothing.
use Rattle.supplies.proofs.KeyTurns.{Midway}
use Rattle.supplies.proofs.first_of_key.Given as goal

abbrev pub invariant-loop-turn : goal.invariant-loop-turn
invariant-loop-turn l = Midway l.n l.bound l.initial.last l.used l.last l.turn
