-- `supplies::first_of_key`: each word looked at is the key's next one; 64 at most are. Assumes nothing.
use native.Mathlib.Omega.{arith}
use Rattle.supplies.proofs.KeyTurns.{begins, goes-on, runs_dry, took}
use Rattle.supplies.proofs.first_of_key.Goals as goal

pub loop-turn-init : goal.loop-turn-init
loop-turn-init c = begins _ _ _ _

pub returns-then-word-bound-clause-dealing : goal.returns-then-word-bound-clause-dealing
returns-then-word-bound-clause-dealing c =
    λ k at mode r b.
    took _ _ _ _ _ _ c.loop-turn.invariant c.loop-turn-test.true c.next_key-last.result c.next_key-last.ensures c.given_by-word.result c.given_by-word.ensures.0 c.given_by-word.ensures.1
    k at mode r b c.if-word-bound.true

pub loop-turn-preserved : goal.loop-turn-preserved
loop-turn-preserved c =
    goes-on _ _ _ _ _ _ c.loop-turn.invariant c.loop-turn-test.true c.next_key-last.result c.next_key-last.ensures c.given_by-word.result c.given_by-word.ensures.0 c.given_by-word.ensures.1
    c.if-word-bound.false

pub returns-clause-dealing : goal.returns-clause-dealing
returns-clause-dealing c = runs_dry _ _ _ _ _ _ c.loop-turn.invariant (omega arith)
