-- What a call that writes into one lent run of bytes or words comes to. Assumes nothing.
use Rattle.std.specs.Prelude.{ℕ, ◌≡◌, List}
use Rattle.std.proofs.Math.Option.{Option}
use Rattle.game.specs.Calls.{Answer, Refusal, decided, refuses}

-- what a call that writes into one lent run comes to
pub record RunOutcome : Type 0 where
  pub answer : Answer
  pub run : List ℕ

-- a refusal changes nothing lent
abbrev pub kept_run : List ℕ → Refusal → RunOutcome
kept_run lent f = record { answer = refuses f; run = lent }

-- a refusal changes nothing lent; otherwise the call comes to an outcome
abbrev pub unless_given : Option Refusal → List ℕ → RunOutcome → RunOutcome
unless_given given lent o = decided given (kept_run lent) o

-- such a call keeps its promise
pub record KeepsRun (promise : RunOutcome) (answer : Answer) (run : List ℕ) : Type 0 where
  pub answers : answer ≡ promise.answer
  pub leaves : run ≡ promise.run
