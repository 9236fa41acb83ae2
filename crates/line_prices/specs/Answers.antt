-- Each answer of the board reader's calls by its number and values (RULES 8.3). Assumes nothing.
use Rattle.std.specs.Prelude.{ℕ, ◌≡◌, List, [], ◌∷◌, Result}
use Rattle.game.specs.Calls.{Answer}
use Rattle.refusals.specs.Names.{answer_of}
use Rattle.refusals.specs.declared.Refusal.{Refusal}
use Rattle.line_prices.specs.Blocks.{DeskOutcome}
use Rattle.line_prices.specs.declared.block.Place.{Place}

-- a block answered: 0, the bytes kept and the bytes to be printed, or the refusal's number alone
abbrev pub answered_answer : Result Place Refusal → Answer
answered_answer = answer_of (λ (p : Place). p.count ∷ p.written ∷ [])

-- a call with a block keeps its promise
pub record KeepsDesk (promise : DeskOutcome) (answer : Answer) (held out : List ℕ) : Type 0 where
  pub answers : answer ≡ promise.answer
  pub keeps : held ≡ promise.held
  pub prints : out ≡ promise.out
