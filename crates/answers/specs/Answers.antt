-- Each answer of a public call by its number and values (RULES 7, 8). Assumes nothing.
use Rattle.std.specs.Prelude.{ℕ, ◌≡◌, Bool, List, [], ◌∷◌, ℤ, Result, Ok, Err}
use Rattle.game.specs.Lists.{bit}
use Rattle.game.specs.Keys.{key_numbers}
use Rattle.game.specs.Calls.{Answer, ListOutcome, Outcome, gives, move, number_of, refuses}
use Rattle.keys.specs.Stands.{key_of}
use Rattle.kinds.specs.Numbers.{ending_number}
use Rattle.refusals.specs.Names.{answer_of, named}
use Rattle.refusals.specs.declared.Refusal.{Refusal}
use Rattle.answers.specs.declared.Played.{Played}
use Rattle.answers.specs.declared.Unplayed.{Unplayed}
use Rattle.answers.specs.declared.Unplayed.TheVariants as Unplays
use Rattle.answers.specs.declared.Roll.{Roll}
use Rattle.answers.specs.declared.KeyRoll.{KeyRoll}

-- the 3BV count, or a round: 0 and the units or clicks, or the refusal's number alone
abbrev pub counted_answer : Result ℕ Refusal → Answer
counted_answer r = answer_of (λ n. n ∷ []) r

-- the early count: 0 and 1 or 0, or the refusal's number alone
abbrev pub judged_answer : Result Bool Refusal → Answer
judged_answer r = answer_of (λ b. bit b ∷ []) r

-- replay: 0, moves made, safe cells still closed and the ending; MOVE with the bad move's place; or the refusal's number alone
abbrev pub replayed_answer : Result Played Unplayed → Answer
replayed_answer (Ok p) = gives (p.made ∷ p.closed ∷ ending_number p.ending ∷ [])
replayed_answer (Err (Unplays.Move k)) = record { number = number_of move; values = k ∷ [] }
replayed_answer (Err (Unplays.Refused f)) = refuses (named f)

-- a random call: 0, the clicks and the draw bytes used, or the refusal's number alone
abbrev pub rolled_answer : Result Roll Refusal → Answer
rolled_answer r = answer_of (λ roll. roll.clicks ∷ roll.used ∷ []) r

-- a keyed call: 0, the clicks, the draw bytes used and the six numbers of the key after it, or the refusal's number alone
abbrev pub key_rolled_answer : Result KeyRoll Refusal → Answer
key_rolled_answer r = answer_of (λ roll. roll.clicks ∷ roll.used ∷ key_numbers (key_of roll.key)) r

-- a call without a list keeps its promise
pub record Keeps (promise : Outcome) (answer : Answer) (work : List ℤ) : Type 0 where
  pub answers : answer ≡ promise.answer
  pub leaves : work ≡ promise.work

-- a call with a list keeps its promise
pub record KeepsList (promise : ListOutcome) (answer : Answer) (work : List ℤ) (list : List ℕ) : Type 0 where
  pub answers : answer ≡ promise.answer
  pub leaves : work ≡ promise.work
  pub lists : list ≡ promise.list
