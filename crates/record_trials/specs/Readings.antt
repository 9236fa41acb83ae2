-- A random round and then a random search by one reader, in the strict form or as they are, in a mode of the draws: the search finds the work area as the round left it, and reads on from where the round ended. Assumes nothing.
use Rattle.std.specs.Prelude.{ℕ, ◌≡◌, Bool, List, ℤ, drop, Result}
use Rattle.game.specs.Draws.{Mode}
use Rattle.game.specs.Grid.{Grid}
use Rattle.game.specs.Calls.{kept, kept_listed, random_round_call, random_search_call}
use Rattle.answers.specs.Answers.{Keeps, KeepsList, rolled_answer}
use Rattle.answers.specs.declared.Roll.{Roll}
use Rattle.refusals.specs.declared.Refusal.{Refusal}
use Rattle.number_check.specs.Forms.{in_form}
use Rattle.reader_calls.specs.Stands.{stands_at}

-- the promises of both calls in one form and one mode, from a place of the bytes; between is the work area after the round
pub record Twice (strict : Bool) (mode : Mode) (g : Grid) (ws : List ℤ) (ms bytes : List ℕ) (place rounds : ℕ) (round search : Result Roll Refusal) (end : ℕ) (work : List ℤ) (list : List ℕ) : Type 0 where
  pub between : List ℤ
  pub first : KeepsList (in_form strict (kept_listed ws ms) g (random_round_call mode g ws ms (drop place bytes))) (rolled_answer round) between list
  pub second : Keeps (in_form strict (kept between) g (random_search_call mode g between (drop (stands_at round place) bytes) rounds)) (rolled_answer search) work
  pub stands : end ≡ stands_at search (stands_at round place)
