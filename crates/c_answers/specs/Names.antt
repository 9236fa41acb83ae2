-- The promises of the calls as C sees them: the mode by a number, a number returned, and answers behind pointers. Assumes nothing.
use Rattle.std.specs.Prelude.{ℕ, suc, zero, ◌≡◌, cond, List, [], ◌∷◌, ℤ, eqb, drop, get_or, length, Err, Ok, Result}
use Rattle.game.specs.Area.{begun}
use Rattle.game.specs.Calls.{Answer, ListOutcome, Outcome, gives, move, number_of, refuses}
use Rattle.game.specs.Draws.{Mode, fair, old}
use Rattle.game.specs.Keys.{Key}
use Rattle.lines.specs.BoardLine.{GridOutcome}
use Rattle.lines.specs.Outputs.{RunOutcome}
use Rattle.refusals.specs.Names.{named}
use Rattle.answers.specs.declared.Unplayed.{Unplayed}
use Rattle.answers.specs.declared.Unplayed.TheVariants as Unplays
use Rattle.c_answers.specs.declared.Replayed.{Replayed}

-- the mode of the draws by a number: 0 is the old one, anything else the fair one
abbrev pub mode_by : ℕ → Mode
mode_by zero = old
mode_by (suc k) = fair

-- the key of a run: its six numbers, the five words and the counter; a run that isn't six long has none, as if its words were 0
abbrev pub key_by : List ℕ → Key
key_by run =
    cond (eqb (length run) 6) (record { x = get_or run 0 0; y = get_or run 1 0; z = get_or run 2 0; w = get_or run 3 0; v = get_or run 4 0; counter = get_or run 5 0 })
    (record { x = 0; y = 0; z = 0; w = 0; v = 0; counter = 0 })

-- numbers put at the beginning of a run that is six long; a run of another length stays
abbrev pub key_put : List ℕ → List ℕ → List ℕ
key_put numbers run = cond (eqb (length run) 6) (begun numbers run) run

-- a key's run after a call: the six numbers that the answer has behind its clicks and bytes used; as it was where it has none, or where the run isn't six long
abbrev pub key_left : Answer → List ℕ → List ℕ
key_left a run = key_put (drop 2 a.values) run

-- a replay in numbers: 0, moves made, safe cells still closed and the ending's number; MOVE with the bad move's place; or the refusal's number alone
abbrev pub replay_told : Result Replayed Unplayed → Answer
replay_told (Ok t) = gives (t.made ∷ t.closed ∷ t.ending ∷ [])
replay_told (Err (Unplays.Move k)) = record { number = number_of move; values = k ∷ [] }
replay_told (Err (Unplays.Refused f)) = refuses (named f)

-- what stands behind an answer pointer after a call: the answer's value of that place, or what stood there if it has none
abbrev pub told : Answer → ℕ → ℕ → ℕ
told a place before = get_or a.values place before

-- an answer as C sees it: the number returned, and one value at exit
pub record Tells (a : Answer) (number before after : ℕ) : Type 0 where
  pub answers : number ≡ a.number
  pub tells : after ≡ told a 0 before

-- the same with two values
pub record TellsTwo (a : Answer) (number before after before2 after2 : ℕ) : Type 0 where
  pub first : Tells a number before after
  pub second : after2 ≡ told a 1 before2

-- the same with three values
pub record TellsThree (a : Answer) (number before after before2 after2 before3 after3 : ℕ) : Type 0 where
  pub two : TellsTwo a number before after before2 after2
  pub third : after3 ≡ told a 2 before3

-- a call without a list, as C sees it: the number returned, the work area and one answer at exit
pub record Returned (promise : Outcome) (number : ℕ) (work : List ℤ) (before after : ℕ) : Type 0 where
  pub answers : number ≡ promise.answer.number
  pub leaves : work ≡ promise.work
  pub tells : after ≡ told promise.answer 0 before

-- the same with two answers
pub record ReturnedTwo (promise : Outcome) (number : ℕ) (work : List ℤ) (before after before2 after2 : ℕ) : Type 0 where
  pub first : Returned promise number work before after
  pub second : after2 ≡ told promise.answer 1 before2

-- the same with three answers
pub record ReturnedThree (promise : Outcome) (number : ℕ) (work : List ℤ) (before after before2 after2 before3 after3 : ℕ) : Type 0 where
  pub two : ReturnedTwo promise number work before after before2 after2
  pub third : after3 ≡ told promise.answer 2 before3

-- a call with a list, as C sees it: the number returned, the work area, the list and one answer at exit
pub record ReturnedList (promise : ListOutcome) (number : ℕ) (work : List ℤ) (list : List ℕ) (before after : ℕ) : Type 0 where
  pub answers : number ≡ promise.answer.number
  pub leaves : work ≡ promise.work
  pub lists : list ≡ promise.list
  pub tells : after ≡ told promise.answer 0 before

-- the same with two answers
pub record ReturnedListTwo (promise : ListOutcome) (number : ℕ) (work : List ℤ) (list : List ℕ) (before after before2 after2 : ℕ) : Type 0 where
  pub first : ReturnedList promise number work list before after
  pub second : after2 ≡ told promise.answer 1 before2

-- a keyed search, as C sees it: as a search, and the key's run at exit
pub record ReturnedKey (promise : Outcome) (number : ℕ) (work : List ℤ) (before after before2 after2 : ℕ) (run run' : List ℕ) : Type 0 where
  pub two : ReturnedTwo promise number work before after before2 after2
  pub key : run' ≡ key_left promise.answer run

-- a keyed round, as C sees it: as a round, and the key's run at exit
pub record ReturnedListKey (promise : ListOutcome) (number : ℕ) (work : List ℤ) (list : List ℕ) (before after before2 after2 : ℕ) (run run' : List ℕ) : Type 0 where
  pub two : ReturnedListTwo promise number work list before after before2 after2
  pub key : run' ≡ key_left promise.answer run

-- a call that fills a grid, as C sees it: the number returned, the grid's run and two answers at exit
pub record ReturnedGrid (promise : GridOutcome) (number : ℕ) (values : List ℤ) (before after before2 after2 : ℕ) : Type 0 where
  pub answers : number ≡ promise.answer.number
  pub leaves : values ≡ promise.values
  pub tells : after ≡ told promise.answer 0 before
  pub tells2 : after2 ≡ told promise.answer 1 before2

-- a call that writes into one lent run, as C sees it: the number returned, the run and one answer at exit
pub record ReturnedRun (promise : RunOutcome) (number : ℕ) (run : List ℕ) (before after : ℕ) : Type 0 where
  pub answers : number ≡ promise.answer.number
  pub leaves : run ≡ promise.run
  pub tells : after ≡ told promise.answer 0 before
