-- The calls over runs of move records (RULES 6.4): the promises of the flat calls, with TRACE by the run's length, and what the run holds. Assumes nothing.
use Rattle.std.specs.Prelude.{ℕ, ◌≡◌, Bool, cond, List, [], ◌∷◌, ◌++◌, map, ℤ, eqb, get_or, length, take}
use Rattle.std.proofs.Math.Option.{Option, none, some}
use Rattle.game.specs.Draws.{Mode}
use Rattle.game.specs.Grid.{Grid}
use Rattle.game.specs.Keys.{Key}
use Rattle.game.specs.Calls.{Answer, Check, ListOutcome, Outcome, Refusal, above_check, draws, first_given, grid_checks, kept_listed, keyed_round_call, number_of, price_call, random_round_call, replay_call, room_check, strictly, unless, unless_listed}
use Rattle.answers.specs.Answers.{KeepsList}
use Rattle.records.specs.Records.{move_word, over, record_of}
use Rattle.records.specs.declared.MoveRecord.{MoveRecord}

-- a flat call after the checks of the grid, the work area and the run
abbrev pub within : Grid → List ℤ → List ℕ → ℕ → ListOutcome → ListOutcome
within g ws ms room o = unless_listed (first_given (grid_checks g ws ++ room_check g room ∷ [])) ws ms o

-- how many records are written: one for each click; one for each cell after DRAWS; none after another refusal
abbrev pub written_by : ℕ → Answer → ℕ
written_by cells a = cond (eqb a.number 0) (get_or a.values 0 0) (cond (eqb a.number (number_of draws)) cells 0)

-- the run after a flat call: the words that it wrote, as records, and the rest unchanged
abbrev pub run_after : Grid → ListOutcome → List MoveRecord → List MoveRecord
run_after g o run = over (map (record_of g.rows) (take (written_by (length g.values) o.answer) o.list)) run

-- what a call over a run comes to: the flat call's outcome, and the run at exit
pub record RecordsOutcome : Type 0 where
  pub flat : ListOutcome
  pub run : List MoveRecord

-- a flat call whose words are copied into a run
abbrev pub in_records : Grid → ListOutcome → List MoveRecord → RecordsOutcome
in_records g o run = record { flat = o; run = run_after g o run }

-- greedy, or openings-first, over a run
abbrev pub price_records_call : Bool → Grid → List ℤ → List ℕ → List MoveRecord → RecordsOutcome
price_records_call openingsFirst g ws ms run = in_records g (within g ws ms (length run) (price_call openingsFirst g ws ms)) run

-- a single random round over a run
abbrev pub random_records_call : Mode → Grid → List ℤ → List ℕ → List MoveRecord → List ℕ → RecordsOutcome
random_records_call mode g ws ms run bytes = in_records g (within g ws ms (length run) (random_round_call mode g ws ms bytes)) run

-- a keyed round over a run
abbrev pub keyed_records_call : Mode → Grid → List ℤ → List ℕ → List MoveRecord → Key → RecordsOutcome
keyed_records_call mode g ws ms run k = in_records g (within g ws ms (length run) (keyed_round_call mode g ws ms k)) run

-- a refusal changes nothing lent: the work area, the list and the run stay
abbrev pub kept_records : List ℤ → List ℕ → List MoveRecord → Refusal → RecordsOutcome
kept_records ws ms run f = record { flat = kept_listed ws ms f; run = run }

-- greedy, or openings-first, over a run, strictly
abbrev pub strict_price_records_call : Bool → Grid → List ℤ → List ℕ → List MoveRecord → RecordsOutcome
strict_price_records_call openingsFirst g ws ms run = strictly (kept_records ws ms run) g (price_records_call openingsFirst g ws ms run)

-- a single random round over a run, strictly
abbrev pub strict_random_records_call : Mode → Grid → List ℤ → List ℕ → List MoveRecord → List ℕ → RecordsOutcome
strict_random_records_call mode g ws ms run bytes = strictly (kept_records ws ms run) g (random_records_call mode g ws ms run bytes)

-- a keyed round over a run, strictly
abbrev pub strict_keyed_records_call : Mode → Grid → List ℤ → List ℕ → List MoveRecord → Key → RecordsOutcome
strict_keyed_records_call mode g ws ms run k = strictly (kept_records ws ms run) g (keyed_records_call mode g ws ms run k)

-- a call over a run keeps its promise: that of the flat call, and the run's
pub record KeepsRecords (promise : RecordsOutcome) (answer : Answer) (work : List ℤ) (list : List ℕ) (run : List MoveRecord) : Type 0 where
  pub flat : KeepsList promise.flat answer work list
  pub in-records : run ≡ promise.run

-- ---- replay

-- how many records are copied: the count, if nothing is refused
abbrev pub copied_if : Option Refusal → ℕ → ℕ
copied_if none n = n
copied_if (some f) n = 0

-- the checks of a replay of n records, with a run of so many and a list of so many
abbrev pub replay_checks : Grid → List ℤ → ℕ → ℕ → ℕ → List Check
replay_checks g ws room words n = grid_checks g ws ++ above_check room n ∷ above_check words n ∷ []

-- the list of a replay: the records' words, if nothing is refused, and the rest unchanged
abbrev pub copied_words : Grid → List ℤ → List ℕ → List MoveRecord → ℕ → List ℕ
copied_words g ws ms run n = over (map (move_word g.rows) (take (copied_if (first_given (replay_checks g ws (length run) (length ms) n)) n) run)) ms

-- a flat replay after the checks of the grid, the work area and the run
abbrev pub replay_within : Grid → List ℤ → ℕ → ℕ → Outcome → Outcome
replay_within g ws room n o = unless (first_given (grid_checks g ws ++ above_check room n ∷ [])) ws o

-- a call without a list, and the list that it was lent
abbrev pub with_list : Outcome → List ℕ → ListOutcome
with_list o ms = record { answer = o.answer; work = o.work; list = ms }

-- a replay of the first n records of a run: that of their words, which the list then holds
abbrev pub replay_records_call : Grid → List ℤ → List ℕ → List MoveRecord → ℕ → ListOutcome
replay_records_call g ws ms run n =
    with_list (replay_within g ws (length run) n (replay_call g ws (copied_words g ws ms run n) n)) (copied_words g ws ms run n)

-- a replay of the first n records of a run, strictly
abbrev pub strict_replay_records_call : Grid → List ℤ → List ℕ → List MoveRecord → ℕ → ListOutcome
strict_replay_records_call g ws ms run n = strictly (kept_listed ws ms) g (replay_records_call g ws ms run n)
