-- There is only one answer and one end content of each lent run for the calls over runs: the promises are functions. Assumes nothing.
use Prim.Native.Nat.{ℕ}
use mathlib.Core.Path.{◌∙◌, ◌≡◌, sym}
use mathlib.Core.List.{List}
use lib.IntN.{ℤ}
use Rattle.game.specs.Calls.{ListOutcome}
use Rattle.answers.specs.Answers.{KeepsList, counted_answer, key_rolled_answer, replayed_answer, rolled_answer}
use Rattle.answers.specs.declared.KeyRoll.{KeyRoll}
use Rattle.answers.specs.declared.Played.{Played}
use Rattle.answers.specs.declared.Unplayed.{Unplayed}
use Rattle.answers.specs.declared.Roll.{Roll}
use Rattle.refusals.specs.declared.Refusal.{Refusal}
use Rattle.std.specs.Prelude.{Result}
use Rattle.answers.proofs.OneAnswer.{key_rolled_once, priced_once, replayed_once, rolled_once}
use Rattle.records.specs.declared.MoveRecord.{MoveRecord}
use Rattle.record_checks.specs.Promises.{KeepsRecords, RecordsOutcome}

module _ (p : RecordsOutcome) (w w' : List ℤ) (l l' : List ℕ) (run run' : List MoveRecord) where
  -- greedy and openings-first over a run
  pub run_once : (r r' : Result ℕ Refusal) → KeepsRecords p (counted_answer r) w l run → KeepsRecords p (counted_answer r') w' l' run' → (r ≡ r') × (w ≡ w') × (l ≡ l') × (run ≡ run')
  run_once r r' k k' = let e = priced_once p.flat r r' w w' l l' k.flat k'.flat in (e.0, e.1, e.2, k.in-records ∙ sym k'.in-records)

  -- a single random round over a run
  pub rolled_run_once : (r r' : Result Roll Refusal) → KeepsRecords p (rolled_answer r) w l run → KeepsRecords p (rolled_answer r') w' l' run' → (r ≡ r') × (w ≡ w') × (l ≡ l') × (run ≡ run')
  rolled_run_once r r' k k' = let e = rolled_once p.flat r r' w w' l l' k.flat k'.flat in (e.0, e.1, e.2, k.in-records ∙ sym k'.in-records)

  -- a keyed round over a run
  pub keyed_run_once : (r r' : Result KeyRoll Refusal) → KeepsRecords p (key_rolled_answer r) w l run → KeepsRecords p (key_rolled_answer r') w' l' run' → (r ≡ r') × (w ≡ w') × (l ≡ l') × (run ≡ run')
  keyed_run_once r r' k k' = let e = key_rolled_once p.flat r r' w w' l l' k.flat k'.flat in (e.0, e.1, e.2, k.in-records ∙ sym k'.in-records)

-- a replay over a run
pub replay_once : (p : ListOutcome) (r r' : Result Played Unplayed) (w w' : List ℤ) (l l' : List ℕ) → KeepsList p (replayed_answer r) w l → KeepsList p (replayed_answer r') w' l' → (r ≡ r') × (w ≡ w') × (l ≡ l')
replay_once p r r' w w' l l' k k' =
    let e = replayed_once (record { answer = p.answer; work = p.work }) r r' w w' (record { answers = k.answers; leaves = k.leaves }) (record { answers = k'.answers; leaves = k'.leaves }) in
    (e.0, e.1, k.lists ∙ sym k'.lists)
