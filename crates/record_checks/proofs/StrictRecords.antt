-- On a grid without a wrong value the strict calls over records are the present ones, also where SHAPE or BOARD refuses: both then leave all that was lent. Assumes nothing.
use Prim.Native.Nat.{ℕ}
use mathlib.Core.Path.{◌≡◌, ap, refl, sym, ◌∙◌}
use mathlib.Core.Bool.{Bool, true}
use mathlib.Core.List.{List, [], ◌∷◌, map}
use mathlib.Core.Option.{Option, none, some}
use lib.IntN.{ℤ}
use lib.ListN.{length, take}
use Rattle.game.specs.Draws.{Mode}
use Rattle.game.specs.Grid.{Grid}
use Rattle.game.specs.Keys.{Key}
use Rattle.game.specs.Calls.{ListOutcome, Refusal, above_check, board_checks, first_given, kept_listed, keyed_round_call, price_call, random_round_call, replay_call, room_check, strictly, unless, work_check}
use Rattle.game.proofs.Checks.{first_decides}
use Rattle.game.proofs.Strict.{AllRight}
use Rattle.game.proofs.StrictCalls.{same-strictly, strict_board, strict_right}
use Rattle.records.specs.Records.{move_word, over}
use Rattle.records.specs.declared.MoveRecord.{MoveRecord}
use Rattle.record_checks.specs.Promises.{copied_if, in_records, kept_records, keyed_records_call, price_records_call, random_records_call, replay_records_call, strict_keyed_records_call, strict_price_records_call, strict_random_records_call, strict_replay_records_call, with_list, within}
use Rattle.record_checks.proofs.Keeping.{form_in_records}

module _ (g : Grid) (r : AllRight g) (ws : List ℤ) (ms : List ℕ) (run : List MoveRecord) where
  -- a round over a run, by what its flat call comes to
  right_round : (o : ListOutcome) → strictly (kept_records ws ms run) g (in_records g (within g ws ms (length run) o) run) ≡ in_records g (within g ws ms (length run) o) run
  right_round o =
      sym (form_in_records true g ws ms run (within g ws ms (length run) o))
      ∙ ap (λ (x : ListOutcome). in_records g x run) (same-strictly (kept_listed ws ms) g (work_check g ws ∷ room_check g (length run) ∷ []) o r)

  pub right_price : (openingsFirst : Bool) → strict_price_records_call openingsFirst g ws ms run ≡ price_records_call openingsFirst g ws ms run
  right_price openingsFirst = right_round (price_call openingsFirst g ws ms)

  pub right_random : (mode : Mode) (bytes : List ℕ) → strict_random_records_call mode g ws ms run bytes ≡ random_records_call mode g ws ms run bytes
  right_random mode bytes = right_round (random_round_call mode g ws ms bytes)

  pub right_keyed : (mode : Mode) (k : Key) → strict_keyed_records_call mode g ws ms run k ≡ keyed_records_call mode g ws ms run k
  right_keyed mode k = right_round (keyed_round_call mode g ws ms k)

  -- SHAPE or BOARD of a replay copies no word
  replay-board : (n : ℕ) (f : Refusal) → first_given (board_checks g) ≡ some f → replay_records_call g ws ms run n ≡ kept_listed ws ms f
  replay-board n f e =
      let all = first_decides (board_checks g) (work_check g ws ∷ above_check (length run) n ∷ above_check (length ms) n ∷ []) f e in
      let by-run = first_decides (board_checks g) (work_check g ws ∷ above_check (length run) n ∷ []) f e in
      λ i. let words = over (map (move_word g.rows) (take (copied_if (all i) n) run)) ms in with_list (unless (by-run i) ws (replay_call g ws words n)) words

  pub right_replay : (n : ℕ) → strict_replay_records_call g ws ms run n ≡ replay_records_call g ws ms run n
  right_replay n = go (first_given (board_checks g)) refl
    where
      go : (v : Option Refusal) → first_given (board_checks g) ≡ v → strict_replay_records_call g ws ms run n ≡ replay_records_call g ws ms run n
      go none e = strict_right (kept_listed ws ms) g (replay_records_call g ws ms run n) e r
      go (some f) e = strict_board (kept_listed ws ms) g (replay_records_call g ws ms run n) f e ∙ sym (replay-board n f e)
