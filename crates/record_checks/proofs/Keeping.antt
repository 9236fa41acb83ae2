-- A flat call with its words copied keeps a run's promise, in the strict form or as it is, and a replay of words that were copied the run's replay. Assumes nothing.
use Prim.Native.Nat.{ℕ}
use mathlib.Core.Path.{◌≡◌, ap, refl, subst, sym, ◌∙◌}
use mathlib.Core.Bool.{Bool, false, true}
use mathlib.Core.List.{List, [], ◌∷◌, ◌++◌, map}
use mathlib.Core.Option.{Option, none, some}
use lib.IntN.{ℤ}
use lib.ListN.{length, take}
use Rattle.game.specs.Grid.{Grid}
use Rattle.game.specs.Calls.{Answer, Check, ListOutcome, Outcome, Refusal, above_check, decided, first_given, grid_checks, kept_listed, refuses, replay_call, replayed_list, unless}
use Rattle.game.proofs.Checks.{given_append, or_else}
use Rattle.game.proofs.Draws.{IfSome}
use Rattle.game.proofs.Strict.{strict_named}
use Rattle.answers.specs.Answers.{Keeps, KeepsList}
use Rattle.number_check.specs.Forms.{form_refusal, in_form}
use Rattle.records.specs.Records.{move_word, over, record_of}
use Rattle.records.proofs.Copies.{length_over}
use Rattle.records.specs.declared.MoveRecord.{MoveRecord}
use Rattle.record_checks.specs.Promises.{KeepsRecords, RecordsOutcome, copied_if, copied_words, in_records, kept_records, replay_checks, replay_records_call, replay_within, written_by}

-- ---- rounds

-- the flat call's promise, how many words are copied, and the copy
keeps_records : (g : Grid) (promise : ListOutcome) (before : List MoveRecord) (a : Answer) (w : List ℤ) (l : List ℕ) (after : List MoveRecord) (count : ℕ) → KeepsList promise a w l → count ≡ written_by (length g.values) a
    → after ≡ over (map (record_of g.rows) (take count l)) before → KeepsRecords (in_records g promise before) a w l after
keeps_records g promise before a w l after count k e r =
    record {
      flat = k;
      in-records = r ∙ (ap (λ (n : ℕ). over (map (record_of g.rows) (take n l)) before) (e ∙ ap (written_by (length g.values)) k.answers) ∙ ap (λ (ms : List ℕ). over (map (record_of g.rows) (take (written_by (length g.values) promise.answer) ms)) before) k.lists);
    }

-- a refusal after which no record is written
abbrev WritesNone : Refusal → Type 0
WritesNone f = (cells : ℕ) → written_by cells (refuses f) ≡ 0

-- SHAPE, BOARD and NUMBER are such, which alone a form gives before the call's own
form_writes_none : (strict : Bool) (g : Grid) → IfSome WritesNone (form_refusal strict g)
form_writes_none false g = tt
form_writes_none true g = strict_named WritesNone g (λ n. refl) (λ n. refl) (λ i n. refl)

-- a flat call's form, copied into a run, is the form of the call over the run
pub form_in_records : (strict : Bool) (g : Grid) (ws : List ℤ) (ms : List ℕ) (run : List MoveRecord) (o : ListOutcome) → in_records g (in_form strict (kept_listed ws ms) g o) run ≡ in_form strict (kept_records ws ms run) g (in_records g o run)
form_in_records strict g ws ms run o = go (form_refusal strict g) (form_writes_none strict g)
  where
    go : (given : Option Refusal) → IfSome WritesNone given → in_records g (decided given (kept_listed ws ms) o) run ≡ decided given (kept_records ws ms run) (in_records g o run)
    go none h = refl
    go (some f) h = ap (λ (n : ℕ). record { flat = kept_listed ws ms f; run = over (map (record_of g.rows) (take n ms)) run }) (h (length g.values))

-- the flat call's promise in a form, how many words are copied, and the copy
pub keeps_form : (strict : Bool) (g : Grid) (ws : List ℤ) (ms : List ℕ) (promise : ListOutcome) (before : List MoveRecord) (a : Answer) (w : List ℤ) (l : List ℕ) (after : List MoveRecord) (count : ℕ)
    → KeepsList (in_form strict (kept_listed ws ms) g promise) a w l → count ≡ written_by (length g.values) a → after ≡ over (map (record_of g.rows) (take count l)) before
    → KeepsRecords (in_form strict (kept_records ws ms before) g (in_records g promise before)) a w l after
keeps_form strict g ws ms promise before a w l after count k e r =
    subst (λ (p : RecordsOutcome). KeepsRecords p a w l after) (form_in_records strict g ws ms before promise) (keeps_records g (in_form strict (kept_listed ws ms) g promise) before a w l after count k e r)

-- ---- replay

module _ (ws : List ℤ) (o : Outcome) where
  -- a call whose last check is made beforehand too comes to what it does without that
  last_twice : (a b c : Option Refusal) → unless (or_else a (or_else b c)) ws (unless (or_else a c) ws o) ≡ unless (or_else a b) ws (unless (or_else a c) ws o)
  unfolding or_else
  last_twice (some f) b c = refl
  last_twice none (some f) c = refl
  last_twice none none (some f) = refl
  last_twice none none none = refl

  checked_twice : (cs rs ls : List Check) → unless (first_given (cs ++ (rs ++ ls))) ws (unless (first_given (cs ++ ls)) ws o) ≡ unless (first_given (cs ++ rs)) ws (unless (first_given (cs ++ ls)) ws o)
  checked_twice cs rs ls =
      let p = given_append cs (rs ++ ls) ∙ ap (or_else (first_given cs)) (given_append rs ls) in
      let q = given_append cs ls in
      let r = given_append cs rs in
      (λ i. unless (p i) ws (unless (q i) ws o)) ∙ (last_twice (first_given cs) (first_given rs) (first_given ls) ∙ sym (λ i. unless (r i) ws (unless (q i) ws o)))

-- a flat replay makes the check by the list's length for itself
list_told : (g : Grid) (ws : List ℤ) (room n : ℕ) (l : List ℕ) → unless (first_given (replay_checks g ws room (length l) n)) ws (replay_call g ws l n) ≡ replay_within g ws room n (replay_call g ws l n)
unfolding replay_call
list_told g ws room n l = checked_twice ws (replayed_list g ws l n) (grid_checks g ws) (above_check room n ∷ []) (above_check (length l) n ∷ [])

-- the words that were copied, and the flat replay of them
keeps_words : (g : Grid) (ws : List ℤ) (ms : List ℕ) (run : List MoveRecord) (n : ℕ) (a : Answer) (w : List ℤ) (l : List ℕ) → l ≡ copied_words g ws ms run n → Keeps (replay_within g ws (length run) n (replay_call g ws l n)) a w
    → KeepsList (replay_records_call g ws ms run n) a w l
keeps_words g ws ms run n a w l e k =
    let k' = subst (λ (x : List ℕ). Keeps (replay_within g ws (length run) n (replay_call g ws x n)) a w) e k in
    record { answers = k'.answers; leaves = k'.leaves; lists = e }

-- a replay in a form: what was checked, the words that were copied, and the flat replay of them
pub keeps_replay : (strict : Bool) (g : Grid) (ws : List ℤ) (ms : List ℕ) (run : List MoveRecord) (n : ℕ) (checked : Option Refusal) (a : Answer) (w : List ℤ) (l : List ℕ)
    → checked ≡ in_form strict (λ (f : Refusal). some f) g (first_given (replay_checks g ws (length run) (length ms) n)) → l ≡ over (map (move_word g.rows) (take (copied_if checked n) run)) ms
    → Keeps (unless checked ws (replay_call g ws l n)) a w → KeepsList (in_form strict (kept_listed ws ms) g (replay_records_call g ws ms run n)) a w l
keeps_replay strict g ws ms run n checked a w l told copy k = go (form_refusal strict g) told
  where
    -- the list, and the flat replay, by another verdict that is the same
    list_by : (o : Option Refusal) → checked ≡ o → l ≡ over (map (move_word g.rows) (take (copied_if o n) run)) ms
    list_by o e = copy ∙ ap (λ (o : Option Refusal). over (map (move_word g.rows) (take (copied_if o n) run)) ms) e

    keeps_by : (o : Option Refusal) → checked ≡ o → Keeps (unless o ws (replay_call g ws l n)) a w
    keeps_by o e = subst (λ (o : Option Refusal). Keeps (unless o ws (replay_call g ws l n)) a w) e k

    length_kept : length l ≡ length ms
    length_kept = ap length copy ∙ length_over (map (move_word g.rows) (take (copied_if checked n) run)) ms

    go : (given : Option Refusal) → checked ≡ decided given (λ (f : Refusal). some f) (first_given (replay_checks g ws (length run) (length ms) n)) → KeepsList (decided given (kept_listed ws ms) (replay_records_call g ws ms run n)) a w l
    go (some f) e = let k' = keeps_by (some f) e in record { answers = k'.answers; leaves = k'.leaves; lists = list_by (some f) e }
    go none e =
        let k' = keeps_by (first_given (replay_checks g ws (length run) (length l) n)) (e ∙ ap (λ (j : ℕ). first_given (replay_checks g ws (length run) j n)) (sym length_kept)) in
        keeps_words g ws ms run n a w l (list_by (first_given (replay_checks g ws (length run) (length ms) n)) e) (subst (λ (x : Outcome). Keeps x a w) (list_told g ws (length run) n l) k')
