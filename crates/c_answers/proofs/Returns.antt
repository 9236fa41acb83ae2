-- A call that keeps its promise keeps it as C sees it: the number and the values that its answer tells are those promised. Assumes nothing.
use Prim.Native.Nat.{ℕ}
use mathlib.Core.Path.{◌≡◌, ap, sym, ◌∙◌}
use mathlib.Core.List.{List}
use lib.IntN.{ℤ}
use Rattle.game.specs.Calls.{Answer, ListOutcome, Outcome}
use Rattle.answers.specs.Answers.{Keeps, KeepsList}
use Rattle.lines.specs.Answers.{KeepsGrid}
use Rattle.lines.specs.BoardLine.{GridOutcome}
use Rattle.lines.specs.Outputs.{KeepsRun, RunOutcome}
use Rattle.c_answers.specs.Names.{Returned, ReturnedGrid, ReturnedKey, ReturnedList, ReturnedListKey, ReturnedListTwo, ReturnedRun, ReturnedThree, ReturnedTwo, Tells, TellsThree, TellsTwo, key_left, told}

-- the answer's number, carried from the answer that came to the one promised
as_number : {promised came : Answer} {n : ℕ} → came ≡ promised → n ≡ came.number → n ≡ promised.number
as_number same e = e ∙ ap (λ (a : Answer). a.number) same

-- a value of the answer, carried likewise
as_told : {promised came : Answer} (place before : ℕ) {after : ℕ} → came ≡ promised → after ≡ told came place before → after ≡ told promised place before
as_told place before same e = e ∙ ap (λ (a : Answer). told a place before) same

module _ {promise : Outcome} {a : Answer} {work : List ℤ} (kept : Keeps promise a work) {n before after : ℕ} where
  -- one answer
  pub returned : Tells a n before after → Returned promise n work before after
  returned t = record { answers = as_number kept.answers t.answers; leaves = kept.leaves; tells = as_told 0 before kept.answers t.tells }

  -- two answers
  pub returned_two : {before2 after2 : ℕ} → TellsTwo a n before after before2 after2 → ReturnedTwo promise n work before after before2 after2
  returned_two {before2} t = record { first = returned t.first; second = as_told 1 before2 kept.answers t.second }

  -- three answers
  pub returned_three : {before2 after2 before3 after3 : ℕ} → TellsThree a n before after before2 after2 before3 after3 → ReturnedThree promise n work before after before2 after2 before3 after3
  returned_three {before3} t = record { two = returned_two t.two; third = as_told 2 before3 kept.answers t.third }

module _ {promise : ListOutcome} {a : Answer} {work : List ℤ} {list : List ℕ} (kept : KeepsList promise a work list) {n before after : ℕ} where
  -- one answer and a list
  pub returned_list : Tells a n before after → ReturnedList promise n work list before after
  returned_list t = record { answers = as_number kept.answers t.answers; leaves = kept.leaves; lists = kept.lists; tells = as_told 0 before kept.answers t.tells }

  -- two answers and a list
  pub returned_list_two : {before2 after2 : ℕ} → TellsTwo a n before after before2 after2 → ReturnedListTwo promise n work list before after before2 after2
  returned_list_two {before2} t = record { first = returned_list t.first; second = as_told 1 before2 kept.answers t.second }

-- a key's run, carried from the answer that came to the one promised
as_left : {promised came : Answer} (run : List ℕ) {run' : List ℕ} → came ≡ promised → run' ≡ key_left came run → run' ≡ key_left promised run
as_left run same e = e ∙ ap (λ (a : Answer). key_left a run) same

-- two answers and a key
pub returned_key : {promise : Outcome} {a : Answer} {work : List ℤ} → Keeps promise a work → {n before after before2 after2 : ℕ} (run : List ℕ) {run' : List ℕ}
    → TellsTwo a n before after before2 after2 × (run' ≡ key_left a run) → ReturnedKey promise n work before after before2 after2 run run'
returned_key kept run t = record { two = returned_two kept t.0; key = as_left run kept.answers t.1 }

-- two answers, a list and a key
pub returned_list_key : {promise : ListOutcome} {a : Answer} {work : List ℤ} {list : List ℕ} → KeepsList promise a work list → {n before after before2 after2 : ℕ} (run : List ℕ) {run' : List ℕ}
    → TellsTwo a n before after before2 after2 × (run' ≡ key_left a run) → ReturnedListKey promise n work list before after before2 after2 run run'
returned_list_key kept run t = record { two = returned_list_two kept t.0; key = as_left run kept.answers t.1 }

-- a grid and two answers
pub returned_grid : {promise : GridOutcome} {a : Answer} {values : List ℤ} → KeepsGrid promise a values → {n before after before2 after2 : ℕ}
    → TellsTwo a n before after before2 after2 → ReturnedGrid promise n values before after before2 after2
returned_grid kept {before} {before2} t =
    record { answers = as_number kept.answers t.first.answers; leaves = kept.leaves; tells = as_told 0 before kept.answers t.first.tells; tells2 = as_told 1 before2 kept.answers t.second }

-- a run and one answer
pub returned_run : {promise : RunOutcome} {a : Answer} {run : List ℕ} → KeepsRun promise a run → {n before after : ℕ} → Tells a n before after → ReturnedRun promise n run before after
returned_run kept {before} t = record { answers = as_number kept.answers t.answers; leaves = kept.leaves; tells = as_told 0 before kept.answers t.tells }

-- ---- there is only one such answer

pub returned_once : (p : Outcome) (n n' : ℕ) (w w' : List ℤ) (b a a' : ℕ) → Returned p n w b a → Returned p n' w' b a' → (n ≡ n') × (w ≡ w') × (a ≡ a')
returned_once p n n' w w' b a a' k k' = (k.answers ∙ sym k'.answers, k.leaves ∙ sym k'.leaves, k.tells ∙ sym k'.tells)

pub two_once : (p : Outcome) (n n' : ℕ) (w w' : List ℤ) (b a a' b2 a2 a2' : ℕ) → ReturnedTwo p n w b a b2 a2 → ReturnedTwo p n' w' b a' b2 a2' → (n ≡ n') × (w ≡ w') × (a ≡ a') × (a2 ≡ a2')
two_once p n n' w w' b a a' b2 a2 a2' k k' =
    let e = returned_once p n n' w w' b a a' k.first k'.first in
    (e.0, e.1, e.2, k.second ∙ sym k'.second)

pub three_once : (p : Outcome) (n n' : ℕ) (w w' : List ℤ) (b a a' b2 a2 a2' b3 a3 a3' : ℕ) → ReturnedThree p n w b a b2 a2 b3 a3 → ReturnedThree p n' w' b a' b2 a2' b3 a3'
    → (n ≡ n') × (w ≡ w') × (a ≡ a') × (a2 ≡ a2') × (a3 ≡ a3')
three_once p n n' w w' b a a' b2 a2 a2' b3 a3 a3' k k' =
    let e = two_once p n n' w w' b a a' b2 a2 a2' k.two k'.two in
    (e.0, e.1, e.2, e.3, k.third ∙ sym k'.third)

pub list_once : (p : ListOutcome) (n n' : ℕ) (w w' : List ℤ) (l l' : List ℕ) (b a a' : ℕ) → ReturnedList p n w l b a → ReturnedList p n' w' l' b a' → (n ≡ n') × (w ≡ w') × (l ≡ l') × (a ≡ a')
list_once p n n' w w' l l' b a a' k k' =
    (k.answers ∙ sym k'.answers, k.leaves ∙ sym k'.leaves, k.lists ∙ sym k'.lists, k.tells ∙ sym k'.tells)

pub list_two_once : (p : ListOutcome) (n n' : ℕ) (w w' : List ℤ) (l l' : List ℕ) (b a a' b2 a2 a2' : ℕ) → ReturnedListTwo p n w l b a b2 a2 → ReturnedListTwo p n' w' l' b a' b2 a2' → (n ≡ n') × (w ≡ w') × (l ≡ l') × (a ≡ a') × (a2 ≡ a2')
list_two_once p n n' w w' l l' b a a' b2 a2 a2' k k' =
    let e = list_once p n n' w w' l l' b a a' k.first k'.first in
    (e.0, e.1, e.2, e.3, k.second ∙ sym k'.second)

pub key_once : (p : Outcome) (n n' : ℕ) (w w' : List ℤ) (b a a' b2 a2 a2' : ℕ) (run k k' : List ℕ) → ReturnedKey p n w b a b2 a2 run k → ReturnedKey p n' w' b a' b2 a2' run k'
    → (n ≡ n') × (w ≡ w') × (a ≡ a') × (a2 ≡ a2') × (k ≡ k')
key_once p n n' w w' b a a' b2 a2 a2' run k k' r r' =
    let e = two_once p n n' w w' b a a' b2 a2 a2' r.two r'.two in
    (e.0, e.1, e.2, e.3, r.key ∙ sym r'.key)

pub list_key_once : (p : ListOutcome) (n n' : ℕ) (w w' : List ℤ) (l l' : List ℕ) (b a a' b2 a2 a2' : ℕ) (run k k' : List ℕ) → ReturnedListKey p n w l b a b2 a2 run k → ReturnedListKey p n' w' l' b a' b2 a2' run k'
    → (n ≡ n') × (w ≡ w') × (l ≡ l') × (a ≡ a') × (a2 ≡ a2') × (k ≡ k')
list_key_once p n n' w w' l l' b a a' b2 a2 a2' run k k' r r' =
    let e = list_two_once p n n' w w' l l' b a a' b2 a2 a2' r.two r'.two in
    (e.0, e.1, e.2, e.3, e.4, r.key ∙ sym r'.key)

pub grid_once : (p : GridOutcome) (n n' : ℕ) (v v' : List ℤ) (b a a' b2 a2 a2' : ℕ) → ReturnedGrid p n v b a b2 a2 → ReturnedGrid p n' v' b a' b2 a2' → (n ≡ n') × (v ≡ v') × (a ≡ a') × (a2 ≡ a2')
grid_once p n n' v v' b a a' b2 a2 a2' k k' =
    (k.answers ∙ sym k'.answers, k.leaves ∙ sym k'.leaves, k.tells ∙ sym k'.tells, k.tells2 ∙ sym k'.tells2)

pub run_once : (p : RunOutcome) (n n' : ℕ) (r r' : List ℕ) (b a a' : ℕ) → ReturnedRun p n r b a → ReturnedRun p n' r' b a' → (n ≡ n') × (r ≡ r') × (a ≡ a')
run_once p n n' r r' b a a' k k' = (k.answers ∙ sym k'.answers, k.leaves ∙ sym k'.leaves, k.tells ∙ sym k'.tells)
