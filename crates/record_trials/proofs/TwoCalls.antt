-- Two calls by one reader, one after the other: the second finds the reader as the first left it. Assumes nothing.
use Prim.Native.Nat.{ℕ}
use mathlib.Core.Path.{◌≡◌, ap, subst, ◌∙◌}
use mathlib.Core.Bool.{Bool}
use mathlib.Core.List.{List}
use Rattle.std.specs.Prelude.{Result}
use lib.IntN.{ℤ}
use lib.ListN.{drop}
use denote.Ref.{Bor}
use Rattle.game.specs.Draws.{Mode}
use Rattle.game.specs.Grid.{Grid}
use Rattle.game.specs.Calls.{kept, kept_listed, random_round_call, random_search_call}
use Rattle.answers.specs.Answers.{Keeps, KeepsList, rolled_answer}
use Rattle.answers.specs.declared.Roll.{Roll}
use Rattle.refusals.specs.declared.Refusal.{Refusal}
use Rattle.number_check.specs.Forms.{in_form}
use Rattle.draw_reader.specs.declared.DrawReader.{DrawReader}
use Rattle.reader_calls.specs.Stands.{read_on, stands_at}
use Rattle.record_trials.specs.Readings.{Twice}

pub reads_twice : (strict : Bool) (mode : Mode) (g : Grid) (ws : List ℤ) (ms : List ℕ) (bytes : Bor (List ℕ)) (place rounds : ℕ) (reader after end : DrawReader) (round search : Result Roll Refusal) (between work : List ℤ) (list : List ℕ)
    → (reader.bytes ≡ bytes) × (reader.place ≡ place)
    → KeepsList (in_form strict (kept_listed ws ms) g (random_round_call mode g ws ms (drop reader.place reader.bytes.now))) (rolled_answer round) between list × (after ≡ read_on reader round)
    → Keeps (in_form strict (kept between) g (random_search_call mode g between (drop after.place after.bytes.now) rounds)) (rolled_answer search) work × (end ≡ read_on after search)
    → Twice strict mode g ws ms bytes.now place rounds round search end.place work list
reads_twice strict mode g ws ms bytes place rounds reader after end round search between work list e k k' =
    let on : after.place ≡ stands_at round place = ap (λ (r : DrawReader). r.place) k.1 ∙ ap (stands_at round) e.1 in
    let same : after.bytes ≡ bytes = ap (λ (r : DrawReader). r.bytes) k.1 ∙ e.0 in
    let here : drop reader.place reader.bytes.now ≡ drop place bytes.now = λ i. drop (e.1 i) (e.0 i).now in
    let there : drop after.place after.bytes.now ≡ drop (stands_at round place) bytes.now = λ i. drop (on i) (same i).now in
    record {
      between = between;
      first = subst (λ (b : List ℕ). KeepsList (in_form strict (kept_listed ws ms) g (random_round_call mode g ws ms b)) (rolled_answer round) between list) here k.0;
      second = subst (λ (b : List ℕ). Keeps (in_form strict (kept between) g (random_search_call mode g between b rounds)) (rolled_answer search) work) there k'.0;
      stands = ap (λ (r : DrawReader). r.place) k'.1 ∙ ap (stands_at search) on;
    }
