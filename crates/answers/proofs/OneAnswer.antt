-- There is only one answer and one end content of each lent run for every call: the promises are functions, and what each call answers is read back from its number and values. Assumes nothing.
use Prim.Native.Nat.{ℕ}
use mathlib.Core.Path.{◌≡◌, ap, refl, ◌∙◌}
use mathlib.Core.Bool.{Bool, ◌&&◌, cond, false, true}
use mathlib.Core.List.{List, [], ◌∷◌}
use mathlib.Mathlib.Logic.Function.Defs.{LeftInverse-Injective}
use lib.IntN.{ℤ}
use lib.Dec.{eqb}
use lib.ListN.{get_or, length}
use Rattle.std.specs.Prelude.{Result, Ok, Err}
use Rattle.game.specs.Lists.{bit}
use Rattle.game.specs.Keys.{key_numbers}
use Rattle.game.specs.Calls.{Answer, ListOutcome, Outcome, named_by, number_of, refuses}
use Rattle.refusals.specs.Names.{named}
use Rattle.refusals.specs.declared.Refusal.{Refusal}
use Rattle.refusals.specs.declared.Refusal.TheVariants.{Shape, Board, Work, Trace, Rounds, Draws, Move, Frame, Size, File, Number, Key}
use Rattle.refusals.proofs.ReadBack.{answer_same, read_back, refused_back}
use Rattle.keys.specs.Stands.{key_of}
use Rattle.kinds.specs.Numbers.{ending_number}
use Rattle.kinds.specs.declared.Ending.{Ending}
use Rattle.kinds.specs.declared.Ending.TheVariants.{Unfinished, Won, Lost}
use Rattle.answers.specs.Answers.{Keeps, KeepsList, counted_answer, judged_answer, key_rolled_answer, replayed_answer, rolled_answer}
use Rattle.answers.specs.declared.Played.{Played}
use Rattle.answers.specs.declared.Unplayed.{Unplayed}
use Rattle.answers.specs.declared.Unplayed.TheVariants as Unplays
use Rattle.answers.specs.declared.Roll.{Roll}
use Rattle.answers.specs.declared.KeyRoll.{KeyRoll}
use Rattle.answers.proofs.Promises.{keeps_once, list_once}

-- ---- what each call answers is read back

-- no refusal of that name has the number of MOVE and a place
no_place : (f : Refusal) → (eqb (number_of (named f)) 7 && eqb (length (named_by (named f))) 1) ≡ false
no_place Shape = refl
no_place Board = refl
no_place Work = refl
no_place Trace = refl
no_place Rounds = refl
no_place Draws = refl
no_place Move = refl
no_place Frame = refl
no_place Size = refl
no_place File = refl
no_place (Number cell) = refl
no_place Key = refl

counted_same : (r r' : Result ℕ Refusal) → counted_answer r ≡ counted_answer r' → r ≡ r'
counted_same = answer_same (λ n. n ∷ []) (λ vs. get_or vs 0 0) (λ n. refl)

judged_same : (r r' : Result Bool Refusal) → judged_answer r ≡ judged_answer r' → r ≡ r'
judged_same = answer_same (λ b. bit b ∷ []) (λ vs. eqb (get_or vs 0 0) 1) back
  where
    back : (b : Bool) → eqb (bit b) 1 ≡ b
    back true = refl
    back false = refl

rolled_same : (r r' : Result Roll Refusal) → rolled_answer r ≡ rolled_answer r' → r ≡ r'
rolled_same = answer_same (λ roll. roll.clicks ∷ roll.used ∷ []) (λ vs. record { clicks = get_or vs 0 0; used = get_or vs 1 0 }) (λ roll. refl)

key_rolled_same : (r r' : Result KeyRoll Refusal) → key_rolled_answer r ≡ key_rolled_answer r' → r ≡ r'
key_rolled_same = answer_same (λ roll. roll.clicks ∷ roll.used ∷ key_numbers (key_of roll.key)) given (λ roll. refl)
  where
    given : List ℕ → KeyRoll
    given vs =
        record { clicks = get_or vs 0 0; used = get_or vs 1 0; key = record { x = get_or vs 2 0; y = get_or vs 3 0; z = get_or vs 4 0; w = get_or vs 5 0; v = get_or vs 6 0; counter = get_or vs 7 0 } }

-- a replay: success by its values; of the refusals MOVE alone may have a place besides
replayed_same : (r r' : Result Played Unplayed) → replayed_answer r ≡ replayed_answer r' → r ≡ r'
replayed_same = LeftInverse-Injective read replayed_answer back
  where
    ending : ℕ → Ending
    ending n = cond (eqb n 0) Unfinished (cond (eqb n 1) Won Lost)

    played : List ℕ → Played
    played vs = record { made = get_or vs 0 0; closed = get_or vs 1 0; ending = ending (get_or vs 2 0) }

    read : Answer → Result Played Unplayed
    read a = cond (eqb a.number 7 && eqb (length a.values) 1) (Err (Unplays.Move (get_or a.values 0 0))) (read_back played Unplays.Refused a)

    ended : (e : Ending) → ending (ending_number e) ≡ e
    ended Unfinished = refl
    ended Won = refl
    ended Lost = refl

    back : (r : Result Played Unplayed) → read (replayed_answer r) ≡ r
    back (Ok p) = ap (λ (e : Ending). Ok (record { made = p.made; closed = p.closed; ending = e })) (ended p.ending)
    back (Err (Unplays.Move k)) = refl
    back (Err (Unplays.Refused f)) =
        ap (λ (b : Bool). cond b (Err (Unplays.Move (get_or (named_by (named f)) 0 0))) (read_back played Unplays.Refused (refuses (named f)))) (no_place f) ∙ refused_back played Unplays.Refused f

-- ---- one answer and one end of each lent run

-- the 3BV count
pub counted_once : (p : Outcome) (r r' : Result ℕ Refusal) (w w' : List ℤ) → Keeps p (counted_answer r) w → Keeps p (counted_answer r') w' → (r ≡ r') × (w ≡ w')
counted_once p r r' w w' k k' = let e = keeps_once p (counted_answer r) (counted_answer r') w w' k k' in (counted_same r r' e.0, e.1)

-- the early count
pub judged_once : (p : Outcome) (r r' : Result Bool Refusal) (w w' : List ℤ) → Keeps p (judged_answer r) w → Keeps p (judged_answer r') w' → (r ≡ r') × (w ≡ w')
judged_once p r r' w w' k k' = let e = keeps_once p (judged_answer r) (judged_answer r') w w' k k' in (judged_same r r' e.0, e.1)

-- greedy and openings-first
pub priced_once : (p : ListOutcome) (r r' : Result ℕ Refusal) (w w' : List ℤ) (l l' : List ℕ) → KeepsList p (counted_answer r) w l → KeepsList p (counted_answer r') w' l' → (r ≡ r') × (w ≡ w') × (l ≡ l')
priced_once p r r' w w' l l' k k' =
    let e = list_once p (counted_answer r) (counted_answer r') w w' l l' k k' in (counted_same r r' e.0, e.1, e.2)

-- a single random round
pub rolled_once : (p : ListOutcome) (r r' : Result Roll Refusal) (w w' : List ℤ) (l l' : List ℕ) → KeepsList p (rolled_answer r) w l → KeepsList p (rolled_answer r') w' l' → (r ≡ r') × (w ≡ w') × (l ≡ l')
rolled_once p r r' w w' l l' k k' =
    let e = list_once p (rolled_answer r) (rolled_answer r') w w' l l' k k' in (rolled_same r r' e.0, e.1, e.2)

-- random search
pub searched_once : (p : Outcome) (r r' : Result Roll Refusal) (w w' : List ℤ) → Keeps p (rolled_answer r) w → Keeps p (rolled_answer r') w' → (r ≡ r') × (w ≡ w')
searched_once p r r' w w' k k' = let e = keeps_once p (rolled_answer r) (rolled_answer r') w w' k k' in (rolled_same r r' e.0, e.1)

-- a keyed round
pub key_rolled_once : (p : ListOutcome) (r r' : Result KeyRoll Refusal) (w w' : List ℤ) (l l' : List ℕ) → KeepsList p (key_rolled_answer r) w l → KeepsList p (key_rolled_answer r') w' l' → (r ≡ r') × (w ≡ w') × (l ≡ l')
key_rolled_once p r r' w w' l l' k k' =
    let e = list_once p (key_rolled_answer r) (key_rolled_answer r') w w' l l' k k' in (key_rolled_same r r' e.0, e.1, e.2)

-- a keyed search
pub key_searched_once : (p : Outcome) (r r' : Result KeyRoll Refusal) (w w' : List ℤ) → Keeps p (key_rolled_answer r) w → Keeps p (key_rolled_answer r') w' → (r ≡ r') × (w ≡ w')
key_searched_once p r r' w w' k k' =
    let e = keeps_once p (key_rolled_answer r) (key_rolled_answer r') w w' k k' in (key_rolled_same r r' e.0, e.1)

-- replay
pub replayed_once : (p : Outcome) (r r' : Result Played Unplayed) (w w' : List ℤ) → Keeps p (replayed_answer r) w → Keeps p (replayed_answer r') w' → (r ≡ r') × (w ≡ w')
replayed_once p r r' w w' k k' = let e = keeps_once p (replayed_answer r) (replayed_answer r') w w' k k' in (replayed_same r r' e.0, e.1)
