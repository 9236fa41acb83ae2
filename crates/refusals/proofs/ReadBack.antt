-- A refusal is read back from its number and what it names, so there is only one verdict of checks, and what a call answers is read back from its number and values. Assumes nothing.
use Prim.Native.Nat.{ℕ, ◌≤◌}
use native.Mathlib.Omega.{arith}
use mathlib.Core.Path.{◌≡◌, ap, refl, sym, ◌∙◌}
use mathlib.Core.Bool.{Bool, cond}
use mathlib.Core.List.{List}
use mathlib.Core.Option.{Option, none, some}
use mathlib.Mathlib.Logic.Function.Defs.{LeftInverse-Injective}
use borrow.Author.Tests.{ne_eqb}
use lib.Dec.{eqb}
use lib.ListN.{get_or, length}
use Rattle.game.specs.Calls.{Answer, board, draws, file_wrong, frame, key_blank, move, named_by, number_wrong, number_of, refuses, rounds, shape, size_over, trace, work}
use Rattle.game.specs.Calls as Game
use Rattle.game.proofs.Checks.{numbered}
use Rattle.std.specs.Prelude.{Result, Ok, Err}
use Rattle.refusals.specs.Names.{answer_of, named, refusal_of}
use Rattle.refusals.specs.declared.Refusal.{Refusal}
use Rattle.refusals.specs.declared.Refusal.TheVariants.{Shape, Board, Work, Trace, Rounds, Draws, Move, Frame, Size, File, Number, Key}

-- the refusal of an answer
abbrev pub refusal_by : Answer → Refusal
refusal_by a =
    let n = a.number in
    cond (eqb n 1) Shape (cond (eqb n 2) Board (cond (eqb n 3) Work (cond (eqb n 4) Trace (cond (eqb n 5) Rounds (cond (eqb n 6) Draws (cond (eqb n 7) Move (cond (eqb n 8) Frame (cond (eqb n 9) Size (cond (eqb n 10) File (cond (eqb n 11) (Number (get_or a.values 0 0)) Key))))))))))

-- a refusal is read back from its number and what it names
pub number_back : (f : Refusal) → refusal_by (refuses (named f)) ≡ f
number_back Shape = refl
number_back Board = refl
number_back Work = refl
number_back Trace = refl
number_back Rounds = refl
number_back Draws = refl
number_back Move = refl
number_back Frame = refl
number_back Size = refl
number_back File = refl
number_back (Number cell) = refl
number_back Key = refl

-- a refusal names one thing at most
pub names_one : (f : Game.Refusal) → length (named_by f) ≤ 1
names_one shape = omega arith
names_one board = omega arith
names_one work = omega arith
names_one trace = omega arith
names_one rounds = omega arith
names_one draws = omega arith
names_one move = omega arith
names_one frame = omega arith
names_one size_over = omega arith
names_one file_wrong = omega arith
names_one (number_wrong cell) = omega arith
names_one key_blank = omega arith

-- the checks' verdict: the refusal determines it
pub checked_once : (o : Option Game.Refusal) (r r' : Result Unit Refusal) → refusal_of r ≡ o → refusal_of r' ≡ o → r ≡ r'
checked_once o r r' e e' = LeftInverse-Injective checked_by refusal_of back r r' (e ∙ sym e')
  where
    checked_by : Option Game.Refusal → Result Unit Refusal
    checked_by none = Ok tt
    checked_by (some f) = Err (refusal_by (refuses f))

    back : (r : Result Unit Refusal) → checked_by (refusal_of r) ≡ r
    back (Ok x) = refl
    back (Err f) = ap Err (number_back f)

-- what a call answers, from its number and values: success by the values, a refusal by its number and what it names
abbrev pub read_back : {A E : Type 0} → (List ℕ → A) → (Refusal → E) → Answer → Result A E
read_back given refused a = cond (eqb a.number 0) (Ok (given a.values)) (Err (refused (refusal_by a)))

pub refused_back : {A E : Type 0} (given : List ℕ → A) (refused : Refusal → E) (f : Refusal) → read_back given refused (refuses (named f)) ≡ Err (refused f)
refused_back given refused f =
    let h = numbered (named f) in
    ap (λ (b : Bool). cond b (Ok (given (refuses (named f)).values)) (Err (refused (refusal_by (refuses (named f)))))) (ne_eqb (number_of (named f)) 0 (λ e. omega arith)) ∙ ap (λ (x : Refusal). Err (refused x)) (number_back f)

-- an answer determines what was given or the refusal, where what is given is read back from its values
pub answer_same : {A : Type 0} (values : A → List ℕ) (given : List ℕ → A) → ((x : A) → given (values x) ≡ x) → (r r' : Result A Refusal) → answer_of values r ≡ answer_of values r' → r ≡ r'
answer_same {A} values given back = LeftInverse-Injective (read_back given (λ (f : Refusal). f)) (answer_of values) whole
  where
    whole : (r : Result A Refusal) → read_back given (λ (f : Refusal). f) (answer_of values r) ≡ r
    whole (Ok x) = ap Ok (back x)
    whole (Err f) = refused_back given (λ (f : Refusal). f) f
