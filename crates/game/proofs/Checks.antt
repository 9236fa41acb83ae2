-- A side that passes lies within the limits; the verdict of some checks after others: the first that is given decides; a refusal's number isn't 0, and an answer that isn't DRAWS is told by its number. Assumes nothing.
use Prim.Native.Nat.{ℕ, ◌≤◌}
use native.Mathlib.Omega.{arith}
use mathlib.Core.Path.{◌∙◌, ◌≡◌, ap, refl}
use mathlib.Core.Bool.{Bool, false, true}
use mathlib.Core.List.{List, [], ◌++◌, ◌∷◌}
use mathlib.Core.Option.{Option, some-ne-none, none, some}
use borrow.Author.Tests.{eqb-false, ltb-false}
use lib.Dec.{eqb, ltb}
use Rattle.game.specs.Calls.{Answer, Check, Refusal, board, draws, file_wrong, first_given, frame, key_blank, move, number_wrong, number_of, refuses, rounds, shape, side_out, size_over, trace, work}
use Rattle.game.specs.Lists.{Each}
use Rattle.game.proofs.Draws.{IfSome}
use Rattle.game.proofs.Truth.{or_no}

-- a side that is not out lies within the limits
pub side_in : (n : ℕ) → side_out n ≡ false → (1 ≤ n) × (n ≤ 255)
side_in n e =
    let h = or_no (eqb n 0) (ltb 255 n) e in
    let f = eqb-false n 0 h.0 in
    (omega arith, ltb-false 255 n h.1)

-- the verdict of the first checks, or else of the last
unfoldable pub or_else : Option Refusal → Option Refusal → Option Refusal
or_else none o = o
or_else (some f) o = some f

pub given_append : (cs ds : List Check) → first_given (cs ++ ds) ≡ or_else (first_given cs) (first_given ds)
unfolding or_else
given_append [] ds = refl
given_append (c ∷ cs) ds = go c.given (given_append cs ds)
  where
    go : (b : Bool) → first_given (cs ++ ds) ≡ or_else (first_given cs) (first_given ds)
        → ◌≡◌ {A = Option Refusal} (elim b [ true ↦ some c.refusal | false ↦ first_given (cs ++ ds) ])
        (or_else (elim b [ true ↦ some c.refusal | false ↦ first_given cs ]) (first_given ds))
    go true r = refl
    go false r = r

-- a refusal of the first checks stands
pub first_decides : (cs ds : List Check) (f : Refusal) → first_given cs ≡ some f → first_given (cs ++ ds) ≡ some f
unfolding or_else
first_decides cs ds f e = given_append cs ds ∙ ap (λ (o : Option Refusal). or_else o (first_given ds)) e

-- after checks that give no refusal the others decide
pub others_decide : (cs ds : List Check) → first_given cs ≡ none → first_given (cs ++ ds) ≡ first_given ds
unfolding or_else
others_decide cs ds e = given_append cs ds ∙ ap (λ (o : Option Refusal). or_else o (first_given ds)) e

-- the verdict is the refusal of one of the checks: what holds of each of theirs holds of it
pub given_each : (P : Refusal → Type 0) (cs : List Check) → Each (λ (c : Check). P c.refusal) cs → IfSome P (first_given cs)
given_each P [] h = tt
given_each P (c ∷ cs) h = go c.given (given_each P cs h.1)
  where
    go : (b : Bool) → IfSome P (first_given cs) → IfSome P (elim b [ true ↦ some c.refusal | false ↦ first_given cs ])
    go true r = h.0
    go false r = r

-- no refusal's number is 0
pub numbered : (f : Refusal) → 1 ≤ number_of f
numbered shape = omega arith
numbered board = omega arith
numbered work = omega arith
numbered trace = omega arith
numbered rounds = omega arith
numbered draws = omega arith
numbered move = omega arith
numbered frame = omega arith
numbered size_over = omega arith
numbered file_wrong = omega arith
numbered (number_wrong cell) = omega arith
numbered key_blank = omega arith

-- another refusal than DRAWS
abbrev pub NotDraws : Refusal → Type 0
NotDraws f = number_of f ≡ 6 → ⊥

-- an answer whose number isn't 6 is no DRAWS
pub no_draws : (a : Answer) → (a.number ≡ 6 → ⊥) → a ≡ refuses draws → ⊥
no_draws a h e = h (ap (λ (x : Answer). x.number) e)

-- the test of a check fails
abbrev pub Fails : Check → Type 0
Fails c = c.given ≡ false

-- where no refusal is given, each test fails
pub each_fails : (cs : List Check) → first_given cs ≡ none → Each Fails cs
each_fails [] e = tt
each_fails (c ∷ cs) e = go c.given refl (λ h. each_fails cs h) e
  where
    go : (b : Bool) → c.given ≡ b → (first_given cs ≡ none → Each Fails cs)
        → ◌≡◌ {A = Option Refusal} (elim b [ true ↦ some c.refusal | false ↦ first_given cs ]) none → Each Fails (c ∷ cs)
    go true q r h = absurd (some-ne-none _ h)
    go false q r h = (q, r h)

-- where each test fails, no refusal is given
pub none_given : (cs : List Check) → Each Fails cs → first_given cs ≡ none
none_given [] h = refl
none_given (c ∷ cs) h =
    ap (λ (b : Bool). elim b [ true ↦ some c.refusal | false ↦ first_given cs ]) h.0 ∙ none_given cs h.1
