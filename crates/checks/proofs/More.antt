-- Some checks after others, and one check more: a value below its least. Assumes nothing.
use Prim.Native.Nat.{ℕ, ◌<◌, ◌≤◌}
use native.Mathlib.Omega.{arith}
use native.Mathlib.Decide.{dec_le, ℕ_discrete}
use mathlib.Core.Path.{◌≡◌, ap, refl, sym, ◌∙◌}
use mathlib.Core.Bool.{Bool, false, true}
use mathlib.Core.List.{List, [], ◌∷◌, ◌++◌}
use mathlib.Core.Option.{Option, some-ne-none, none, some}
use lib.Dec.{eqb, ltb}
use borrow.Author.Tests.{eq-eqb, le-ltb, lt-ltb, ne_eqb}
use Rattle.game.specs.Calls.{Check, Refusal, first_given}
use Rattle.game.proofs.Checks.{first_decides, others_decide}

-- the check that a value reaches its least
abbrev pub reaches : ℕ → ℕ → Refusal → List Check
reaches value least f = record { given = ltb value least; refusal = f } ∷ []

pub first_stands : (cs ds : List Check) (f : Refusal) → some f ≡ first_given cs → some f ≡ first_given (cs ++ ds)
first_stands cs ds f e = sym (first_decides cs ds f (sym e))

pub last_decides : (cs ds : List Check) → none ≡ first_given cs → first_given ds ≡ first_given (cs ++ ds)
last_decides cs ds e = sym (others_decide cs ds (sym e))

-- the verdict of one check by its test
abbrev alone : Refusal → Bool → Option Refusal
alone f b = first_given (record { given = b; refusal = f } ∷ [])

-- after checks that refuse nothing a test that holds gives its refusal
pub one_given : (cs : List Check) (b : Bool) (f : Refusal) → none ≡ first_given cs → b ≡ true → some f ≡ first_given (cs ++ record { given = b; refusal = f } ∷ [])
one_given cs b f e h = ap (alone f) (sym h) ∙ last_decides cs (record { given = b; refusal = f } ∷ []) e

-- and one that fails does not
pub one_passed : (cs : List Check) (b : Bool) (f : Refusal) → none ≡ first_given cs → b ≡ false → none ≡ first_given (cs ++ record { given = b; refusal = f } ∷ [])
one_passed cs b f e h = ap (alone f) (sym h) ∙ last_decides cs (record { given = b; refusal = f } ∷ []) e

pub too_low : (cs : List Check) (a b : ℕ) (f : Refusal) → none ≡ first_given cs → a < b → some f ≡ first_given (cs ++ reaches a b f)
too_low cs a b f e h = one_given cs (ltb a b) f e (lt-ltb a b h)

pub enough : (cs : List Check) (a b : ℕ) (f : Refusal) → none ≡ first_given cs → b ≤ a → none ≡ first_given (cs ++ reaches a b f)
enough cs a b f e h = one_passed cs (ltb a b) f e (le-ltb a b h)

-- where the checks refuse nothing, the first of them refuse nothing
pub first_none : (cs ds : List Check) → first_given (cs ++ ds) ≡ none → first_given cs ≡ none
first_none cs ds e = go (first_given cs) (λ f h. first_stands cs ds f h) e
  where
    go : (o : Option Refusal) → ((f : Refusal) → some f ≡ o → some f ≡ first_given (cs ++ ds)) → first_given (cs ++ ds) ≡ none → o ≡ none
    go none k e = refl
    go (some f) k e = absurd (some-ne-none _ (k f refl ∙ e))

-- and the value reaches its least
pub reached : (cs : List Check) (a b : ℕ) (f : Refusal) → first_given (cs ++ reaches a b f) ≡ none → b ≤ a
reached cs a b f e =
    elim (dec_le b a) [
      | yes h ↦ h
      | no h ↦ absurd (some-ne-none _ (too_low cs a b f (sym (first_none cs (reaches a b f) e)) (omega arith) ∙ e))
    ]

-- 0 is what lies below 1
pub none_below : (n : ℕ) → ltb n 1 ≡ eqb n 0
none_below n =
    elim (ℕ_discrete n 0) [
      | yes e ↦ lt-ltb n 1 (omega arith) ∙ sym (eq-eqb n 0 e)
      | no e ↦ le-ltb n 1 (omega arith) ∙ sym (ne_eqb n 0 e)
    ]
