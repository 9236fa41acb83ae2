-- Computed tests: what holds of `T`, `&&`, `||` and `not`, each by the cases of its tests. Assumes nothing.
use Prim.Native.Nat.{ℕ}
use mathlib.Core.Path.{◌≡◌, refl, subst, sym}
use mathlib.Core.Logic.{◌⊎◌, inl, inr}
use mathlib.Core.Bool.{Bool, ◌&&◌, ◌||◌, cond, false, not, true}
use lib.Dec.{T, not_T}

pub or_left : (a b : Bool) → T a → T (a || b)
or_left true b t = tt
or_left false b t = absurd t

pub or_right : (a b : Bool) → T b → T (a || b)
or_right true b t = tt
or_right false b t = t

pub or_cases : (a b : Bool) → T (a || b) → T a ⊎ T b
or_cases true b t = inl tt
or_cases false b t = inr t

-- neither of two tests passes
pub or_no : (a b : Bool) → (a || b) ≡ false → (a ≡ false) × (b ≡ false)
or_no true b e = absurd (subst T e tt)
or_no false b e = (refl, e)

pub and_left : (a b : Bool) → T (a && b) → T a
and_left true b t = tt
and_left false b t = t

pub and_right : (a b : Bool) → T (a && b) → T b
and_right true b t = t
and_right false b t = absurd t

pub and_both : (a b : Bool) → T a → T b → T (a && b)
and_both true b s t = t
and_both false b s t = absurd s

pub and_yes : (a b : Bool) → (a && b) ≡ true → (a ≡ true) × (b ≡ true)
and_yes true b e = (refl, e)
and_yes false b e = absurd (subst T (sym e) tt)

pub and_no : (a b : Bool) → b ≡ false → (a && b) ≡ false
and_no true b e = e
and_no false b e = refl

pub T→true : (b : Bool) → T b → b ≡ true
T→true true t = refl
T→true false t = absurd t

pub T→false : (b : Bool) → T (not b) → b ≡ false
T→false true t = absurd t
T→false false t = refl

-- a test that cannot pass fails
pub no→false : (b : Bool) → (T b → ⊥) → b ≡ false
no→false b f = T→false b (not_T b f)

-- a fails, and b is its opposite: so b passes
pub T_other : (a b : Bool) → a ≡ not b → T (not a) → T b
T_other a true e t = tt
T_other a false e t = subst (λ (c : Bool). T (not c)) e t

-- two tests that pass together are the same
pub iff : (a b : Bool) → (T a → T b) → (T b → T a) → a ≡ b
iff true true h k = refl
iff true false h k = absurd (h tt)
iff false true h k = absurd (k tt)
iff false false h k = refl

-- a choice between two that are the same
pub cond_same : (b : Bool) (v : ℕ) → cond b v v ≡ v
cond_same true v = refl
cond_same false v = refl

pub and_true : (a : Bool) → a ≡ (a && true)
and_true true = refl
and_true false = refl

pub and_false : (a : Bool) → false ≡ (a && false)
and_false true = refl
and_false false = refl

-- the second test counts only where the first passes
pub and_under : (a b c : Bool) → (T a → b ≡ c) → (a && b) ≡ (a && c)
and_under true b c h = h tt
and_under false b c h = refl

-- a passes, and not without b: so b passes
pub and_not : (a b : Bool) → T a → (a && not b) ≡ false → T b
and_not true true t e = tt
and_not true false t e = subst T e tt
and_not false b t e = absurd t

pub not_or : (a b c : Bool) → (a && not b && not c) ≡ (a && not (b || c))
not_or true true c = refl
not_or true false c = refl
not_or false b c = refl

-- what a later test takes away, an earlier one may take first
pub absorb : (a b c : Bool) → (T b → T c) → (a && not b && not c) ≡ (a && not c)
absorb true true true h = refl
absorb true true false h = absurd (h tt)
absorb true false c h = refl
absorb false b c h = refl

pub and_inside : (a b c d : Bool) → (T a → c ≡ (b && not d)) → (a && b && not d) ≡ (a && c)
and_inside true b c d h = sym (h tt)
and_inside false b c d h = refl
