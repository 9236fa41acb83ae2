-- The cells that pass a test, in index order: which they are, the first of them, the one at a place. Assumes nothing.
use Rattle.std.specs.Prelude.{Some, None}
use Prim.Native.Nat.{ℕ, ◌+◌, ◌-◌, ◌<◌, ◌≤◌, suc, zero}
use native.Mathlib.Omega.{arith}
use native.Mathlib.Decide.{ℕ_discrete, dec_lt}
use mathlib.Core.Path.{◌∙◌, ◌≡◌, ap, refl, subst, sym}
use mathlib.Core.Bool.{Bool, false, true}
use mathlib.Core.List.{List, ◌∷◌}
use lib.Dec.{T}
use lib.ListN.{get_or-eq_default, get_or}
use Rattle.choices.specs.Picks.{found_first}
use Rattle.game.specs.Lists.{bit, count, from, keep, range}
use Rattle.game.proofs.Counts.{count_none, length_keep}
use Rattle.game.proofs.Members.{has_from, has_range, keep_has, none_there}

-- ---- lists in index order

-- ---- the first that passes

pub found_none : (f : ℕ → Bool) (n : ℕ) → ((j : ℕ) → j < n → T (f j) → ⊥) → None ≡ found_first (keep f (range 0 n))
found_none f n h =
    sym (ap found_first (none_there (keep f (range 0 n)) (λ x t. let k = keep_has f x (range 0 n) t in h x (has_range 0 n x k.0).1 k.1)))

found_from : (f : ℕ → Bool) (n a i : ℕ) → a ≤ i → i < a + n → T (f i) → ((j : ℕ) → a ≤ j → j < i → T (f j) → ⊥) → Some i ≡ found_first (keep f (from a n))
found_from f zero a i h k t b = absurd (omega arith)
found_from f (suc n) a i h k t b = go (f a) refl (λ l. found_from f n (suc a) i l (omega arith) t (λ j q. b j (omega arith)))
  where
    go : (c : Bool) → f a ≡ c → (a < i → Some i ≡ found_first (keep f (from (suc a) n))) → Some i ≡ found_first (elim c [ true ↦ a ∷ keep f (from (suc a) n) | false ↦ keep f (from (suc a) n) ])
    go true e r = elim (dec_lt a i) [ yes l ↦ absurd (b a (omega arith) l (rw e tt)) | no l ↦ ap Some (omega arith) ]
    go false e r = elim (ℕ_discrete i a) [ yes q ↦ absurd (subst T (ap f q ∙ e) t) | no q ↦ r (omega arith) ]

pub found_at : (f : ℕ → Bool) (n i : ℕ) → i < n → T (f i) → ((j : ℕ) → j < i → T (f j) → ⊥) → Some i ≡ found_first (keep f (range 0 n))
found_at f n i h t b = found_from f (n - 0) 0 i (omega arith) (omega arith) t (λ j q. b j)

-- ---- the one at a place

kept_from : (f : ℕ → Bool) (n a i k : ℕ) → a ≤ i → i < a + n → T (f i) → k ≡ count f (from a (i - a)) → i ≡ get_or (keep f (from a n)) k 0
kept_from f zero a i k h l t e = absurd (omega arith)
kept_from f (suc n) a i k h l t e =
    elim (ℕ_discrete i a) [
      | yes q ↦ here (f a) (subst T (ap f q) t) q (e ∙ ap (λ (m : ℕ). count f (from a m)) (none i a q))
      | no q ↦ there (f a) (e ∙ ap (λ (m : ℕ). count f (from a m)) (one i a (omega arith)))
          (λ m p. kept_from f n (suc a) i m (omega arith) (omega arith) t p)
    ]
  where
    none : (i a : ℕ) → i ≡ a → i - a ≡ 0
    none i a q = omega arith

    one : (i a : ℕ) → a < i → i - a ≡ suc (i - suc a)
    one i a q = omega arith

    here : (b : Bool) → T b → i ≡ a → k ≡ 0 → i ≡ get_or (elim b [ true ↦ a ∷ keep f (from (suc a) n) | false ↦ keep f (from (suc a) n) ]) k 0
    here true u q z = rw z q
    here false u q z = absurd u

    there : (b : Bool) → k ≡ bit b + count f (from (suc a) (i - suc a)) → ((m : ℕ) → m ≡ count f (from (suc a) (i - suc a)) → i ≡ get_or (keep f (from (suc a) n)) m 0)
        → i ≡ get_or (elim b [ true ↦ a ∷ keep f (from (suc a) n) | false ↦ keep f (from (suc a) n) ]) k 0
    there true z r =
        let m : k ≡ suc (count f (from (suc a) (i - suc a))) = omega arith in
        rw m (r (count f (from (suc a) (i - suc a))) refl)
    there false z r = r k (omega arith)

pub kept_at : (f : ℕ → Bool) (n i k : ℕ) → i < n → T (f i) → k ≡ count f (range 0 i) → i ≡ get_or (keep f (range 0 n)) k 0
kept_at f n i k h t e = kept_from f (n - 0) 0 i k (omega arith) (omega arith) t e

pub kept_past : (f : ℕ → Bool) (n k : ℕ) → count f (range 0 n) ≤ k → 0 ≡ get_or (keep f (range 0 n)) k 0
kept_past f n k h = sym (get_or-eq_default (keep f (range 0 n)) 0 (omega (arith, length_keep f (range 0 n))))

-- ---- the first of a run

pub first-at : (f : ℕ → Bool) (a b i : ℕ) → a ≤ i → i < b → T (f i) → ((j : ℕ) → a ≤ j → j < i → T (f j) → ⊥) → i ≡ get_or (keep f (range a b)) 0 0
first-at f a b i h k t n =
    kept_from f (b - a) a i 0 h (omega arith) t
    (sym (count_none f (from a (i - a)) (λ j u v. let r = has_from (i - a) a j u in n j r.0 (omega (arith, r.1)) v)))

pub first_none : (f : ℕ → Bool) (a b : ℕ) → ((j : ℕ) → a ≤ j → j < b → T (f j) → ⊥) → 0 ≡ get_or (keep f (range a b)) 0 0
first_none f a b n =
    sym (ap (λ (l : List ℕ). get_or l 0 0)
    (none_there (keep f (range a b)) (λ x t. let k = keep_has f x (range a b) t in let r = has_range a b x k.0 in n x r.0 r.1 k.1)))

-- the place i lies in a run from a on, the cell there passes, and none before it does
abbrev First : (ℕ → Bool) → ℕ → ℕ → ℕ → Type 0
First f a b i = (a ≤ i) × (i < b) × T (f i) × ((j : ℕ) → a ≤ j → j < i → T (f j) → ⊥)

first-from : (f : ℕ → Bool) (n a b x : ℕ) → a ≤ x → x < b → b ≡ a + n → T (f x) → First f a b (get_or (keep f (from a n)) 0 0)
first-from f zero a b x h k e t = absurd (omega arith)
first-from f (suc n) a b x h k e t = split (f a) refl (λ l. first-from f n (suc a) b x l k (omega arith) t)
  where
    split : (c : Bool) → f a ≡ c → (suc a ≤ x → First f (suc a) b (get_or (keep f (from (suc a) n)) 0 0))
        → First f a b (get_or (elim c [ true ↦ a ∷ keep f (from (suc a) n) | false ↦ keep f (from (suc a) n) ]) 0 0)
    split true q r = (omega arith, omega arith, subst T (sym q) tt, λ j l m u. absurd (omega arith))
    split false q r =
        let later : suc a ≤ x = elim (ℕ_discrete x a) [ yes z ↦ absurd (subst T q (subst (λ (i : ℕ). T (f i)) z t)) | no z ↦ omega arith ] in
        let there = r later in (
          omega (arith, there.0),
          there.1,
          there.2,
          λ j l m u. elim (ℕ_discrete j a) [
            | yes z ↦ subst T q (subst (λ (i : ℕ). T (f i)) z u)
            | no z ↦ there.3 j (omega arith) m u
          ],
        )

-- where one passes, the first lies in the run
pub first_there : (f : ℕ → Bool) (a b x : ℕ) → a ≤ x → x < b → T (f x) → First f a b (get_or (keep f (range a b)) 0 0)
first_there f a b x h k t = first-from f (b - a) a b x h k (omega arith) t
