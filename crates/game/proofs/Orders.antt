-- Lists in an order, each before all that follow it; such a list has no repeats, and what has none of numbers below n has at most n. Assumes nothing.
use Prim.Native.Nat.{ℕ, ◌-◌, ◌<◌, ◌≤◌, suc, zero}
use native.Mathlib.Omega.{arith}
use mathlib.Core.Path.{◌∙◌, ◌≡◌, ap, ap₂, refl, subst, sym}
use mathlib.Core.Logic.{⊎_elim}
use mathlib.Core.Bool.{Bool, ◌&&◌, false, true}
use mathlib.Core.List.{List, [], ◌++◌, ◌∷◌, map}
use lib.Dec.{T}
use lib.ListN.{length}
use Rattle.game.specs.Lists.{concat_map, count, from, has, keep, range}
use Rattle.game.proofs.Counts.{Once, count_le, count_once}
use Rattle.game.proofs.Members.{concat_map_has, first_of, has_append_cases, has_cases, has_from, has_head, has_tail, keep_has, length_from, map_has, none_there, range_has, rest_of}

-- each is before all that follow it
abbrev pub Ordered : (ℕ → ℕ → Type 0) → List ℕ → Type 0
Ordered R [] = Unit {0}
Ordered R (x ∷ xs) = ((y : ℕ) → T (has y xs) → R x y) × Ordered R xs

pub ordered_once : (R : ℕ → ℕ → Type 0) (xs : List ℕ) → ((x : ℕ) → R x x → ⊥) → Ordered R xs → Once xs
ordered_once R [] n o = tt
ordered_once R (x ∷ xs) n o = ((λ t. n x (o.0 x t)), ordered_once R xs n o.1)

ordered_from : (n a : ℕ) → Ordered ◌<◌ (from a n)
ordered_from zero a = tt
ordered_from (suc n) a = ((λ y t. (has_from n (suc a) y t).0), ordered_from n (suc a))

pub ordered_range : (a b : ℕ) → Ordered ◌<◌ (range a b)
ordered_range a b = ordered_from (b - a) a

pub once_range : (a b : ℕ) → Once (range a b)
once_range a b = ordered_once ◌<◌ (range a b) (λ x h. omega arith) (ordered_range a b)

-- two lists in order with the same members are the same
pub ordered_same : (xs ys : List ℕ) → Ordered ◌<◌ xs → Ordered ◌<◌ ys → ((x : ℕ) → T (has x xs) → T (has x ys)) → ((x : ℕ) → T (has x ys) → T (has x xs)) → xs ≡ ys
ordered_same [] ys o p h l = sym (none_there ys l)
ordered_same (x ∷ xs) [] o p h l = absurd (first_of x xs h)
ordered_same (x ∷ xs) (y ∷ ys) o p h l =
    ap₂ (λ a b. a ∷ b) same_first (ordered_same xs ys o.1 p.1
    (λ z t. has_cases z y ys (λ e. absurd (omega (arith, o.0 z t, same_first))) (λ u. u) (rest_of x xs h z t))
    (λ z t. has_cases z x xs (λ e. absurd (omega (arith, p.0 z t, same_first))) (λ u. u) (rest_of y ys l z t)))
  where
    same_first : x ≡ y
    same_first =
        has_cases x y ys (λ e. e) (λ t. has_cases y x xs (λ e. sym e) (λ u. absurd (omega (arith, o.0 y u, p.0 x t))) (first_of y ys l)) (first_of x xs h)

pub ordered_keep : (R : ℕ → ℕ → Type 0) (f : ℕ → Bool) (xs : List ℕ) → Ordered R xs → Ordered R (keep f xs)
ordered_keep R f [] o = tt
ordered_keep R f (x ∷ xs) o = go (f x) (ordered_keep R f xs o.1)
  where
    go : (b : Bool) → Ordered R (keep f xs) → Ordered R (elim b [ true ↦ x ∷ keep f xs | false ↦ keep f xs ])
    go true k = ((λ y t. o.0 y (keep_has f y xs t).0), k)
    go false k = k

pub once_keep : (f : ℕ → Bool) (xs : List ℕ) → Once xs → Once (keep f xs)
once_keep f [] o = tt
once_keep f (x ∷ xs) o = go (f x) (once_keep f xs o.1)
  where
    go : (b : Bool) → Once (keep f xs) → Once (elim b [ true ↦ x ∷ keep f xs | false ↦ keep f xs ])
    go true k = ((λ t. o.0 (keep_has f x xs t).0), k)
    go false k = k

pub ordered_map : (R S : ℕ → ℕ → Type 0) (f : ℕ → ℕ) (xs : List ℕ) → ((x y : ℕ) → R x y → S (f x) (f y)) → Ordered R xs → Ordered S (map f xs)
ordered_map R S f [] h o = tt
ordered_map R S f (x ∷ xs) h o =
    ((λ y t. let w = map_has f y xs t in subst (S (f x)) (sym w.2) (h x w.0 (o.0 w.0 w.1))), ordered_map R S f xs h o.1)

ordered_append : (R : ℕ → ℕ → Type 0) (xs ys : List ℕ) → Ordered R xs → Ordered R ys → ((x y : ℕ) → T (has x xs) → T (has y ys) → R x y) → Ordered R (xs ++ ys)
ordered_append R [] ys o p d = p
ordered_append R (x ∷ xs) ys o p d = (
  (λ y t. ⊎_elim (λ u. o.0 y u) (λ u. d x y (has_head x x xs refl) u) (has_append_cases y xs ys t)),
  ordered_append R xs ys o.1 p (λ z y t u. d z y (has_tail z x xs t) u),
)

pub ordered_concat_map : (R S : ℕ → ℕ → Type 0) (f : ℕ → List ℕ) (xs : List ℕ) → Ordered R xs → ((x : ℕ) → T (has x xs) → Ordered S (f x))
    → ((x y z w : ℕ) → T (has x xs) → T (has y xs) → R x y → T (has z (f x)) → T (has w (f y)) → S z w) → Ordered S (concat_map f xs)
ordered_concat_map R S f [] o h d = tt
ordered_concat_map R S f (x ∷ xs) o h d =
    ordered_append S (f x) (concat_map f xs) (first_of x xs h)
    (ordered_concat_map R S f xs o.1 (rest_of x xs h) (λ y q z w t u. d y q z w (has_tail y x xs t) (has_tail q x xs u)))
    (λ z w t u. let k = concat_map_has f w xs u in
    d x k.0 z w (has_head x x xs refl) (has_tail k.0 x xs k.1) (o.0 k.0 k.1) t k.2)

-- ---- no repeats

-- images that lead back have no repeats
pub once_map : (f back : ℕ → ℕ) (xs : List ℕ) → ((x : ℕ) → T (has x xs) → back (f x) ≡ x) → Once xs → Once (map f xs)
once_map f back [] h o = tt
once_map f back (x ∷ xs) h o = (again, once_map f back xs (rest_of x xs h) o.1)
  where
    again : T (has (f x) (map f xs)) → ⊥
    again t =
        let w = map_has f (f x) xs t in
        o.0 (subst (λ (y : ℕ). T (has y xs)) (sym (h w.0 (has_tail w.0 x xs w.1)) ∙ ap back (sym w.2) ∙ first_of x xs h) w.1)

-- numbers below n without repeats are at most n
pub pigeonhole : (n : ℕ) (xs : List ℕ) → Once xs → ((x : ℕ) → T (has x xs) → x < n) → length xs ≤ n
pigeonhole n xs o h =
    let c = count_once (λ x. true) xs (range 0 n) o (once_range 0 n) (λ x t. range_has 0 n x (omega arith) (h x t)) in
    let l = count_le (λ j. has j xs && true) (range 0 n) in
    omega (arith, count_all xs, length_from (n - 0) 0)
  where
    count_all : (ys : List ℕ) → count (λ y. true) ys ≡ length ys
    count_all [] = refl
    count_all (y ∷ ys) = omega (arith, count_all ys)
