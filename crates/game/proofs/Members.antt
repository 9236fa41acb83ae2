-- What it is to be in a list, by the computed test `has`: each law by going down the list. Assumes nothing.
use Prim.Native.Nat.{ℕ, ◌*◌, ◌+◌, ◌-◌, ◌<◌, ◌≤◌, suc, zero}
use native.Mathlib.Omega.{arith}
use native.Mathlib.Decide.{ℕ_discrete}
use native.Mathlib.Nat.{add-sub_of_le, add-suc, add-zero, sub_self, sub-zero, suc-add, suc-mul, zero-add, zero-mul}
use mathlib.Core.Path.{◌∙◌, ◌≡◌, ap, ap₂, refl, sym}
use mathlib.Core.Logic.{◌⊎◌, inl, inr, ⊎_elim}
use mathlib.Core.Bool.{Bool, ◌||◌, false, not, true}
use mathlib.Core.List.{List, [], ◌++◌, ◌∷◌, append_assoc, append-nil, map}
use lib.Dec.{T, T_not, eqb, eqb_refl, eqb→eq}
use lib.ListN.{get_or, length}
use Rattle.game.specs.Lists.{Each, all_of, concat_map, fold, from, has, keep, range, some_of}
use Rattle.game.proofs.Truth.{T→true, and_both, and_left, and_right, or_cases, or_left, or_right}

-- ---- the first and the rest

pub has_head : (x y : ℕ) (xs : List ℕ) → x ≡ y → T (has x (y ∷ xs))
has_head x y xs e = or_left (eqb x y) (has x xs) (rw e (eqb_refl y))

pub has_tail : (x y : ℕ) (xs : List ℕ) → T (has x xs) → T (has x (y ∷ xs))
has_tail x y xs t = or_right (eqb x y) (has x xs) t

pub has_cases {ℓ} : {P : Type ℓ} (x y : ℕ) (xs : List ℕ) → (x ≡ y → P) → (T (has x xs) → P) → T (has x (y ∷ xs)) → P
has_cases x y xs f h t = ⊎_elim (λ e. f (eqb→eq x y e)) h (or_cases (eqb x y) (has x xs) t)

-- what holds of each value holds of each that is mapped
pub map_each : {A B : Type 0} (P : B → Type 0) (f : A → B) (xs : List A) → ((x : A) → P (f x)) → Each P (map f xs)
map_each P f [] h = tt
map_each P f (x ∷ xs) h = (h x, map_each P f xs h)

-- what stands in the list of one cell
pub only_one : (x i : ℕ) → T (has x (i ∷ [])) → x ≡ i
only_one x i t = has_cases x i [] (λ e. e) (λ r. absurd r) t

-- what holds of each of a list holds of the first
pub first_of : {P : ℕ → Type 0} (x : ℕ) (xs : List ℕ) → ((y : ℕ) → T (has y (x ∷ xs)) → P y) → P x
first_of x xs h = h x (has_head x x xs refl)

-- and of the rest
pub rest_of : {P : ℕ → Type 0} (x : ℕ) (xs : List ℕ) → ((y : ℕ) → T (has y (x ∷ xs)) → P y) → (y : ℕ) → T (has y xs) → P y
rest_of x xs h y t = h y (has_tail y x xs t)

-- what no member is above, none at a place is
pub at_most : (xs : List ℕ) (k m : ℕ) → ((x : ℕ) → T (has x xs) → x ≤ m) → get_or xs k 0 ≤ m
at_most [] k m h = omega arith
at_most (x ∷ xs) zero m h = first_of x xs h
at_most (x ∷ xs) (suc k) m h = at_most xs k m (rest_of x xs h)

-- ---- two lists, one after the other

pub has_append_left : (x : ℕ) (xs ys : List ℕ) → T (has x xs) → T (has x (xs ++ ys))
has_append_left x [] ys t = absurd t
has_append_left x (z ∷ xs) ys t =
    has_cases x z xs (has_head x z (xs ++ ys)) (λ r. has_tail x z (xs ++ ys) (has_append_left x xs ys r)) t

pub has_append_right : (x : ℕ) (xs ys : List ℕ) → T (has x ys) → T (has x (xs ++ ys))
has_append_right x [] ys t = t
has_append_right x (z ∷ xs) ys t = has_tail x z (xs ++ ys) (has_append_right x xs ys t)

pub has_append_cases : (x : ℕ) (xs ys : List ℕ) → T (has x (xs ++ ys)) → T (has x xs) ⊎ T (has x ys)
has_append_cases x [] ys t = inr t
has_append_cases x (z ∷ xs) ys t =
    has_cases x z (xs ++ ys) (λ e. inl (has_head x z xs e))
    (λ r. ⊎_elim (λ u. inl (has_tail x z xs u)) (λ u. inr u) (has_append_cases x xs ys r)) t

-- ---- images

pub has_map : (f : ℕ → ℕ) (x : ℕ) (xs : List ℕ) → T (has x xs) → T (has (f x) (map f xs))
has_map f x [] t = absurd t
has_map f x (z ∷ xs) t =
    has_cases x z xs (λ e. has_head (f x) (f z) (map f xs) (ap f e)) (λ r. has_tail (f x) (f z) (map f xs) (has_map f x xs r)) t

pub map_has : (f : ℕ → ℕ) (y : ℕ) (xs : List ℕ) → T (has y (map f xs)) → (x : ℕ) × T (has x xs) × (y ≡ f x)
map_has f y [] t = absurd t
map_has f y (z ∷ xs) t =
    has_cases y (f z) (map f xs) (λ e. (z, has_head z z xs refl, e))
    (λ r. let h = map_has f y xs r in (h.0, has_tail h.0 z xs h.1, h.2)) t

pub has_concat_map : (f : ℕ → List ℕ) (x y : ℕ) (xs : List ℕ) → T (has x xs) → T (has y (f x)) → T (has y (concat_map f xs))
has_concat_map f x y [] t u = absurd t
has_concat_map f x y (z ∷ xs) t u =
    has_cases x z xs (λ e. has_append_left y (f z) (concat_map f xs) (rw e at u))
    (λ r. has_append_right y (f z) (concat_map f xs) (has_concat_map f x y xs r u)) t

pub concat_map_has : (f : ℕ → List ℕ) (y : ℕ) (xs : List ℕ) → T (has y (concat_map f xs)) → (x : ℕ) × T (has x xs) × T (has y (f x))
concat_map_has f y [] t = absurd t
concat_map_has f y (z ∷ xs) t =
    ⊎_elim (λ e. (z, has_head z z xs refl, e))
    (λ r. let h = concat_map_has f y xs r in (h.0, has_tail h.0 z xs h.1, h.2))
    (has_append_cases y (f z) (concat_map f xs) t)

-- ---- runs of numbers

pub has_from : (n a x : ℕ) → T (has x (from a n)) → (a ≤ x) × (x < a + n)
has_from zero a x t = absurd t
has_from (suc n) a x t =
    has_cases x a (from (suc a) n) (λ e. omega arith) (λ r. let h = has_from n (suc a) x r in omega arith) t

from_has : (n a x : ℕ) → a ≤ x → x < a + n → T (has x (from a n))
from_has zero a x h k = absurd (omega arith)
from_has (suc n) a x h k =
    elim (ℕ_discrete x a) [
      | yes e ↦ has_head x a (from (suc a) n) e
      | no f ↦ has_tail x a (from (suc a) n) (from_has n (suc a) x (omega arith) (omega arith))
    ]

pub has_range : (a b x : ℕ) → T (has x (range a b)) → (a ≤ x) × (x < b)
has_range a b x t = let h = has_from (b - a) a x t in omega arith

pub range_has : (a b x : ℕ) → a ≤ x → x < b → T (has x (range a b))
range_has a b x h k = from_has (b - a) a x h (omega arith)

pub length_from : (n a : ℕ) → length (from a n) ≡ n
length_from zero a = refl
length_from (suc n) a = ap suc (length_from n (suc a))

-- ---- those that pass a test

has_if : (b : Bool) (x : ℕ) (ys zs : List ℕ) → (T b → T (has x ys)) → (T (not b) → T (has x zs)) → T (has x (elim b [ true ↦ ys | false ↦ zs ]))
has_if true x ys zs f h = f tt
has_if false x ys zs f h = h tt

if-has : (b : Bool) (x : ℕ) (ys zs : List ℕ) → T (has x (elim b [ true ↦ ys | false ↦ zs ])) → (T b × T (has x ys)) ⊎ T (has x zs)
if-has true x ys zs t = inl (tt, t)
if-has false x ys zs t = inr t

pub has_keep : (f : ℕ → Bool) (x : ℕ) (xs : List ℕ) → T (has x xs) → T (f x) → T (has x (keep f xs))
has_keep f x [] t u = absurd t
has_keep f x (y ∷ xs) t u =
    has_if (f y) x (y ∷ keep f xs) (keep f xs)
    (λ v. has_cases x y xs (has_head x y (keep f xs)) (λ r. has_tail x y (keep f xs) (has_keep f x xs r u)) t)
    (λ v. has_cases x y xs (λ e. absurd (T_not (f y) v (rw e at u))) (λ r. has_keep f x xs r u) t)

pub keep_has : (f : ℕ → Bool) (x : ℕ) (xs : List ℕ) → T (has x (keep f xs)) → T (has x xs) × T (f x)
keep_has f x [] t = absurd t
keep_has f x (y ∷ xs) t =
    let below : T (has x (keep f xs)) → T (has x (y ∷ xs)) × T (f x) =
    λ r. let h = keep_has f x xs r in (has_tail x y xs h.0, h.1) in
    ⊎_elim (λ p. has_cases x y (keep f xs) (λ e. (has_head x y xs e, rw e p.0)) below p.1) below
    (if-has (f y) x (y ∷ keep f xs) (keep f xs) t)

-- what is kept of two lists, one after the other
pub keep_append : (f : ℕ → Bool) (xs ys : List ℕ) → keep f (xs ++ ys) ≡ keep f xs ++ keep f ys
keep_append f [] ys = refl
keep_append f (x ∷ xs) ys = go (f x) (keep_append f xs ys)
  where
    go : (b : Bool) → keep f (xs ++ ys) ≡ keep f xs ++ keep f ys
        → ◌≡◌ {A = List ℕ} (elim b [ true ↦ x ∷ keep f (xs ++ ys) | false ↦ keep f (xs ++ ys) ]) (elim b [ true ↦ x ∷ keep f xs | false ↦ keep f xs ] ++ keep f ys)
    go true e = ap (λ (l : List ℕ). x ∷ l) e
    go false e = e

-- tests that agree on a list keep the same of it
pub keep_ext : (f h : ℕ → Bool) (xs : List ℕ) → ((x : ℕ) → T (has x xs) → f x ≡ h x) → keep f xs ≡ keep h xs
keep_ext f h [] e = refl
keep_ext f h (x ∷ xs) e =
    ap (λ (b : Bool). elim b [ true ↦ x ∷ keep f xs | false ↦ keep f xs ]) (first_of x xs e)
    ∙ ap (λ (l : List ℕ). elim (h x) [ true ↦ x ∷ l | false ↦ l ]) (keep_ext f h xs (rest_of x xs e))

pub some_yes : (f : ℕ → Bool) (x : ℕ) (xs : List ℕ) → T (has x xs) → T (f x) → T (some_of f xs)
some_yes f x [] t u = absurd t
some_yes f x (y ∷ xs) t u =
    has_cases x y xs (λ e. or_left (f y) (some_of f xs) (rw e at u)) (λ r. or_right (f y) (some_of f xs) (some_yes f x xs r u)) t

pub yes_some : (f : ℕ → Bool) (xs : List ℕ) → T (some_of f xs) → (x : ℕ) × T (has x xs) × T (f x)
yes_some f [] t = absurd t
yes_some f (y ∷ xs) t =
    ⊎_elim (λ e. (y, has_head y y xs refl, e))
    (λ r. let h = yes_some f xs r in (h.0, has_tail h.0 y xs h.1, h.2))
    (or_cases (f y) (some_of f xs) t)

-- one passes in two lists if it passes in either
pub some_append : (f : ℕ → Bool) (xs ys : List ℕ) → some_of f (xs ++ ys) ≡ (some_of f xs || some_of f ys)
some_append f [] ys = refl
some_append f (x ∷ xs) ys = ap (λ (b : Bool). f x || b) (some_append f xs ys) ∙ grouped (f x) (some_of f xs) (some_of f ys)
  where
    grouped : (a b c : Bool) → (a || (b || c)) ≡ ((a || b) || c)
    grouped true b c = refl
    grouped false b c = refl

-- and of lists made from one
pub some_map : (f : ℕ → Bool) (h : ℕ → ℕ) (xs : List ℕ) → some_of f (map h xs) ≡ some_of (λ x. f (h x)) xs
some_map f h [] = refl
some_map f h (x ∷ xs) = ap (λ (b : Bool). f (h x) || b) (some_map f h xs)

pub some_concat : (f : ℕ → Bool) (h : ℕ → List ℕ) (xs : List ℕ) → some_of f (concat_map h xs) ≡ some_of (λ x. some_of f (h x)) xs
some_concat f h [] = refl
some_concat f h (x ∷ xs) = some_append f (h x) (concat_map h xs) ∙ ap (λ (b : Bool). some_of f (h x) || b) (some_concat f h xs)

-- one passes the one test in the one list, so one passes the other in the other
pub some_into : (f h : ℕ → Bool) (xs ys : List ℕ) → ((x : ℕ) → T (has x xs) → T (f x) → T (has x ys) × T (h x)) → T (some_of f xs) → T (some_of h ys)
some_into f h xs ys m t =
    let w = yes_some f xs t in
    let r = m w.0 w.1 w.2 in
    some_yes h w.0 ys r.0 r.1

-- tests that agree on a list
pub some_same : (f h : ℕ → Bool) (xs : List ℕ) → ((x : ℕ) → T (has x xs) → f x ≡ h x) → some_of f xs ≡ some_of h xs
some_same f h [] e = refl
some_same f h (x ∷ xs) e = rw (first_of x xs e, some_same f h xs (rest_of x xs e))

pub all_has : (f : ℕ → Bool) (x : ℕ) (xs : List ℕ) → T (has x xs) → T (all_of f xs) → T (f x)
all_has f x [] t u = absurd t
all_has f x (y ∷ xs) t u =
    has_cases x y xs (λ e. rw e (and_left (f y) (all_of f xs) u)) (λ r. all_has f x xs r (and_right (f y) (all_of f xs) u)) t

pub all_give : (f : ℕ → Bool) (xs : List ℕ) → ((x : ℕ) → T (has x xs) → T (f x)) → T (all_of f xs)
all_give f [] h = tt
all_give f (x ∷ xs) h = and_both (f x) (all_of f xs) (first_of x xs h) (all_give f xs (rest_of x xs h))

-- ---- places

pub get_d_has : (xs : List ℕ) (k : ℕ) → k < length xs → T (has (get_or xs k 0) xs)
get_d_has [] k h = absurd (omega arith)
get_d_has (x ∷ xs) zero h = has_head x x xs refl
get_d_has (x ∷ xs) (suc k) h = has_tail (get_or xs k 0) x xs (get_d_has xs k (omega arith))

-- a number from 1 on that is read at a place is in the list
pub get_d_in : (ls : List ℕ) (k x : ℕ) → 1 ≤ x → get_or ls k 0 ≡ x → T (has x ls)
get_d_in [] k x h e = absurd (omega arith)
get_d_in (y ∷ ls) zero x h e = has_head x y ls (sym e)
get_d_in (y ∷ ls) (suc k) x h e = has_tail x y ls (get_d_in ls k x h e)

-- a list that has none is empty
pub none_there : (xs : List ℕ) → ((x : ℕ) → T (has x xs) → ⊥) → xs ≡ []
none_there [] n = refl
none_there (x ∷ xs) n = absurd (first_of x xs n)

pub has_length : (x : ℕ) (xs : List ℕ) → T (has x xs) → 1 ≤ length xs
has_length x [] t = absurd t
has_length x (y ∷ xs) t = omega arith

get_d_from {ℓ} : {A : Type ℓ} (f : ℕ → A) (d : A) (n a p : ℕ) → p < n → get_or (map f (from a n)) p d ≡ f (a + p)
get_d_from f d zero a p h = absurd (omega arith)
get_d_from f d (suc n) a zero h = ap f (omega arith)
get_d_from f d (suc n) a (suc p) h = get_d_from f d n (suc a) p (omega arith) ∙ ap f (omega arith)

-- what a list made number by number holds at a place
pub get_d_range {ℓ} : {A : Type ℓ} (f : ℕ → A) (d : A) (n p : ℕ) → p < n → get_or (map f (range 0 n)) p d ≡ f p
get_d_range f d n p h = get_d_from f d (n - 0) 0 p (omega arith) ∙ ap f (zero-add p)

from_same {ℓ} : {A : Type ℓ} (f h : ℕ → A) (n a : ℕ) → ((j : ℕ) → j < a + n → f j ≡ h j) → map f (from a n) ≡ map h (from a n)
from_same f h zero a e = refl
from_same f h (suc n) a e = λ i. e a (omega arith) i ∷ from_same f h n (suc a) (λ j k. e j (omega arith)) i

-- two such lists that agree at each place
pub range_same {ℓ} : {A : Type ℓ} (f h : ℕ → A) (n : ℕ) → ((j : ℕ) → j < n → f j ≡ h j) → map f (range 0 n) ≡ map h (range 0 n)
range_same f h n e = from_same f h (n - 0) 0 (λ j k. e j (omega arith))

-- ---- folds

pub fold_inv : {S : Type 0} (P : S → Type 0) (f : S → ℕ → S) (xs : List ℕ) → ((s : S) (x : ℕ) → T (has x xs) → P s → P (f s x)) → (s : S) → P s → P (fold f s xs)
fold_inv P f [] h s p = p
fold_inv P f (x ∷ xs) h s p =
    fold_inv P f xs (λ t y u. h t y (has_tail y x xs u)) (f s x) (h s x (has_head x x xs refl) p)

-- ---- walks: one place more, and squares as rows of columns

-- one more before is one more after
pub suc_across : (a n : ℕ) → suc a + n ≡ a + suc n
suc_across a n = suc-add a n ∙ sym (add-suc a n)

from_more : (n a : ℕ) → from a (suc n) ≡ from a n ++ ((a + n) ∷ [])
from_more zero a = ap (λ (k : ℕ). k ∷ []) (sym (add-zero a))
from_more (suc n) a = ap (λ (l : List ℕ). a ∷ l) (from_more n (suc a) ∙ ap (λ (k : ℕ). from (suc a) n ++ (k ∷ [])) (suc_across a n))

pub range_more : (a b : ℕ) → a ≤ b → range a (b + 1) ≡ range a b ++ (b ∷ [])
range_more a b h =
    ap (from a) one ∙ from_more (b - a) a ∙ ap (λ (k : ℕ). range a b ++ (k ∷ [])) (add-sub_of_le h)
  where
    one : b + 1 - a ≡ suc (b - a)
    one = omega arith

pub range_none : (a : ℕ) → range a a ≡ []
range_none a = ap (from a) (sub_self a)

-- whether one passes a test, from a number on: none yet, one more that fails, one that passes
module _ (f : ℕ → Bool) (a : ℕ) where
  pub none_yet : some_of f (range a a) ≡ false
  none_yet = ap (some_of f) (range_none a)

  pub none_more : (k : ℕ) → a ≤ k → some_of f (range a k) ≡ false → f k ≡ false → some_of f (range a (k + 1)) ≡ false
  none_more k h e t =
      ap (some_of f) (range_more a k h) ∙ some_append f (range a k) (k ∷ []) ∙ ap₂ (λ (p q : Bool). p || (q || false)) e t

  pub one_there : (k b : ℕ) → a ≤ k → k < b → f k ≡ true → true ≡ some_of f (range a b)
  one_there k b h l t = sym (T→true (some_of f (range a b)) (some_yes f k (range a b) (range_has a b k h l) (rw t tt)))

pub fold_append {ℓ} : {S : Type ℓ} (f : S → ℕ → S) (s : S) (xs ys : List ℕ) → fold f s (xs ++ ys) ≡ fold f (fold f s xs) ys
fold_append f s [] ys = refl
fold_append f s (x ∷ xs) ys = fold_append f (f s x) xs ys

-- a fold over a range, one place more
pub fold_more {ℓ} : {S : Type ℓ} (f : S → ℕ → S) (s : S) (a b : ℕ) → a ≤ b → fold f s (range a (b + 1)) ≡ f (fold f s (range a b)) b
fold_more f s a b h = ap (fold f s) (range_more a b h) ∙ fold_append f s (range a b) (b ∷ [])

pub length_fold {ℓ} : {A : Type ℓ} (f : List A → ℕ → List A) (w : List A) (xs : List ℕ) → ((v : List A) (x : ℕ) → length (f v x) ≡ length v) → length (fold f w xs) ≡ length w
length_fold f w [] h = refl
length_fold f w (x ∷ xs) h = length_fold f (f w x) xs h ∙ h w x

pub fold_map {ℓ} : {S : Type ℓ} (f : S → ℕ → S) (h : ℕ → ℕ) (s : S) (xs : List ℕ) → fold f s (map h xs) ≡ fold (λ t x. f t (h x)) s xs
fold_map f h s [] = refl
fold_map f h s (x ∷ xs) = fold_map f h (f s (h x)) xs

-- two steps that do the same with each of them
pub fold_same {ℓ} : {S : Type ℓ} (f h : S → ℕ → S) (xs : List ℕ) (s : S) → ((t : S) (x : ℕ) → T (has x xs) → f t x ≡ h t x) → fold f s xs ≡ fold h s xs
fold_same f h [] s e = refl
fold_same {S} f h (x ∷ xs) s e =
    ap (λ (t : S). fold f t xs) (e s x (has_head x x xs refl)) ∙ fold_same f h xs (h s x) (λ t y u. e t y (has_tail y x xs u))

-- a step that can be made before or after each step of a fold goes past the fold
fold_past {ℓ} : {S : Type ℓ} (k : S → S) (f : S → ℕ → S) → ((s : S) (x : ℕ) → k (f s x) ≡ f (k s) x) → (s : S) (xs : List ℕ) → k (fold f s xs) ≡ fold f (k s) xs
fold_past k f c s [] = refl
fold_past {S} k f c s (x ∷ xs) = fold_past k f c (f s x) xs ∙ ap (λ (t : S). fold f t xs) (c s x)

-- two folds over the same list as one
fold_both {ℓ} : {S : Type ℓ} (f h : S → ℕ → S) → ((s : S) (x y : ℕ) → h (f s x) y ≡ f (h s y) x) → (s : S) (xs : List ℕ) → fold h (fold f s xs) xs ≡ fold (λ t x. h (f t x) x) s xs
fold_both f h c s [] = refl
fold_both {S} f h c s (x ∷ xs) = ap (λ (t : S). fold h t xs) (fold_past (λ t. h t x) f (λ t y. c t y x) (f s x) xs) ∙ fold_both f h c (h (f s x) x) xs

fold_still {ℓ} : {S : Type ℓ} (s : S) (xs : List ℕ) → fold (λ t x. t) s xs ≡ s
fold_still s [] = refl
fold_still s (x ∷ xs) = fold_still s xs

-- steps that can be made in any order: for each x every y, or for each y every x
pub fold_swap {ℓ} : {S : Type ℓ} (f : S → ℕ → ℕ → S) → ((s : S) (a b c d : ℕ) → f (f s a b) c d ≡ f (f s c d) a b) → (s : S) (xs ys : List ℕ)
    → fold (λ t x. fold (λ u y. f u x y) t ys) s xs ≡ fold (λ t y. fold (λ u x. f u x y) t xs) s ys
fold_swap f c s [] ys = sym (fold_still s ys)
fold_swap f c s (x ∷ xs) ys =
    fold_swap f c (fold (λ u y. f u x y) s ys) xs ys
    ∙ fold_both (λ t y. f t x y) (λ t y. fold (λ u z. f u z y) t xs) (λ t y z. sym (fold_past (λ u. f u x y) (λ u w. f u w z) (λ u w. c u w z x y) t xs)) s ys

pub concat_map_append {ℓ κ} : {A : Type ℓ} {B : Type κ} (f : A → List B) (xs ys : List A) → concat_map f (xs ++ ys) ≡ concat_map f xs ++ concat_map f ys
concat_map_append f [] ys = refl
concat_map_append f (x ∷ xs) ys =
    ap (λ l. f x ++ l) (concat_map_append f xs ys) ∙ sym (append_assoc (f x) (concat_map f xs) (concat_map f ys))

pub concat_map_more : (f : ℕ → List ℕ) (a b : ℕ) → a ≤ b → concat_map f (range a (b + 1)) ≡ concat_map f (range a b) ++ f b
concat_map_more f a b h =
    ap (concat_map f) (range_more a b h) ∙ concat_map_append f (range a b) (b ∷ []) ∙ ap (λ (l : List ℕ). concat_map f (range a b) ++ l) (append-nil (f b))

-- ---- a walk by column and row is a walk in index order

from_append : (m n a : ℕ) → from a (m + n) ≡ from a m ++ from (a + m) n
from_append zero n a = ap (from a) (zero-add n) ∙ ap (λ (k : ℕ). from k n) (sym (add-zero a))
from_append (suc m) n a =
    ap (from a) (suc-add m n) ∙ ap (λ (l : List ℕ). a ∷ l) (from_append m n (suc a) ∙ ap (λ (k : ℕ). from (suc a) m ++ from k n) (suc_across a m))

-- a range in two parts
pub range_split : (a b c : ℕ) → a ≤ b → b ≤ c → range a c ≡ range a b ++ range b c
range_split a b c h k =
    ap (from a) parts ∙ from_append (b - a) (c - b) a ∙ ap (λ (n : ℕ). range a b ++ from n (c - b)) (add-sub_of_le h)
  where
    parts : c - a ≡ (b - a) + (c - b)
    parts = omega arith

from_shift : (n a b : ℕ) → from (a + b) n ≡ map (λ (k : ℕ). a + k) (from b n)
from_shift zero a b = refl
from_shift (suc n) a b = ap (λ (l : List ℕ). (a + b) ∷ l) (ap (λ (k : ℕ). from k n) (sym (add-suc a b)) ∙ from_shift n a (suc b))

pub fold_columns {ℓ} : {S : Type ℓ} (f : S → ℕ → S) (rows : ℕ) (s : S) (columns : ℕ)
    → fold (λ t c. fold (λ u r. f u (c * rows + r)) t (range 0 rows)) s (range 0 columns) ≡ fold f s (range 0 (columns * rows))
fold_columns {S} f rows s columns =
    ap (λ (n : ℕ). fold (λ t c. fold (λ u r. f u (c * rows + r)) t (range 0 rows)) s (from 0 n)) (sub-zero columns) ∙ go columns
    ∙ ap (λ (n : ℕ). fold f s (from 0 n)) (sym (sub-zero (columns * rows)))
  where
    column : S → ℕ → S
    column t c = fold (λ u r. f u (c * rows + r)) t (range 0 rows)

    one_column : (t : S) (c : ℕ) → column t c ≡ fold f t (from (c * rows) rows)
    one_column t c =
        sym (fold_map f (λ r. c * rows + r) t (range 0 rows)) ∙ ap (λ (l : List ℕ). fold f t l)
        (ap (λ (n : ℕ). map (λ r. c * rows + r) (from 0 n)) (sub-zero rows) ∙ sym (from_shift rows (c * rows) 0) ∙ ap (λ (k : ℕ). from k rows) (add-zero (c * rows)))

    go : (n : ℕ) → fold column s (from 0 n) ≡ fold f s (from 0 (n * rows))
    go zero = ap (λ (k : ℕ). fold f s (from 0 k)) (sym (zero-mul rows))
    go (suc n) =
        ap (fold column s) (from_more n 0) ∙ fold_append column s (from 0 n) ((0 + n) ∷ []) ∙ ap (λ (k : ℕ). column (fold column s (from 0 n)) k) (zero-add n)
        ∙ ap (λ (t : S). column t n) (go n) ∙ one_column (fold f s (from 0 (n * rows))) n
        ∙ ap (λ (k : ℕ). fold f (fold f s (from 0 (n * rows))) (from k rows)) (sym (zero-add (n * rows)))
        ∙ sym (fold_append f s (from 0 (n * rows)) (from (0 + n * rows) rows)) ∙ ap (fold f s) (sym (from_append (n * rows) rows 0))
        ∙ ap (λ (k : ℕ). fold f s (from 0 k)) (sym (suc-mul n rows))
