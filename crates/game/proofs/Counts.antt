-- Counts of tests, and lists without repeats: each law by going down the list. Assumes nothing.
use Prim.Native.Nat.{ℕ, ◌+◌, ◌≤◌}
use native.Mathlib.Omega.{arith}
use native.Mathlib.Decide.{ℕ_discrete, dec_le}
use mathlib.Core.Path.{◌∙◌, ◌≡◌, ap, refl, subst, sym}
use mathlib.Core.Bool.{Bool, ◌&&◌, ◌||◌, false, not, true}
use mathlib.Core.List.{List, [], ◌++◌, ◌∷◌, map}
use lib.Dec.{T, eqb, eqb→eq}
use lib.ListN.{length}
use Rattle.game.specs.Lists.{Each, bit, count, has, keep, range}
use Rattle.game.proofs.Members.{first_of, has_cases, has_head, has_tail, range_more, rest_of}
use Rattle.game.proofs.Truth.{T→true, and_false, and_left, and_true, no→false}
use borrow.Author.Tests.{eq-eqb, ne_eqb}

-- ---- counts

pub bit_le : (a b : Bool) → (T a → T b) → bit a ≤ bit b
bit_le true true h = omega arith
bit_le true false h = absurd (h tt)
bit_le false b h = omega arith

pub bit_small : (b : Bool) → bit b ≤ 1
bit_small b = bit_le b true (λ t. tt)

bit_same : (a b : Bool) → bit b ≤ bit a → T b → T a
bit_same true b h t = tt
bit_same false true h t = absurd (omega arith)
bit_same false false h t = t

pub bit_yes : (b : Bool) → T b → bit b ≡ 1
bit_yes b t = ap bit (T→true b t)

pub bit_no : (b : Bool) → (T b → ⊥) → bit b ≡ 0
bit_no b f = ap bit (no→false b f)

pub count_none : (f : ℕ → Bool) (xs : List ℕ) → ((x : ℕ) → T (has x xs) → T (f x) → ⊥) → count f xs ≡ 0
count_none f [] h = refl
count_none f (x ∷ xs) h = omega (arith, bit_no (f x) (first_of x xs h), count_none f xs (rest_of x xs h))

pub none_counted : (f : ℕ → Bool) (xs : List ℕ) → count f xs ≡ 0 → (x : ℕ) → T (has x xs) → T (f x) → ⊥
none_counted f [] e x t u = t
none_counted f (y ∷ xs) e x t u =
    has_cases x y xs (λ q. let h = bit_yes (f y) (rw q at u) in absurd (omega arith)) (λ r. none_counted f xs (omega arith) x r u) t

pub count_le {ℓ} : {A : Type ℓ} (f : A → Bool) (xs : List A) → count f xs ≤ length xs
count_le f [] = omega arith
count_le f (x ∷ xs) = omega (arith, bit_small (f x), count_le f xs)

pub count_mono : (f h : ℕ → Bool) (xs : List ℕ) → ((x : ℕ) → T (f x) → T (h x)) → count f xs ≤ count h xs
count_mono f h [] m = omega arith
count_mono f h (x ∷ xs) m = omega (arith, bit_le (f x) (h x) (m x), count_mono f h xs m)

-- two nested tests with equal counts are the same
pub count_same : (f h : ℕ → Bool) (xs : List ℕ) → ((x : ℕ) → T (f x) → T (h x)) → count h xs ≤ count f xs → (x : ℕ) → T (has x xs) → T (h x) → T (f x)
count_same f h [] m c x t u = absurd t
count_same f h (y ∷ xs) m c x t u =
    has_cases x y xs (λ e. rw e (bit_same (f y) (h y) (omega (arith, count_mono f h xs m)) (rw e at u)))
    (λ r. count_same f h xs m (omega (arith, bit_le (f y) (h y) (m y))) x r u) t

pub count_one : (f : ℕ → Bool) (x : ℕ) (xs : List ℕ) → T (has x xs) → T (f x) → 1 ≤ count f xs
count_one f x xs t u = elim (dec_le 1 (count f xs)) [ yes h ↦ h | no k ↦ absurd (none_counted f xs (omega arith) x t u) ]

pub count_find : (f : ℕ → Bool) (xs : List ℕ) → 1 ≤ count f xs → (x : ℕ) × T (has x xs) × T (f x)
count_find f [] h = absurd (omega arith)
count_find f (x ∷ xs) h = go (λ k. count_find f xs k) (f x) refl h
  where
    go : (1 ≤ count f xs → (x : ℕ) × T (has x xs) × T (f x)) → (b : Bool) → f x ≡ b → 1 ≤ bit b + count f xs → (y : ℕ) × T (has y (x ∷ xs)) × T (f y)
    go r true e k = (x, has_head x x xs refl, rw e tt)
    go r false e k = let w = r (omega arith) in (w.0, has_tail w.0 x xs w.1, w.2)

pub count_append {ℓ} : {A : Type ℓ} (f : A → Bool) (xs ys : List A) → count f (xs ++ ys) ≡ count f xs + count f ys
count_append f [] ys = omega arith
count_append f (x ∷ xs) ys = omega (arith, count_append f xs ys)

-- a count over a range, one place more
pub count_more : (f : ℕ → Bool) (a b : ℕ) → a ≤ b → count f (range a (b + 1)) ≡ count f (range a b) + bit (f b)
count_more f a b h = omega (arith, ap (count f) (range_more a b h), count_append f (range a b) (b ∷ []))

pub count_map {ℓ} : {A : Type ℓ} (f : A → Bool) (h : ℕ → A) (xs : List ℕ) → count f (map h xs) ≡ count (λ x. f (h x)) xs
count_map f h [] = refl
count_map f h (x ∷ xs) = ap (λ (n : ℕ). bit (f (h x)) + n) (count_map f h xs)

pub length_keep {ℓ} : {A : Type ℓ} (f : A → Bool) (xs : List A) → length (keep f xs) ≡ count f xs
length_keep f [] = refl
length_keep {A} f (x ∷ xs) = go (f x) (length_keep f xs)
  where
    go : (b : Bool) → length (keep f xs) ≡ count f xs → length {A = A} (elim b [ true ↦ x ∷ keep f xs | false ↦ keep f xs ]) ≡ bit b + count f xs
    go true e = omega arith
    go false e = omega arith

-- a test split by a second one
pub count_split {ℓ} : {A : Type ℓ} (f h : A → Bool) (xs : List A) → count f xs ≡ count (λ x. f x && not (h x)) xs + count (λ x. h x && f x) xs
count_split f h [] = omega arith
count_split f h (x ∷ xs) = omega (arith, one (f x) (h x), count_split f h xs)
  where
    one : (a b : Bool) → bit a ≡ bit (a && not b) + bit (b && a)
    one true true = refl
    one true false = refl
    one false true = refl
    one false false = refl

pub count_ext : (f h : ℕ → Bool) (xs : List ℕ) → ((x : ℕ) → T (has x xs) → f x ≡ h x) → count f xs ≡ count h xs
count_ext f h [] e = refl
count_ext f h (x ∷ xs) e = omega (arith, ap bit (first_of x xs e), count_ext f h xs (rest_of x xs e))

-- ---- something holds of each list of a list of lists

pub each_map : {P Q : List ℕ → Type 0} (os : List (List ℕ)) → ((o : List ℕ) → P o → Q o) → Each P os → Each Q os
each_map [] h e = tt
each_map (o ∷ os) h e = (h o e.0, each_map os h e.1)

pub count_each : (f h : List ℕ → Bool) (os : List (List ℕ)) → Each (λ o. f o ≡ h o) os → count f os ≡ count h os
count_each f h [] e = refl
count_each f h (o ∷ os) e = omega (arith, ap bit e.0, count_each f h os e.1)

-- ---- no repeats

abbrev pub Once : List ℕ → Type 0
Once [] = Unit {0}
Once (x ∷ xs) = (T (has x xs) → ⊥) × Once xs

pub count_point : (f : ℕ → Bool) (x : ℕ) (ys : List ℕ) → Once ys → T (has x ys) → count (λ j. eqb j x && f j) ys ≡ bit (f x)
count_point f x [] o t = absurd t
count_point f x (y ∷ ys) o t =
    elim (ℕ_discrete y x) [
      | yes e ↦
          let z : count (λ j. eqb j x && f j) ys ≡ 0 = count_none (λ j. eqb j x && f j) ys
          (λ j u v. o.0 (rw (e ∙ sym (eqb→eq j x (and_left (eqb j x) (f j) v))) u)) in
          let q : bit (eqb y x && f y) ≡ bit (f x) =
          ap (λ (b : Bool). bit (b && f y)) (eq-eqb y x e) ∙ ap (λ (k : ℕ). bit (f k)) e in
          omega arith
      | no n ↦
          let q : bit (eqb y x && f y) ≡ 0 = ap (λ (b : Bool). bit (b && f y)) (ne_eqb y x n) in
          let r = has_cases x y ys (λ u. absurd (n (sym u))) (λ u. count_point f x ys o.1 u) t in
          omega arith
    ]

count_or : (a b f : ℕ → Bool) (ys : List ℕ) → ((y : ℕ) → T (a y) → T (b y) → ⊥) → count (λ j. (a j || b j) && f j) ys ≡ count (λ j. a j && f j) ys + count (λ j. b j && f j) ys
count_or a b f [] n = omega arith
count_or a b f (y ∷ ys) n = omega (arith, one (a y) (b y) (f y) (n y), count_or a b f ys n)
  where
    one : (p q r : Bool) → (T p → T q → ⊥) → bit ((p || q) && r) ≡ bit (p && r) + bit (q && r)
    one true true r n = absurd (n tt tt)
    one true false true n = refl
    one true false false n = refl
    one false true true n = refl
    one false true false n = refl
    one false false r n = refl

-- a count over a list without repeats is a count over any such list that has all of it
pub count_once : (f : ℕ → Bool) (xs ys : List ℕ) → Once xs → Once ys → ((x : ℕ) → T (has x xs) → T (has x ys)) → count f xs ≡ count (λ j. has j xs && f j) ys
count_once f [] ys o p s = sym (count_none (λ j. false && f j) ys (λ j t u. u))
count_once f (x ∷ xs) ys o p s =
    let a = count_or (λ j. eqb j x) (λ j. has j xs) f ys (λ y t u. o.0 (rw (← eqb→eq y x t) u)) in
    let b = count_point f x ys p (first_of x xs s) in
    let c = count_once f xs ys o.1 p (rest_of x xs s) in
    omega arith

-- two tests that differ only at c, where the second fails
pub count_drop : (f h : ℕ → Bool) (c : ℕ) (xs : List ℕ) → Once xs → ((x : ℕ) → (x ≡ c → ⊥) → f x ≡ h x) → h c ≡ false → count f xs ≡ count h xs + bit (has c xs && f c)
count_drop f h c xs o e z =
    let a = count_split f (λ x. eqb x c) xs in
    let b : count (λ x. f x && not (eqb x c)) xs ≡ count h xs = count_ext (λ x. f x && not (eqb x c)) h xs (λ x t. one x) in
    omega (arith, point (has c xs) refl)
  where
    one : (x : ℕ) → (f x && not (eqb x c)) ≡ h x
    one x =
        elim (ℕ_discrete x c) [
          | yes q ↦ ap (λ (b : Bool). f x && not b) (eq-eqb x c q) ∙ sym (and_false (f x)) ∙ sym (ap h q ∙ z)
          | no n ↦ ap (λ (b : Bool). f x && not b) (ne_eqb x c n) ∙ sym (and_true (f x)) ∙ e x n
        ]

    point : (b : Bool) → has c xs ≡ b → count (λ x. eqb x c && f x) xs ≡ bit (b && f c)
    point true q = count_point f c xs o (rw q tt)
    point false q =
        count_none (λ x. eqb x c && f x) xs (λ x t u. subst T q (rw (← eqb→eq x c (and_left (eqb x c) (f x) u)) t))
