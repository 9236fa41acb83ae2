-- A run with new entries written from its start: its length, where there is room, and one entry more. Assumes nothing.
use mathlib.Core.Path.{◌≡◌, refl, ap}
use Prim.Native.Nat.{ℕ, zero, suc, ◌+◌, ◌<◌, ◌≤◌}
use native.Mathlib.Numerals.{add-one}
use native.Mathlib.Nat.{le_of_suc-le-suc, not-suc-le-zero}
use native.Mathlib.Omega.{arith}
use Rattle.std.proofs.Math.Nat.{min-le_left}
use Rattle.std.proofs.lemmas.List.{take_all, take_min}
use Rattle.std.specs.Prelude.{min}
use mathlib.Core.List.{List, [], ◌∷◌, map}
use lib.ListN.{length, take, set, get_or}
use Rattle.game.specs.Area.{begun}
use Rattle.records.specs.Records.{over}

pub length_over : {A : Type 0} (xs ys : List A) → length (over xs ys) ≡ length ys
length_over [] ys = refl
length_over (x ∷ xs) [] = refl
length_over (x ∷ xs) (y ∷ ys) = ap suc (length_over xs ys)

-- where there is room, it is the run that begins with the entries
pub over_begun : {A : Type 0} (xs ys : List A) → length xs ≤ length ys → over xs ys ≡ begun xs ys
over_begun [] ys h = refl
over_begun (x ∷ xs) [] h = absurd (not-suc-le-zero h)
over_begun (x ∷ xs) (y ∷ ys) h = ap (λ (l : List _). x ∷ l) (over_begun xs ys (le_of_suc-le-suc h))

module _ {A B : Type 0} (f : A → B) (d : A) where
  -- the entries of the first n
  abbrev firsts : ℕ → List A → List B
  firsts n xs = map f (take n xs)

  -- one entry more
  pub over_more : (k : ℕ) (xs : List A) (ys : List B) → k < length xs → set (over (firsts k xs) ys) k (f (get_or xs k d)) ≡ over (firsts (suc k) xs) ys
  over_more k [] ys h = absurd (not-suc-le-zero h)
  over_more zero (x ∷ xs) [] h = refl
  over_more zero (x ∷ xs) (y ∷ ys) h = refl
  over_more (suc k) (x ∷ xs) [] h = refl
  over_more (suc k) (x ∷ xs) (y ∷ ys) h = ap (λ (l : List B). f x ∷ l) (over_more k xs ys (le_of_suc-le-suc h))

  -- the same where the run so far and the entry are given by equations
  pub over_next : (k : ℕ) (xs : List A) (ys zs : List B) (y : B) → k < length xs → zs ≡ over (firsts k xs) ys → y ≡ f (get_or xs k d) → set zs k y ≡ over (firsts (k + 1) xs) ys
  over_next k xs ys zs y h e e' = rw (add-one, e, e') (over_more k xs ys h)

  -- a copy that stops where the count or the run does is the whole copy
  over_stops : (n count : ℕ) (xs : List A) (ys : List B) → n ≤ count → (n < count → length ys ≤ n) → over (firsts n xs) ys ≡ over (firsts count xs) ys
  over_stops zero zero xs ys h e = refl
  over_stops zero (suc count) [] ys h e = refl
  over_stops zero (suc count) (x ∷ xs) [] h e = refl
  over_stops zero (suc count) (x ∷ xs) (y ∷ ys) h e = absurd (omega (arith, e (omega arith)))
  over_stops (suc n) zero xs ys h e = absurd (not-suc-le-zero h)
  over_stops (suc n) (suc count) [] ys h e = refl
  over_stops (suc n) (suc count) (x ∷ xs) [] h e = refl
  over_stops (suc n) (suc count) (x ∷ xs) (y ∷ ys) h e = ap (λ (l : List B). f x ∷ l) (over_stops n count xs ys (le_of_suc-le-suc h) (λ q. omega (arith, e (omega (arith, q)))))

  -- the copy of as many entries as the count, the run and the entries allow is the whole copy
  pub over_least : (count m n : ℕ) (xs : List A) (ys : List B) → m ≡ min count (length ys) → n ≡ min m (length xs) → over (firsts n xs) ys ≡ over (firsts count xs) ys
  over_least count m n xs ys em en = rw (en, em, take_min (min count (length ys)) xs) (over_stops (min count (length ys)) count xs ys (min-le_left count (length ys)) (λ q. omega (arith, q)))

  -- the same where only so many are gone over
  pub over_all : (count m n k : ℕ) (xs : List A) (ys zs : List B) → m ≡ min count (length ys) → n ≡ min m (length xs) → length (take n xs) ≤ k → zs ≡ over (firsts k (take n xs)) ys → zs ≡ over (firsts count xs) ys
  over_all count m n k xs ys zs em en h e = rw (e, take_all k (take n xs) h) (over_least count m n xs ys em en)
