-- Lists made place by place, and two numbers for each of a list: each law by going down the list. Assumes nothing.
use Prim.Native.Nat.{ℕ, ◌+◌, ◌*◌, ◌-◌, ◌<◌, suc, zero}
use native.Mathlib.Omega.{arith}
use native.Mathlib.Nat.{zero-add}
use mathlib.Core.Path.{◌≡◌, ap, ap₂, refl, ◌∙◌}
use mathlib.Core.List.{List, [], ◌∷◌, map}
use lib.ListN.{get_or, length}
use Rattle.game.specs.Lists.{concat_map, from, range}
use Rattle.game.proofs.Members.{suc_across}

-- ---- lists by their places

map_from : (f h : ℕ → ℕ) (xs : List ℕ) (a : ℕ) → ((k : ℕ) → k < length xs → f (a + k) ≡ h (get_or xs k 0)) → map f (from a (length xs)) ≡ map h xs
map_from f h [] a e = refl
map_from f h (x ∷ xs) a e =
    let first : f a ≡ h x = ap f (omega arith) ∙ e 0 (omega arith) in
    let rest = map_from f h xs (suc a) (λ k l. ap f (suc_across a k) ∙ e (suc k) (omega arith)) in
    ap₂ (λ y ys. y ∷ ys) first rest

-- what is made place by place is what is made of each of a list
pub map_places : (f h : ℕ → ℕ) (xs : List ℕ) (n : ℕ) → n ≡ length xs → ((k : ℕ) → k < length xs → f k ≡ h (get_or xs k 0)) → map f (range 0 n) ≡ map h xs
map_places f h xs n q e =
    let s : n - 0 ≡ length xs = omega arith in
    ap (λ (m : ℕ). map f (from 0 m)) s ∙ map_from f h xs 0 (λ k l. ap f (zero-add k) ∙ e k l)

-- ---- two numbers for each of a list

module _ (f h : ℕ → ℕ) where
  abbrev pairs : List ℕ → List ℕ
  pairs xs = concat_map (λ x. f x ∷ h x ∷ []) xs

  pub length_pairs : (xs : List ℕ) → length (pairs xs) ≡ 2 * length xs
  length_pairs [] = refl
  length_pairs (x ∷ xs) = omega (arith, length_pairs xs)

  pub first-at : (xs : List ℕ) (k : ℕ) → k < length xs → get_or (pairs xs) (2 * k) 0 ≡ f (get_or xs k 0)
  first-at [] k l = absurd (omega arith)
  first-at (x ∷ xs) zero l = refl
  first-at (x ∷ xs) (suc k) l =
      let e : 2 * suc k ≡ suc (suc (2 * k)) = omega arith in
      ap (λ (n : ℕ). get_or (pairs (x ∷ xs)) n 0) e ∙ first-at xs k (omega arith)

  pub second-at : (xs : List ℕ) (k : ℕ) → k < length xs → get_or (pairs xs) (2 * k + 1) 0 ≡ h (get_or xs k 0)
  second-at [] k l = absurd (omega arith)
  second-at (x ∷ xs) zero l = refl
  second-at (x ∷ xs) (suc k) l =
      let e : 2 * suc k + 1 ≡ suc (suc (2 * k + 1)) = omega arith in
      ap (λ (n : ℕ). get_or (pairs (x ∷ xs)) n 0) e ∙ second-at xs k (omega arith)
