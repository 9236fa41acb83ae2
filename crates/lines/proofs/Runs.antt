-- Lent runs filled from their start, and tests over a run one place at a time. Assumes nothing.
use Prim.Native.Nat.{ℕ, suc, ◌+◌, ◌-◌, ◌<◌, ◌≤◌}
use native.Mathlib.Omega.{arith}
use native.Mathlib.Numerals.{add-one}
use mathlib.Core.Path.{◌≡◌, ap, sym, ◌∙◌}
use mathlib.Core.Bool.{Bool, true, false, ◌||◌}
use mathlib.Core.List.{List, [], ◌∷◌, ◌++◌, map, map-append}
use lib.ListN.{drop, get_or, length, length-append, length-map, set}
use lib.Seq.{append_snoc, drop-cons, set_at}
use Rattle.game.specs.Lists.{from, range, some_of}
use Rattle.game.specs.Area.{begun}
use Rattle.game.proofs.Members.{length_from, range_more}

-- ---- tests over a run

pub some_step : (f : ℕ → Bool) (l : List ℕ) (k : ℕ) → k < length l → some_of f (drop k l) ≡ (f (get_or l k 0) || some_of f (drop (k + 1) l))
some_step f l k h = ap (some_of f) (drop-cons l k 0 h ∙ ap (λ (n : ℕ). get_or l k 0 ∷ drop n l) (sym (add-one k)))

range_cons : (a b : ℕ) → a < b → range a b ≡ a ∷ range (a + 1) b
range_cons a b h =
    ap (from a) (one_more) ∙ ap (λ (n : ℕ). a ∷ from n (b - (a + 1))) (sym (add-one a))
  where
    one_more : b - a ≡ suc (b - (a + 1))
    one_more = omega arith

pub range_step : (f : ℕ → Bool) (a b : ℕ) → a < b → some_of f (range a b) ≡ (f a || some_of f (range (a + 1) b))
range_step f a b h = ap (some_of f) (range_cons a b h)

pub range_over : (f : ℕ → Bool) (a b : ℕ) → b ≤ a → some_of f (range a b) ≡ false
range_over f a b h = ap (λ (n : ℕ). some_of f (from a n)) (gone)
  where
    gone : b - a ≡ 0
    gone = omega arith

-- one that passes, and one that does not
pub passes : (p q : Bool) (r : Bool) → r ≡ (p || q) → p ≡ true → r ≡ true
passes p q r e h = e ∙ ap (λ (x : Bool). x || q) h

pub fails : (p q : Bool) (r : Bool) → r ≡ (p || q) → p ≡ false → r ≡ q
fails p q r e h = e ∙ ap (λ (x : Bool). x || q) h

-- ---- a run that begins with other entries takes one more

module _ {A : Type 0} where
  pub begun_more : (front old : List A) (n : ℕ) (a d : A) → length front ≡ n → n < length old → set (begun front old) n a ≡ begun (front ++ (a ∷ [])) old
  begun_more front old n a d e h =
      let long : length (front ++ (a ∷ [])) ≡ suc n = length-append front (a ∷ []) ∙ ap (λ (k : ℕ). k + 1) e ∙ add-one n in
      ap (λ (k : ℕ). set (front ++ drop k old) n a) e
      ∙ ap (λ (r : List A). set (front ++ r) n a) (drop-cons old n d h)
      ∙ set_at front (get_or old n d) (drop (suc n) old) a n e
      ∙ sym (append_snoc front a (drop (suc n) old))
      ∙ ap (λ (k : ℕ). (front ++ (a ∷ [])) ++ drop k old) (sym long)

module _ {A : Type 0} (f : ℕ → A) where
  pub length_cells : (n : ℕ) → length (map f (range 0 n)) ≡ n
  length_cells n = length-map (range 0 n) f ∙ length_from (n - 0) 0 ∙ omega arith

  pub cells_more : (n : ℕ) → map f (range 0 (n + 1)) ≡ map f (range 0 n) ++ (f n ∷ [])
  cells_more n = ap (map f) (range_more 0 n (omega arith)) ∙ map-append f (range 0 n) (n ∷ [])

  -- the values of one cell more
  pub fill_more : (n : ℕ) (old now : List A) (v : A) → now ≡ begun (map f (range 0 n)) old → v ≡ f n → n < length old → set now n v ≡ begun (map f (range 0 (n + 1))) old
  fill_more n old now v e q h =
      (λ i. set (e i) n (q i))
      ∙ begun_more (map f (range 0 n)) old n (f n) v (length_cells n) h
      ∙ ap (λ (r : List A). begun r old) (sym (cells_more n))
