-- A loop for the highest of some numbers and its ties, place by place: what stands after a prefix stands after one place more. Assumes nothing.
use Prim.Native.Nat.{ℕ, ◌+◌, ◌<◌, ◌≤◌}
use native.Mathlib.Omega.{arith}
use mathlib.Core.Path.{◌∙◌, ◌≡◌, ap, ap₂, refl, subst, sym}
use mathlib.Core.Logic.{⊎_elim}
use mathlib.Core.Bool.{Bool, ◌&&◌, cond, false, true}
use mathlib.Core.List.{List, [], ◌++◌, ◌∷◌, append_assoc, append-nil}
use mathlib.Core.Option.{Option, none, some}
use lib.Dec.{T, leb→le, le→leb, ltb→lt}
use lib.IntN.{negsuc, pos, ℤ}
use lib.Signed.{clash_ℤ, le_z, lt_z, lt_z_no, ≤ℤ_refl}
use lib.ListN.{length, length-append}
use Rattle.game.specs.Grid.{same}
use Rattle.game.specs.Lists.{fold, has, keep}
use Rattle.game.proofs.Choices.{le_z_trans}
use Rattle.game.proofs.Members.{first_of, has_append_cases, has_append_left, has_append_right, has_cases, has_head, has_keep, has_length, has_tail, rest_of}
use Rattle.game.proofs.Truth.{T→true, and_both, and_left, and_right, no→false}

-- ---- the order of whole numbers

lt_le : (a b : ℤ) → T (lt_z a b) → T (le_z a b)
lt_le (pos a) (pos b) t = le→leb a b (omega (arith, ltb→lt a b t))
lt_le (pos a) (negsuc b) t = absurd t
lt_le (negsuc a) (pos b) t = tt
lt_le (negsuc a) (negsuc b) t = le→leb b a (omega (arith, ltb→lt b a t))

lt_not : (a b : ℤ) → T (lt_z a b) → T (le_z b a) → ⊥
lt_not a b t u = clash_ℤ {X = ⊥} {a = a} {b = b} (record { lt = t }) (record { le = u })

pub not_lt : (a b : ℤ) → lt_z a b ≡ false → T (le_z b a)
not_lt a b e = (lt_z_no {a = a} {b = b} (rw e tt)).le

pub le_z_same : (a b : ℤ) → a ≡ b → T (le_z a b)
le_z_same a b e = rw e (≤ℤ_refl b).le

-- above -1 is 0 or more
above_low : (m p : ℤ) → T (le_z (negsuc 0) m) → T (lt_z m p) → T (le_z (pos 0) p)
above_low (pos a) (pos b) l t = le→leb 0 b (omega arith)
above_low (pos a) (negsuc b) l t = absurd t
above_low (negsuc a) (pos b) l t = le→leb 0 b (omega arith)
above_low (negsuc a) (negsuc b) l t = absurd (omega (arith, leb→le a 0 l, ltb→lt b a t))

-- ---- lists, one place more

-- the first of a list, if there is one
abbrev pub head_of : List ℕ → Option ℕ
head_of [] = none
head_of (x ∷ xs) = some x

pub keep_snoc : (p : ℕ → Bool) (ps : List ℕ) (x : ℕ) → keep p (ps ++ (x ∷ [])) ≡ keep p ps ++ cond (p x) (x ∷ []) []
keep_snoc p [] x = go (p x)
  where
    go : (b : Bool) → ◌≡◌ {A = List ℕ} (elim b [ true ↦ x ∷ [] | false ↦ [] ]) (cond b (x ∷ []) [])
    go true = refl
    go false = refl
keep_snoc p (y ∷ ps) x = go (p y) (keep_snoc p ps x)
  where
    go : (b : Bool) → keep p (ps ++ (x ∷ [])) ≡ keep p ps ++ cond (p x) (x ∷ []) []
        → ◌≡◌ {A = List ℕ} (elim b [ true ↦ y ∷ keep p (ps ++ (x ∷ [])) | false ↦ keep p (ps ++ (x ∷ [])) ])
        ((elim b as (λ z. List ℕ) [ true ↦ y ∷ keep p ps | false ↦ keep p ps ]) ++ cond (p x) (x ∷ []) [])
    go true e = ap (λ (l : List ℕ). y ∷ l) e
    go false e = e

keep_none : (p : ℕ → Bool) (ps : List ℕ) → ((x : ℕ) → T (has x ps) → T (p x) → ⊥) → keep p ps ≡ []
keep_none p [] h = refl
keep_none p (x ∷ ps) h =
    ap (λ (b : Bool). elim b as (λ z. List ℕ) [ true ↦ x ∷ keep p ps | false ↦ keep p ps ]) (no→false (p x) (first_of x ps h)) ∙ keep_none p ps (rest_of x ps h)

-- what a loop keeps while the prefix it has passed grows
pub fold_prefix : {S : Type 0} (I : List ℕ → S → Type 0) (step : S → ℕ → S) (n : ℕ) (xs : List ℕ)
    → ((ps : List ℕ) (x : ℕ) (s : S) → T (has x xs) → length ps < n → I ps s → I (ps ++ (x ∷ [])) (step s x))
    → (ps : List ℕ) (s : S) → length ps + length xs ≤ n → I ps s → I (ps ++ xs) (fold step s xs)
fold_prefix I step n [] h ps s l i = subst (λ (qs : List ℕ). I qs s) (sym (append-nil ps)) i
fold_prefix I step n (x ∷ xs) h ps s l i =
    subst (λ (qs : List ℕ). I qs (fold step (step s x) xs)) (append_assoc ps (x ∷ []) xs)
    (fold_prefix I step n xs (λ qs y t u. h qs y t (has_tail y x xs u)) (ps ++ (x ∷ [])) (step s x) (omega (arith, length-append ps (x ∷ [])))
    (h ps x s (has_head x x xs refl) (omega arith) i))

-- ---- the highest so far

module _ (k : ℕ → Bool) (f : ℕ → ℤ) where
  -- a place that is looked at and reaches the highest number
  abbrev pub reaches : ℤ → ℕ → Bool
  reaches m i = k i && (le_z (pos 0) m && same (f i) m)

  -- after the places ps the highest number, at least -1, is m, and the places of it, if it is 0 or more, are ls
  pub record Scanned (ps : List ℕ) (m : ℤ) (ls : List ℕ) : Type 0 where
    pub low : T (le_z (negsuc 0) m)
    pub bound : (x : ℕ) → T (has x ps) → T (k x) → T (le_z (f x) m)
    pub attained : T (le_z (pos 0) m) → (y : ℕ) × T (has y ps) × T (k y) × (f y ≡ m)
    pub tops : ls ≡ keep (reaches m) ps

  pub scanned_none : Scanned [] (negsuc 0) []
  scanned_none = record { low = tt; bound = λ x t. absurd t; attained = λ t. absurd t; tops = refl }

  -- the next place
  only : {P : Type 0} (x y : ℕ) → T (has x (y ∷ [])) → (x ≡ y → P) → P
  only x y t p = has_cases x y [] p (λ u. absurd u) t

  pub scanned_higher : (ps : List ℕ) (m : ℤ) (ls : List ℕ) (x : ℕ) → T (k x) → T (lt_z m (f x)) → Scanned ps m ls → Scanned (ps ++ (x ∷ [])) (f x) (x ∷ [])
  scanned_higher ps m ls x t u s =
      record {
        low = le_z_trans (negsuc 0) m (f x) s.low (lt_le m (f x) u);
        bound = λ y v w.
            ⊎_elim (λ a. le_z_trans (f y) m (f x) (s.bound y a w) (lt_le m (f x) u)) (λ a. only y x a (λ e. le_z_same (f y) (f x) (ap f e)))
            (has_append_cases y ps (x ∷ []) v);
        attained = λ v. (x, has_append_right x ps (x ∷ []) (has_head x x [] refl), t, refl);
        tops = sym (keep_snoc (reaches (f x)) ps x ∙ ap₂ (λ l b. l ++ cond b (x ∷ []) []) (keep_none (reaches (f x)) ps lower) (T→true (reaches (f x) x) itself));
      }
    where
      lower : (y : ℕ) → T (has y ps) → T (reaches (f x) y) → ⊥
      lower y a b =
          lt_not m (f x) u (le_z_trans (f x) (f y) m
          (and_right (le_z (f y) (f x)) (le_z (f x) (f y)) (and_right (le_z (pos 0) (f x)) (same (f y) (f x)) (and_right (k y) (le_z (pos 0) (f x) && same (f y) (f x)) b)))
          (s.bound y a (and_left (k y) (le_z (pos 0) (f x) && same (f y) (f x)) b)))

      itself : T (reaches (f x) x)
      itself =
          and_both (k x) (le_z (pos 0) (f x) && same (f x) (f x)) t (and_both (le_z (pos 0) (f x)) (same (f x) (f x)) (above_low m (f x) s.low u)
          (and_both (le_z (f x) (f x)) (le_z (f x) (f x)) (le_z_same (f x) (f x) refl) (le_z_same (f x) (f x) refl)))

  pub scanned_same : (ps : List ℕ) (m : ℤ) (ls : List ℕ) (x : ℕ) → (T (k x) → T (le_z (f x) m)) → Scanned ps m ls → Scanned (ps ++ (x ∷ [])) m (ls ++ cond (reaches m x) (x ∷ []) [])
  scanned_same ps m ls x h s =
      record {
        low = s.low;
        bound = λ y v w. ⊎_elim (λ a. s.bound y a w) (λ a. only y x a (λ e. rw e (h (rw e at w)))) (has_append_cases y ps (x ∷ []) v);
        attained = λ v. let y = s.attained v in (y.0, has_append_left y.0 ps (x ∷ []) y.1, y.2, y.3);
        tops = ap (λ (l : List ℕ). l ++ cond (reaches m x) (x ∷ []) []) s.tops ∙ sym (keep_snoc (reaches m) ps x);
      }

  -- the first of the highest stays the first
  pub head_stays : (ps : List ℕ) (m : ℤ) (ls : List ℕ) (x : ℕ) → Scanned ps m ls → head_of (ls ++ cond (reaches m x) (x ∷ []) []) ≡ head_of ls
  head_stays ps m ls x s = go ls (reaches m x) refl some_yet
    where
      some_yet : T (reaches m x) → 1 ≤ length ls
      some_yet t =
          let z = and_left (le_z (pos 0) m) (same (f x) m) (and_right (k x) (le_z (pos 0) m && same (f x) m) t) in
          let y = s.attained z in
          has_length y.0 ls (rw s.tops (has_keep (reaches m) y.0 ps y.1
          (and_both (k y.0) (le_z (pos 0) m && same (f y.0) m) y.2 (and_both (le_z (pos 0) m) (same (f y.0) m) z
          (and_both (le_z (f y.0) m) (le_z m (f y.0)) (le_z_same (f y.0) m y.3) (le_z_same m (f y.0) (sym y.3)))))))

      go : (ls : List ℕ) (b : Bool) → reaches m x ≡ b → (T (reaches m x) → 1 ≤ length ls) → head_of (ls ++ cond b (x ∷ []) []) ≡ head_of ls
      go [] true e h = absurd (omega (arith, h (rw e tt)))
      go [] false e h = refl
      go (y ∷ ls) b e h = refl
