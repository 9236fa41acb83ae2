-- The work area by its places: each cell's five numbers, and what was there past them. Assumes nothing.
use Prim.Native.Nat.{ℕ, ◌%◌, ◌*◌, ◌+◌, ◌-◌, ◌/◌, ◌<◌, ◌≤◌, suc, zero, zero-le}
use native.Mathlib.Omega.{arith}
use native.Mathlib.Decide.{ℕ_discrete, dec_le}
use native.Mathlib.Nat.{add-sub_of_le, add-zero, zero-add}
use mathlib.Core.Path.{◌∙◌, ◌≡◌, ap, refl, subst, sym}
use mathlib.Core.Logic.{◌⊎◌, inl, inr}
use mathlib.Core.List.{List, [], ◌∷◌}
use lib.IntN.{pos, ℤ}
use lib.ListN.{get_or-append, drop, get_or, length, length-append, length-drop, length-set, set}
use lib.Seq.{ext_get_or, get_or-append-add, get_or-drop, get_or-set_other, get_or-set_same, set_comm, sets}
use Rattle.game.specs.Area.{begun, laid}
use Rattle.game.specs.Lists.{concat_map, fold, from, range}
use Rattle.game.proofs.Members.{suc_across}

-- ---- a run that begins with other entries

pub length_begun {ℓ} : {A : Type ℓ} (front old : List A) → length front ≤ length old → length (begun front old) ≡ length old
length_begun front old h = omega (arith, length-append front (drop (length front) old), length-drop (length front) old)

pub begun_front {ℓ} : {A : Type ℓ} (front old : List A) (k : ℕ) (d : A) → k < length front → get_or (begun front old) k d ≡ get_or front k d
begun_front front old k d h = get_or-append front (drop (length front) old) d k h

pub begun_past {ℓ} : {A : Type ℓ} (front old : List A) (k : ℕ) (d : A) → length front ≤ k → get_or (begun front old) k d ≡ get_or old k d
begun_past front old k d h =
    ap (λ (m : ℕ). get_or (begun front old) m d) there
    ∙ get_or-append-add front (drop (length front) old) (k - length front) d
    ∙ get_or-drop (length front) old (k - length front) d
    ∙ ap (λ (m : ℕ). get_or old m d) (sym there)
  where
    there : k ≡ length front + (k - length front)
    there = omega arith

-- ---- a run of entries set in the middle

module _ {A : Type 0} (d : A) where
  pub sets_below : (vs l : List A) (i m : ℕ) → m < i → get_or (sets l i vs) m d ≡ get_or l m d
  sets_below [] l i m h = refl
  sets_below (v ∷ vs) l i m h = sets_below vs (set l i v) (suc i) m (omega arith) ∙ get_or-set_other l i m v d (λ e. omega arith)

  pub sets_above : (vs l : List A) (i m : ℕ) → i + length vs ≤ m → get_or (sets l i vs) m d ≡ get_or l m d
  sets_above [] l i m h = refl
  sets_above (v ∷ vs) l i m h = sets_above vs (set l i v) (suc i) m (omega arith) ∙ get_or-set_other l i m v d (λ e. omega arith)

  pub sets_here : (vs l : List A) (i k : ℕ) → i + length vs ≤ length l → k < length vs → get_or (sets l i vs) (i + k) d ≡ get_or vs k d
  sets_here [] l i k h b = absurd (omega arith)
  sets_here (v ∷ vs) l i zero h b =
      ap (λ (m : ℕ). get_or (sets (set l i v) (suc i) vs) m d) (add-zero i) ∙ sets_below vs (set l i v) (suc i) i (omega arith)
      ∙ get_or-set_same l i v d (omega arith)
  sets_here (v ∷ vs) l i (suc k) h b =
      ap (λ (m : ℕ). get_or (sets (set l i v) (suc i) vs) m d) (sym (suc_across i k)) ∙ sets_here vs (set l i v) (suc i) k (omega (arith, length-set l i v)) (omega arith)

module _ {A : Type 0} where
  set_past : (vs l : List A) (i j : ℕ) (a : A) → i < j → sets (set l i a) j vs ≡ set (sets l j vs) i a
  set_past [] l i j a h = refl
  set_past (v ∷ vs) l i j a h =
      ap (λ (t : List A). sets t (suc j) vs) (set_comm l i j a v (λ e. omega arith)) ∙ set_past vs (set l j v) i (suc j) a (omega arith)

  -- two runs that lie apart, set in either order
  pub sets_apart : (us vs l : List A) (i j : ℕ) → i + length us ≤ j → sets (sets l i us) j vs ≡ sets (sets l j vs) i us
  sets_apart [] vs l i j h = refl
  sets_apart (u ∷ us) vs l i j h =
      sets_apart us vs (set l i u) (suc i) j (omega arith) ∙ ap (λ (t : List A). sets t (suc i) us) (set_past vs l i j u (omega arith))

-- ---- five numbers a cell

module _ (five : ℕ → List ℤ) (len : (i : ℕ) → length (five i) ≡ 5) where
  length_front : (n a : ℕ) → length (concat_map five (from a n)) ≡ 5 * n
  length_front zero a = refl
  length_front (suc n) a = omega (arith, length-append (five a) (concat_map five (from (suc a) n)), len a, length_front n (suc a))

  pub laid_front : (n : ℕ) → length (concat_map five (range 0 n)) ≡ 5 * n
  laid_front n = omega (arith, length_front (n - 0) 0)

  front_at : (n a j k : ℕ) → j < n → k < 5 → get_or (concat_map five (from a n)) (5 * j + k) (pos 0) ≡ get_or (five (a + j)) k (pos 0)
  front_at zero a j k h l = absurd (omega arith)
  front_at (suc n) a zero k h l =
      ap (λ (m : ℕ). get_or (concat_map five (from a (suc n))) m (pos 0)) first
      ∙ get_or-append (five a) (concat_map five (from (suc a) n)) (pos 0) k (omega (arith, len a))
      ∙ ap (λ (m : ℕ). get_or (five m) k (pos 0)) (sym (add-zero a))
    where
      first : 5 * 0 + k ≡ k
      first = omega arith
  front_at (suc n) a (suc j) k h l =
      ap (λ (m : ℕ). get_or (concat_map five (from a (suc n))) m (pos 0)) onwards
      ∙ get_or-append-add (five a) (concat_map five (from (suc a) n)) (5 * j + k) (pos 0)
      ∙ front_at n (suc a) j k (omega arith) l
      ∙ ap (λ (m : ℕ). get_or (five m) k (pos 0)) (suc_across a j)
    where
      onwards : 5 * suc j + k ≡ length (five a) + (5 * j + k)
      onwards = omega (arith, len a)

  -- the number k of the cell i
  pub laid_at : (n : ℕ) (old : List ℤ) (i k : ℕ) → i < n → k < 5 → get_or (laid five n old) (5 * i + k) (pos 0) ≡ get_or (five i) k (pos 0)
  unfolding laid
  laid_at n old i k h l =
      begun_front (concat_map five (range 0 n)) old (5 * i + k) (pos 0) (omega (arith, laid_front n))
      ∙ front_at (n - 0) 0 i k (omega arith) l
      ∙ ap (λ (m : ℕ). get_or (five m) k (pos 0)) (zero-add i)

  -- numbers past the cells are unchanged
  pub laid_past : (n : ℕ) (old : List ℤ) (k : ℕ) → 5 * n ≤ k → get_or (laid five n old) k (pos 0) ≡ get_or old k (pos 0)
  unfolding laid
  laid_past n old k h = begun_past (concat_map five (range 0 n)) old k (pos 0) (omega (arith, laid_front n))

  pub laid_length : (n : ℕ) (old : List ℤ) → 5 * n ≤ length old → length (laid five n old) ≡ length old
  unfolding laid
  laid_length n old h = length_begun (concat_map five (range 0 n)) old (omega (arith, laid_front n))

  -- it is the only such run
  pub laid_only : (n : ℕ) (old new : List ℤ) → 5 * n ≤ length old → length new ≡ length old
      → ((i k : ℕ) → i < n → k < 5 → get_or new (5 * i + k) (pos 0) ≡ get_or (five i) k (pos 0))
      → ((k : ℕ) → 5 * n ≤ k → get_or new k (pos 0) ≡ get_or old k (pos 0)) → new ≡ laid five n old
  laid_only n old new h l front past =
      ext_get_or (pos 0) new (laid five n old) (l ∙ sym (laid_length n old h)) (λ k b. same_at k)
    where
      parts : (k : ℕ) → 5 * (k / 5) + k % 5 ≡ k
      parts k = omega arith

      small : (k : ℕ) → k % 5 < 5
      small k = omega arith

      cell : (k : ℕ) → k < 5 * n → k / 5 < n
      cell k h = omega arith

      same_at : (k : ℕ) → get_or new k (pos 0) ≡ get_or (laid five n old) k (pos 0)
      same_at k =
          elim (dec_le (5 * n) k) [
            | yes b ↦ past k b ∙ sym (laid_past n old k b)
            | no b ↦ ap (λ (m : ℕ). get_or new m (pos 0)) (sym (parts k)) ∙ front (k / 5) (k % 5) (cell k (omega arith)) (small k)
                ∙ sym (laid_at n old (k / 5) (k % 5) (cell k (omega arith)) (small k)) ∙ ap (λ (m : ℕ). get_or (laid five n old) m (pos 0)) (parts k)
          ]

-- cells laid one after the other, each from what was there before
module _ (five : ℕ → List ℤ) (len : (i : ℕ) → length (five i) ≡ 5) (n : ℕ) (old : List ℤ) (room : 5 * n ≤ length old) (step : List ℤ → ℕ → List ℤ) where
  -- the first i cells are laid, the rest is as it was
  pub record LaidTo (i : ℕ) (w : List ℤ) : Type 0 where
    pub long : length w ≡ length old
    pub done : (j k : ℕ) → j < i → k < 5 → get_or w (5 * j + k) (pos 0) ≡ get_or (five j) k (pos 0)
    pub rest : (m : ℕ) → 5 * i ≤ m → get_or w m (pos 0) ≡ get_or old m (pos 0)

  module _ (long : (w : List ℤ) (i : ℕ) → length (step w i) ≡ length w)
      (here : (w : List ℤ) (i k : ℕ) → i < n → LaidTo i w → k < 5 → get_or (step w i) (5 * i + k) (pos 0) ≡ get_or (five i) k (pos 0))
      (there : (w : List ℤ) (i m : ℕ) → i < n → LaidTo i w → (m < 5 * i) ⊎ (5 * i + 5 ≤ m) → get_or (step w i) m (pos 0) ≡ get_or w m (pos 0)) where
    one_laid : (w : List ℤ) (i : ℕ) → i < n → LaidTo i w → LaidTo (suc i) (step w i)
    one_laid w i h l =
        record {
          long = long w i ∙ l.long;
          done = λ j k a b. elim (ℕ_discrete j i) [
            | yes e ↦ subst (λ (x : ℕ). get_or (step w i) (5 * x + k) (pos 0) ≡ get_or (five x) k (pos 0)) (sym e) (here w i k h l b)
            | no f ↦ there w i (5 * j + k) h l (inl (omega arith)) ∙ l.done j k (omega arith) b
          ];
          rest = λ m a. there w i m h l (inr (omega arith)) ∙ l.rest m (omega arith);
        }

    laid_from : (k i : ℕ) (w : List ℤ) → i + k ≤ n → LaidTo i w → LaidTo (i + k) (fold step w (from i k))
    laid_from zero i w h l = subst (λ (m : ℕ). LaidTo m w) (sym (add-zero i)) l
    laid_from (suc k) i w h l =
        subst (λ (m : ℕ). LaidTo m (fold step w (from i (suc k)))) (suc_across i k) (laid_from k (suc i) (step w i) (omega arith) (one_laid w i (omega arith) l))

    -- together they are laid
    pub laid_fold : fold step old (range 0 n) ≡ laid five n old
    laid_fold =
        let l = subst (λ (m : ℕ). LaidTo m (fold step old (range 0 n))) (add-sub_of_le zero-le)
        (laid_from (n - 0) 0 old (omega arith) (record { long = refl; done = λ j k a b. absurd (omega arith); rest = λ m a. refl })) in
        laid_only five len n old (fold step old (range 0 n)) room l.long l.done l.rest

-- numbers laid over numbers laid: the later ones stand
pub laid_again : (five other : ℕ → List ℤ) → ((i : ℕ) → length (five i) ≡ 5) → ((i : ℕ) → length (other i) ≡ 5) → (n : ℕ) (old : List ℤ) → 5 * n ≤ length old
    → laid five n (laid other n old) ≡ laid five n old
laid_again five other l k n old h =
    laid_only five l n old (laid five n (laid other n old)) h
    (laid_length five l n (laid other n old) (omega (arith, laid_length other k n old h)) ∙ laid_length other k n old h)
    (λ i m a b. laid_at five l n (laid other n old) i m a b)
    (λ m a. laid_past five l n (laid other n old) m a ∙ laid_past other k n old m a)

-- ---- in the middle of a pass over cells that were laid before

module _ (five other : ℕ → List ℤ) (len : (i : ℕ) → length (five i) ≡ 5) (len' : (i : ℕ) → length (other i) ≡ 5) (n : ℕ) (old : List ℤ)
    (room : 5 * n ≤ length (laid other n old)) (step : List ℤ → ℕ → List ℤ) (i : ℕ) (w : List ℤ) (l : LaidTo five len n (laid other n old) room step i w) where
  -- a cell that the pass has not come to is as it was
  pub laid_ahead : (j k : ℕ) → i ≤ j → j < n → k < 5 → get_or w (5 * j + k) (pos 0) ≡ get_or (other j) k (pos 0)
  laid_ahead j k h a b = l.rest (5 * j + k) (omega arith) ∙ laid_at other len' n old j k a b
