-- Sweeps of runs of cells and of columns: cells are swept independently of each other, labels stay, and a cell without the label is left as it is. Assumes nothing.
use Prim.Native.Nat.{ℕ, ◌%◌, ◌*◌, ◌+◌, ◌-◌, ◌<◌, ◌≤◌, suc, zero}
use native.Mathlib.Omega.{arith}
use native.Mathlib.Nat.{add-sub_of_le, add-zero, mul-le-mul_right}
use mathlib.Core.Path.{◌∙◌, ◌≡◌, ap, ap₂, refl, sym}
use mathlib.Core.Bool.{Bool, ◌||◌, cond, false, true}
use mathlib.Core.List.{List, [], ◌∷◌}
use lib.Dec.{T, eqb}
use lib.IntN.{pos, ℤ}
use lib.Seq.{set_comm}
use Rattle.game.specs.Lists.{bit, fold, has, range}
use Rattle.game.proofs.Counts.{bit_small, count_ext, count_more}
use Rattle.game.proofs.Members.{first_of, fold_more, has_head, has_range, has_tail, range_none, rest_of}
use Rattle.game.proofs.Truth.{no→false}
use Rattle.game.proofs.Squares.{next_column}
use Rattle.area.specs.Numbers.{first_place, number_at, premium_at, premium_place, put_premium, put_state, second_place, state_at, state_place}
use Rattle.play.specs.Walks.{CellSwept, LeftSwept, RightSwept, RunSwept, SweptOver, labelled_at, labelled_in, swept_cell}
use Rattle.play.proofs.Steps.{put_other}

-- ---- one cell: what is put in it is seen nowhere else

-- what a sweep does with a cell that was read so
abbrev act : Bool → Bool → ℕ → List ℤ → ℕ → List ℤ
act a b p w i = cond a (cond b (put_state w i 1) (put_premium w i (p - 1))) w

kept : (label : ℕ) (w : List ℤ) (j q : ℕ) → (q ≡ state_place j → ⊥) → (q ≡ premium_place j → ⊥) → number_at (swept_cell label w j) q ≡ number_at w q
unfolding swept_cell
kept label w j q m n = go (labelled_at label w j) (eqb (state_at w j) 0)
  where
    go : (a b : Bool) → number_at (act a b (premium_at w j) w j) q ≡ number_at w q
    go true true = put_other w (state_place j) q 1 m
    go true false = put_other w (premium_place j) q (premium_at w j - 1) n
    go false b = refl

label_kept : (label : ℕ) (w : List ℤ) (j i : ℕ) → labelled_at label (swept_cell label w j) i ≡ labelled_at label w i
label_kept label w j i =
    ap₂ (λ (a b : ℕ). eqb a label || eqb b label) (kept label w j (first_place i) (λ e. omega arith) (λ e. omega arith))
    (kept label w j (second_place i) (λ e. omega arith) (λ e. omega arith))

module _ (label : ℕ) (w : List ℤ) (i j : ℕ) (n : i ≡ j → ⊥) where
  state_kept : state_at (swept_cell label w j) i ≡ state_at w i
  state_kept = kept label w j (state_place i) (λ e. n (omega arith)) (λ e. omega arith)

  premium_kept : premium_at (swept_cell label w j) i ≡ premium_at w i
  premium_kept = kept label w j (premium_place i) (λ e. omega arith) (λ e. n (omega arith))

  -- two cells in either order
  act_swap : (a b c d : Bool) (p q : ℕ) → act a b p (act c d q w j) i ≡ act c d q (act a b p w i) j
  act_swap true true true true p q = set_comm w (state_place j) (state_place i) (pos (1 % 2147483648)) (pos (1 % 2147483648)) (λ e. n (omega arith))
  act_swap true true true false p q = set_comm w (premium_place j) (state_place i) (pos ((q - 1) % 2147483648)) (pos (1 % 2147483648)) (λ e. omega arith)
  act_swap true false true true p q = set_comm w (state_place j) (premium_place i) (pos (1 % 2147483648)) (pos ((p - 1) % 2147483648)) (λ e. omega arith)
  act_swap true false true false p q = set_comm w (premium_place j) (premium_place i) (pos ((q - 1) % 2147483648)) (pos ((p - 1) % 2147483648)) (λ e. n (omega arith))
  act_swap true true false d p q = refl
  act_swap true false false d p q = refl
  act_swap false b c d p q = refl

  act_kept : swept_cell label (swept_cell label w j) i ≡ act (labelled_at label w i) (eqb (state_at w i) 0) (premium_at w i) (swept_cell label w j) i
  unfolding swept_cell
  act_kept = rw (label_kept label w j i, state_kept, premium_kept)

cell_swap : (label : ℕ) (w : List ℤ) (i j : ℕ) → (i ≡ j → ⊥) → swept_cell label (swept_cell label w j) i ≡ swept_cell label (swept_cell label w i) j
unfolding swept_cell
cell_swap label w i j n =
    act_kept label w i j n
    ∙ act_swap label w i j n (labelled_at label w i) (eqb (state_at w i) 0) (labelled_at label w j) (eqb (state_at w j) 0) (premium_at w i) (premium_at w j)
    ∙ sym (act_kept label w j i (λ e. n (sym e)))

-- ---- lists of cells

module _ (label : ℕ) where
  fold_past : (w : List ℤ) (i : ℕ) (ys : List ℕ) → (T (has i ys) → ⊥) → fold (swept_cell label) (swept_cell label w i) ys ≡ swept_cell label (fold (swept_cell label) w ys) i
  fold_past w i [] n = refl
  fold_past w i (y ∷ ys) n =
      ap (λ (v : List ℤ). fold (swept_cell label) v ys) (cell_swap label w y i (λ e. n (has_head i y ys (sym e))))
      ∙ fold_past (swept_cell label w y) i ys (λ u. n (has_tail i y ys u))

  -- two lists that share no cell, in either order
  fold_swap : (w : List ℤ) (xs ys : List ℕ) → ((x : ℕ) → T (has x xs) → T (has x ys) → ⊥)
      → fold (swept_cell label) (fold (swept_cell label) w xs) ys ≡ fold (swept_cell label) (fold (swept_cell label) w ys) xs
  fold_swap w [] ys n = refl
  fold_swap w (x ∷ xs) ys n =
      fold_swap (swept_cell label w x) xs ys (rest_of x xs n)
      ∙ ap (λ (v : List ℤ). fold (swept_cell label) v xs) (fold_past w x ys (first_of x xs n))

  -- the labels after a sweep
  label_after : (w : List ℤ) (xs : List ℕ) (i : ℕ) → labelled_at label (fold (swept_cell label) w xs) i ≡ labelled_at label w i
  label_after w [] i = refl
  label_after w (x ∷ xs) i = label_after (swept_cell label w x) xs i ∙ label_kept label w x i

  -- none of the cells has the label: nothing is done
  fold_none : (w : List ℤ) (xs : List ℕ) → ((x : ℕ) → T (has x xs) → T (labelled_at label w x) → ⊥) → fold (swept_cell label) w xs ≡ w
  unfolding swept_cell
  fold_none w [] n = refl
  fold_none w (x ∷ xs) n =
      ap (λ (v : List ℤ). fold (swept_cell label) v xs) left
      ∙ fold_none w xs (rest_of x xs n)
    where
      left : swept_cell label w x ≡ w
      left = rw (no→false (labelled_at label w x) (first_of x xs n))

-- ---- runs of cells

-- a run in two parts
fold_parts : {S : Type 0} (f : S → ℕ → S) (s : S) (a b n : ℕ) → a ≤ b → fold f s (range a (b + n)) ≡ fold f (fold f s (range a b)) (range b (b + n))
fold_parts f s a b zero h =
    ap (λ (k : ℕ). fold f s (range a k)) (add-zero b) ∙ sym (ap (fold f (fold f s (range a b))) (ap (range b) (add-zero b) ∙ range_none b))
fold_parts f s a b (suc n) h =
    ap (λ (k : ℕ). fold f s (range a k)) (next b n) ∙ fold_more f s a (b + n) (omega arith)
    ∙ ap (λ t. f t (b + n)) (fold_parts f s a b n h) ∙ sym (fold_more f (fold f s (range a b)) b (b + n) (omega arith))
    ∙ ap (λ (k : ℕ). fold f (fold f s (range a b)) (range b k)) (sym (next b n))
  where
    next : (b n : ℕ) → b + suc n ≡ b + n + 1
    next b n = omega arith

fold_both : {S : Type 0} (f : S → ℕ → S) (s : S) (a b c : ℕ) → a ≤ b → b ≤ c → fold f s (range a c) ≡ fold f (fold f s (range a b)) (range b c)
fold_both f s a b c h k = rw (add-sub_of_le k) at (fold_parts f s a b (c - b) h)

module _ (label a b c : ℕ) (w v u : List ℤ) (h : a ≤ b) (k : b ≤ c) where
  -- by the run that follows
  pub to_right : SweptOver label a b w v → SweptOver label b c v u → SweptOver label a c w u
  to_right s t =
      t ∙ ap (λ (z : List ℤ). fold (swept_cell label) z (range b c)) s ∙ sym (fold_both (swept_cell label) w a b c h k)

  -- by the run before
  to_left : SweptOver label b c w v → SweptOver label a b v u → SweptOver label a c w u
  to_left s t =
      t ∙ ap (λ (z : List ℤ). fold (swept_cell label) z (range a b)) s
      ∙ fold_swap label w (range b c) (range a b) (λ x m n. apart x (has_range b c x m) (has_range a b x n))
      ∙ sym (fold_both (swept_cell label) w a b c h k)
    where
      apart : (x : ℕ) → (b ≤ x) × (x < c) → (a ≤ x) × (x < b) → ⊥
      apart x m n = omega arith

-- a sweep of no cell
pub over_none : (label a : ℕ) (w : List ℤ) → SweptOver label a a w w
over_none label a w = sym (ap (fold (swept_cell label) w) (range_none a))

-- the labels that a sweep leaves
label_stays : (label a b : ℕ) (w v : List ℤ) (i : ℕ) → SweptOver label a b w v → labelled_at label v i ≡ labelled_at label w i
label_stays label a b w v i s = ap (λ (z : List ℤ). labelled_at label z i) s ∙ label_after label w (range a b) i

-- and how many have the label
pub labelled_stays : (label a b : ℕ) (w v : List ℤ) (d e : ℕ) → SweptOver label a b w v → labelled_in label v d e ≡ labelled_in label w d e
labelled_stays label a b w v d e s =
    count_ext (labelled_at label v) (labelled_at label w) (range d e) (λ x t. label_stays label a b w v x s)

-- a run that has every cell of the label is as good as all cells
pub over_all : (label n a b : ℕ) (w v : List ℤ) → a ≤ b → b ≤ n → SweptOver label a b w v
    → ((x : ℕ) → x < a → T (labelled_at label w x) → ⊥) → ((x : ℕ) → b ≤ x → x < n → T (labelled_at label w x) → ⊥) → SweptOver label 0 n w v
over_all label n a b w v h k s below above =
    to_right label 0 b n w v v (omega arith) k (to_right label 0 a b w w v (omega arith) h before s) after
  where
    before : SweptOver label 0 a w w
    before = sym (fold_none label w (range 0 a) (λ x t. below x (has_range 0 a x t).1))

    after : SweptOver label b n v v
    after =
        sym (fold_none label v (range b n) (λ x t l.
        let m = has_range b n x t in
        above x m.0 m.1 (rw (← label_stays label a b w v x s) l)))

-- ---- a run goes on by one cell, a walk by one column

-- one cell counts at most once
pub at_most_one : (label : ℕ) (w : List ℤ) (i n : ℕ) (v : List ℤ) → CellSwept label w i n v → n ≤ 1
at_most_one label w i n v c = omega (arith, c.found_it, bit_small (labelled_at label w i))

-- one cell more
pub run_more : (label a k : ℕ) (w v u : List ℤ) (n m : ℕ) → a ≤ k → RunSwept label a k w n v → CellSwept label v k m u → RunSwept label a (k + 1) w (n + m) u
run_more label a k w v u n m h s c =
    record {
      swept = c.area ∙ ap (λ (z : List ℤ). swept_cell label z k) s.swept ∙ sym (fold_more (swept_cell label) w a k h);
      labelled = omega (arith, s.labelled, c.found_it, ap bit (label_stays label a k w v k s.swept), count_more (labelled_at label w) a k h);
    }

-- no column yet
pub left_none : (rows label column : ℕ) (w : List ℤ) → SweptOver label ((column + 1) * rows) (column * rows + rows) w w
left_none rows label column w = rw (← next_column rows column) (over_none label (column * rows + rows) w)

module _ (rows label column left : ℕ) (w v u : List ℤ) (n : ℕ) (some : 0 < left) (few : left ≤ column + 1)
    (s : SweptOver label (left * rows) (column * rows + rows) w v) (t : RunSwept label ((left - 1) * rows) ((left - 1) * rows + rows) v n u) where
  seam_left : (left - 1) * rows + rows ≡ left * rows
  seam_left = go left some
    where
      back : (k : ℕ) → suc k - 1 ≡ k
      back k = omega arith

      up : (k : ℕ) → k * rows + rows ≡ suc k * rows
      up k = omega arith

      go : (k : ℕ) → 0 < k → (k - 1) * rows + rows ≡ k * rows
      go zero h = absurd (omega arith)
      go (suc k) h = ap (λ (m : ℕ). m * rows + rows) (back k) ∙ up k

  -- one column more to the left
  pub left_more : SweptOver label ((left - 1) * rows) (column * rows + rows) w u
  left_more =
      to_left label ((left - 1) * rows) (left * rows) (column * rows + rows) w v u (omega (arith, seam_left)) (omega (arith, mul-le-mul_right rows few)) s
      (rw seam_left at t.swept)

  -- and it has no cell of the label
  pub left_ends : n ≡ 0 → LeftSwept rows label column w u
  left_ends e =
      record {
        end = left - 1;
        on_left = omega arith;
        swept = left_more;
        ends = λ _. sym (labelled_stays label (left * rows) (column * rows + rows) w v ((left - 1) * rows) ((left - 1) * rows + rows) s) ∙ sym t.labelled ∙ e;
      }

module _ (rows columns label column right : ℕ) (w v u : List ℤ) (n : ℕ) (some : column ≤ right)
    (s : SweptOver label (column * rows) (right * rows) w v) (t : RunSwept label (right * rows) (right * rows + rows) v n u) where
  seam_right : right * rows + rows ≡ (right + 1) * rows
  seam_right = omega arith

  -- one column more to the right
  pub right_more : SweptOver label (column * rows) ((right + 1) * rows) w u
  right_more =
      to_right label (column * rows) (right * rows) ((right + 1) * rows) w v u (mul-le-mul_right rows some) (omega arith) s
      (rw seam_right at t.swept)

  -- and it has no cell of the label
  pub right_ends : right < columns → n ≡ 0 → RightSwept rows columns label column w u
  right_ends h e =
      record {
        end = right + 1;
        on_right = omega arith;
        in-columns = omega arith;
        swept = right_more;
        ends = λ last f _. rw (← ended last f) (sym (labelled_stays label (column * rows) (right * rows) w v (right * rows) (right * rows + rows) s) ∙ sym t.labelled ∙ e);
      }
    where
      ended : (last : ℕ) → right + 1 ≡ last + 1 → right ≡ last
      ended last f = omega arith
