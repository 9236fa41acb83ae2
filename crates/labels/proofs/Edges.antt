-- One more label at a cell: what it makes of the labels, and that all else stays. Putting it twice is putting it once. Assumes nothing.
use Prim.Native.Nat.{ℕ, ◌%◌, ◌<◌, ◌≤◌}
use native.Mathlib.Omega.{arith}
use mathlib.Core.Path.{◌∙◌, ◌≡◌, ap, refl, subst, sym}
use mathlib.Core.Bool.{Bool, ◌&&◌, false, not, true}
use mathlib.Core.List.{List}
use borrow.Author.Tests.{eq-eqb, eqb-false, eqb-true, lt-ltb, ltb-true, ne_eqb, not-false, not-true}
use lib.Dec.{T, eqb, ltb}
use lib.IntN.{pos, ℤ}
use lib.ListN.{get_or, length, length-set, set}
use lib.Seq.{get_or-set_other, get_or-set_same}
use Rattle.area.specs.Numbers.{HasCell, first_at, first_place, content_at, content_place, natural, put_at, second_at, second_place}
use Rattle.labels.specs.Labels.{Fresh, edge_first, edge_second, fresh_cell, put_label}
use Rattle.game.proofs.Truth.{and_yes}

-- a test decides
pub split : {A : Type 0} (b : Bool) → (b ≡ true → A) → (b ≡ false → A) → A
split true f g = f refl
split false f g = g refl

-- ---- labels twice

module _ (op : ℕ) (o : 1 ≤ op) where
  some_op : eqb op 0 ≡ false
  some_op = ne_eqb op 0 (λ e. omega arith)

  pub first_twice : (a : ℕ) → edge_first op (edge_first op a) ≡ edge_first op a
  unfolding edge_first
  first_twice a = split (eqb a 0) (λ e. simp (e, some_op)) (λ e. simp (e, e))

  pub second_twice : (a b : ℕ) → edge_second op (edge_first op a) (edge_second op a b) ≡ edge_second op a b
  unfolding edge_first edge_second
  second_twice a b =
      split (eqb a 0) (λ e. simp (e, some_op, eq-eqb op op refl)) (λ e.
      split (eqb a op) (λ f. simp (e, f)) (λ f.
      split (eqb b 0) (λ h. simp (e, f, h, some_op)) (λ h. simp (e, f, h))))

  pub first_some : (a : ℕ) → 1 ≤ edge_first op a
  unfolding edge_first
  first_some a = split (eqb a 0) (λ e. simp e o) (λ e. simp e (let n = eqb-false a 0 e in omega arith))

-- ---- the label is put

module _ (op a b : ℕ) (fit : op < 2147483648) (h : a < 2147483648) where
  first_fits : edge_first op a % 2147483648 ≡ edge_first op a
  unfolding edge_first
  first_fits = split (eqb a 0) (λ e. simp e (omega arith)) (λ e. simp e (omega arith))

  second_fits : b < 2147483648 → edge_second op a b % 2147483648 ≡ edge_second op a b
  unfolding edge_second
  second_fits l =
      split (eqb a 0) (λ e. simp e (omega arith)) (λ e.
      split (eqb a op) (λ f. simp (e, f) (omega arith)) (λ f.
      split (eqb b 0) (λ d. simp (e, f, d) (omega arith)) (λ d. simp (e, f, d) (omega arith))))

pub labelled_by : (w w1 w2 : List ℤ) (i op a b x y : ℕ) → op < 2147483648 → (a ≡ first_at w i) × (a < 2147483648) → (b ≡ second_at w i) × (b < 2147483648)
    → x ≡ edge_first op a → y ≡ edge_second op a b → w1 ≡ put_at w (first_place i) x → w2 ≡ put_at w1 (second_place i) y → w2 ≡ put_label w i op
unfolding put_label
labelled_by w w1 w2 i op a b x y fit ea eb ex ey e1 e2 =
    let px : x % 2147483648 ≡ edge_first op (first_at w i) = ap (λ (n : ℕ). n % 2147483648) ex ∙ first_fits op a b fit ea.1 ∙ ap (edge_first op) ea.0 in
    let py : y % 2147483648 ≡ edge_second op (first_at w i) (second_at w i) =
    ap (λ (n : ℕ). n % 2147483648) ey ∙ second_fits op a b fit ea.1 eb.1 ∙ cc (ea.0, eb.0) in
    e2 ∙ ap (λ (n : ℕ). set w1 (second_place i) (pos n)) py
    ∙ ap (λ (l : List ℤ). set l (second_place i) (pos (edge_second op (first_at w i) (second_at w i)))) (e1 ∙ ap (λ (n : ℕ). set w (first_place i) (pos n)) px)

-- what two stores at a cell's labels do at each place
module _ (w : List ℤ) (i : ℕ) (a b : ℤ) where
  two_first : HasCell w i → get_or (set (set w (first_place i) a) (second_place i) b) (first_place i) (pos 0) ≡ a
  two_first h = get_or-set_other (set w (first_place i) a) (second_place i) (first_place i) b (pos 0) (λ e. omega arith) ∙ get_or-set_same w (first_place i) a (pos 0) (omega arith)

  two_second : HasCell w i → get_or (set (set w (first_place i) a) (second_place i) b) (second_place i) (pos 0) ≡ b
  two_second h = get_or-set_same (set w (first_place i) a) (second_place i) b (pos 0) (omega (arith, length-set w (first_place i) a))

  two_other : (x : ℕ) → (x ≡ first_place i → ⊥) → (x ≡ second_place i → ⊥) → get_or (set (set w (first_place i) a) (second_place i) b) x (pos 0) ≡ get_or w x (pos 0)
  two_other x f h = get_or-set_other (set w (first_place i) a) (second_place i) x b (pos 0) h ∙ get_or-set_other w (first_place i) x a (pos 0) f

  two_long : length (set (set w (first_place i) a) (second_place i) b) ≡ length w
  two_long = length-set (set w (first_place i) a) (second_place i) b ∙ length-set w (first_place i) a

module _ (w : List ℤ) (i op : ℕ) where
  pub labelled_first : HasCell w i → get_or (put_label w i op) (first_place i) (pos 0) ≡ pos (edge_first op (first_at w i))
  unfolding put_label
  labelled_first h = two_first w i (pos (edge_first op (first_at w i))) (pos (edge_second op (first_at w i) (second_at w i))) h

  pub labelled_second : HasCell w i → get_or (put_label w i op) (second_place i) (pos 0) ≡ pos (edge_second op (first_at w i) (second_at w i))
  unfolding put_label
  labelled_second h = two_second w i (pos (edge_first op (first_at w i))) (pos (edge_second op (first_at w i) (second_at w i))) h

  pub labelled_other : (x : ℕ) → (x ≡ first_place i → ⊥) → (x ≡ second_place i → ⊥) → get_or (put_label w i op) x (pos 0) ≡ get_or w x (pos 0)
  unfolding put_label
  labelled_other x f h = two_other w i (pos (edge_first op (first_at w i))) (pos (edge_second op (first_at w i) (second_at w i))) x f h

  pub labelled_content : content_at (put_label w i op) i ≡ content_at w i
  labelled_content = ap natural (labelled_other (content_place i) (λ e. omega arith) (λ e. omega arith))

  pub labelled_long : length (put_label w i op) ≡ length w
  unfolding put_label
  labelled_long = two_long w i (pos (edge_first op (first_at w i))) (pos (edge_second op (first_at w i) (second_at w i)))

-- ---- what the tests tell

module _ (n : ℕ) (w : List ℤ) (i : ℕ) (r : Bool) where
  pub fresh_yes : r ≡ fresh_cell n w i → not r ≡ false → Fresh n w i
  fresh_yes e t =
      let a = and_yes (ltb i n) (eqb (content_at w i) 1 && eqb (first_at w i) 0) (sym e ∙ not-false r t) in
      let b = and_yes (eqb (content_at w i) 1) (eqb (first_at w i) 0) a.1 in
      record { inside = ltb-true i n a.0; zero-cell = eqb-true (content_at w i) 1 b.0; unlabelled = eqb-true (first_at w i) 0 b.1 }

  pub fresh_no : r ≡ fresh_cell n w i → not r ≡ true → Fresh n w i → ⊥
  fresh_no e t f =
      let z : true ≡ fresh_cell n w i = simp (lt-ltb i n f.inside, eq-eqb (content_at w i) 1 f.zero-cell, eq-eqb (first_at w i) 0 f.unlabelled) in
      subst T (sym (sym (not-true r t) ∙ e ∙ sym z)) tt
