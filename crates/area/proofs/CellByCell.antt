-- The work area cell by cell: what a number read is, what a number put changes, what is done with each of a list of cells. Assumes nothing.
use Prim.Native.Nat.{ℕ, ◌%◌, ◌*◌, ◌+◌, ◌-◌, ◌<◌, ◌≤◌}
use native.Mathlib.Omega.{arith}
use native.Mathlib.Decide.{ℕ_discrete}
use mathlib.Core.Path.{◌∙◌, ◌≡◌, ap, refl, sym}
use mathlib.Core.Bool.{Bool, cond, false, true}
use mathlib.Core.List.{List, [], ◌∷◌}
use lib.Dec.{T, eqb}
use lib.IntN.{pos, ℤ}
use lib.ListN.{get_or, length, length-set, set}
use lib.Seq.{get_or-set_other, get_or-set_same}
use Rattle.game.specs.Area.{laid}
use Rattle.game.specs.Lists.{fold, has}
use Rattle.game.proofs.Areas.{laid_at, laid_length, laid_only, laid_past}
use Rattle.game.proofs.Counts.{Once}
use Rattle.game.proofs.Members.{first_of, rest_of}
use Rattle.game.proofs.Truth.{no→false}
use Rattle.area.specs.Numbers.{first_at, five, content_at, natural, number_at, premium_at, put_at, put_premium, put_state, second_at, state_at}
use Rattle.area.specs.Squares.{shifted}
use borrow.Author.Tests.{eq-eqb, ne_eqb}

-- a cell's five numbers
pub record Cell : Type 0 where
  pub first : ℕ
  pub second : ℕ
  pub premium : ℕ
  pub state : ℕ
  pub content : ℕ

abbrev pub numbers : Cell → List ℤ
numbers c = five c.first c.second c.content c.state c.premium

-- the work area of such cells
abbrev pub cell_area : (ℕ → Cell) → ℕ → List ℤ → List ℤ
cell_area C n old = laid (λ i. numbers (C i)) n old

-- the cells with another at i
abbrev pub at : (ℕ → Cell) → ℕ → Cell → ℕ → Cell
at C i c x = cond (eqb x i) c (C x)

pub at_here : (C : ℕ → Cell) (i : ℕ) (c : Cell) (x : ℕ) → x ≡ i → at C i c x ≡ c
at_here C i c x e = ap (λ (b : Bool). cond b c (C x)) (eq-eqb x i e)

pub at_other : (C : ℕ → Cell) (i : ℕ) (c : Cell) (x : ℕ) → (x ≡ i → ⊥) → at C i c x ≡ C x
at_other C i c x n = ap (λ (b : Bool). cond b c (C x)) (ne_eqb x i n)

-- two changes of one cell: the later stands
pub at_again : (C : ℕ → Cell) (i : ℕ) (c d : Cell) (x : ℕ) → at (at C i c) i d x ≡ at C i d x
at_again C i c d x = go (eqb x i)
  where
    go : (b : Bool) → cond b d (cond b c (C x)) ≡ cond b d (C x)
    go true = refl
    go false = refl

-- the area with another number of one cell
set_five : (five other : ℕ → List ℤ) → ((i : ℕ) → length (five i) ≡ 5) → ((i : ℕ) → length (other i) ≡ 5) → (n : ℕ) (old : List ℤ) → 5 * n ≤ length old
    → (i j : ℕ) (v : ℤ) → i < n → j < 5 → other i ≡ set (five i) j v → ((x : ℕ) → (x ≡ i → ⊥) → other x ≡ five x)
    → set (laid five n old) (5 * i + j) v ≡ laid other n old
set_five five other l m n old room i j v h k e f =
    laid_only other m n old (set w (5 * i + j) v) room (length-set w (5 * i + j) v ∙ laid_length five l n old room) front
    (λ y b. get_or-set_other w (5 * i + j) y v (pos 0) (λ q. away y b q) ∙ laid_past five l n old y b)
  where
    w : List ℤ
    w = laid five n old

    away : (y : ℕ) → 5 * n ≤ y → y ≡ 5 * i + j → ⊥
    away y b q = omega arith

    apart : (x y : ℕ) → y < 5 → (x ≡ i → ⊥) → 5 * x + y ≡ 5 * i + j → ⊥
    apart x y b q r = q (omega arith)

    here : (y : ℕ) → y < 5 → get_or (set w (5 * i + j) v) (5 * i + y) (pos 0) ≡ get_or (set (five i) j v) y (pos 0)
    here y b =
        elim (ℕ_discrete y j) [
          | yes q ↦ ap (λ (z : ℕ). get_or (set w (5 * i + j) v) (5 * i + z) (pos 0)) q
              ∙ get_or-set_same w (5 * i + j) v (pos 0) (omega (arith, laid_length five l n old room))
              ∙ sym (get_or-set_same (five i) j v (pos 0) (omega (arith, l i))) ∙ ap (λ (z : ℕ). get_or (set (five i) j v) z (pos 0)) (sym q)
          | no q ↦ get_or-set_other w (5 * i + j) (5 * i + y) v (pos 0) (λ r. q (omega arith)) ∙ laid_at five l n old i y h b
              ∙ sym (get_or-set_other (five i) j y v (pos 0) q)
        ]

    front : (x y : ℕ) → x < n → y < 5 → get_or (set w (5 * i + j) v) (5 * x + y) (pos 0) ≡ get_or (other x) y (pos 0)
    front x y a b =
        elim (ℕ_discrete x i) [
          | yes q ↦ ap (λ (z : ℕ). get_or (set w (5 * i + j) v) (5 * z + y) (pos 0)) q ∙ here y b
              ∙ ap (λ (z : List ℤ). get_or z y (pos 0)) (sym e) ∙ ap (λ (z : ℕ). get_or (other z) y (pos 0)) (sym q)
          | no q ↦ get_or-set_other w (5 * i + j) (5 * x + y) v (pos 0) (apart x y b q) ∙ laid_at five l n old x y a b
              ∙ ap (λ (z : List ℤ). get_or z y (pos 0)) (sym (f x q))
        ]

-- a cell with another premium
abbrev pub priced : ℕ → Cell → Cell
priced p c = record { first = c.first; second = c.second; premium = p % 2147483648; state = c.state; content = c.content }

-- with another state
abbrev pub stated : ℕ → Cell → Cell
stated k c = record { first = c.first; second = c.second; premium = c.premium; state = k % 2147483648; content = c.content }

module _ (n : ℕ) (old : List ℤ) (room : 5 * n ≤ length old) where
  -- areas whose cells are the same
  pub same_area : (C D : ℕ → Cell) → ((x : ℕ) → x < n → C x ≡ D x) → cell_area C n old ≡ cell_area D n old
  same_area C D e =
      laid_only (λ i. numbers (D i)) (λ i. refl) n old (cell_area C n old) room (laid_length (λ i. numbers (C i)) (λ i. refl) n old room)
      (λ i k h b. laid_at (λ i. numbers (C i)) (λ i. refl) n old i k h b ∙ ap (λ (c : Cell). get_or (numbers c) k (pos 0)) (e i h))
      (λ k h. laid_past (λ i. numbers (C i)) (λ i. refl) n old k h)

  -- a number put
  put_area : (C : ℕ → Cell) (i j v : ℕ) (c : Cell) → i < n → j < 5 → numbers c ≡ set (numbers (C i)) j (pos (v % 2147483648))
      → put_at (cell_area C n old) (5 * i + j) v ≡ cell_area (at C i c) n old
  put_area C i j v c h k e =
      set_five (λ x. numbers (C x)) (λ x. numbers (at C i c x)) (λ x. refl) (λ x. refl) n old room i j (pos (v % 2147483648)) h k
      (ap numbers (at_here C i c i refl) ∙ e) (λ x q. ap numbers (at_other C i c x q))

  -- another number of the same cell
  put_again : (C : ℕ → Cell) (i j v : ℕ) (c d : Cell) → i < n → j < 5 → numbers d ≡ set (numbers c) j (pos (v % 2147483648))
      → put_at (cell_area (at C i c) n old) (5 * i + j) v ≡ cell_area (at C i d) n old
  put_again C i j v c d h k e =
      put_area (at C i c) i j v d h k (e ∙ ap (λ (x : Cell). set (numbers x) j (pos (v % 2147483648))) (sym (at_here C i c i refl)))
      ∙ same_area (at (at C i c) i d) (at C i d) (λ x _. at_again C i c d x)

  -- a premium put
  pub put-premium : (C : ℕ → Cell) (i v : ℕ) → i < n → put_premium (cell_area C n old) i v ≡ cell_area (at C i (priced v (C i))) n old
  put-premium C i v h = put_area C i 4 v (priced v (C i)) h (omega arith) refl

  -- a state put
  pub put-state : (C : ℕ → Cell) (i v : ℕ) → i < n → put_state (cell_area C n old) i v ≡ cell_area (at C i (stated v (C i))) n old
  put-state C i v h = put_area C i 3 v (stated v (C i)) h (omega arith) refl

  -- a state put where another number was put before
  pub put_state_again : (C : ℕ → Cell) (i v : ℕ) (c : Cell) → i < n → put_state (cell_area (at C i c) n old) i v ≡ cell_area (at C i (stated v c)) n old
  put_state_again C i v c h = put_again C i 3 v c (stated v c) h (omega arith) refl

  -- a number read
  pub read_area : (C : ℕ → Cell) (i j : ℕ) → i < n → j < 5 → number_at (cell_area C n old) (5 * i + j) ≡ natural (get_or (numbers (C i)) j (pos 0))
  read_area C i j h k = ap natural (laid_at (λ x. numbers (C x)) (λ x. refl) n old i j h k)

  pub read_first : (C : ℕ → Cell) (i : ℕ) → i < n → first_at (cell_area C n old) i ≡ (C i).first
  read_first C i h = ap (number_at (cell_area C n old)) first ∙ read_area C i 0 h (omega arith)
    where
      first : 5 * i ≡ 5 * i + 0
      first = omega arith

  pub read_second : (C : ℕ → Cell) (i : ℕ) → i < n → second_at (cell_area C n old) i ≡ (C i).second
  read_second C i h = read_area C i 1 h (omega arith)

  pub read_premium : (C : ℕ → Cell) (i : ℕ) → i < n → premium_at (cell_area C n old) i ≡ (C i).premium
  read_premium C i h = read_area C i 4 h (omega arith)

  pub read_state : (C : ℕ → Cell) (i : ℕ) → i < n → state_at (cell_area C n old) i ≡ (C i).state
  read_state C i h = read_area C i 3 h (omega arith)

  pub read_content : (C : ℕ → Cell) (i : ℕ) → i < n → content_at (cell_area C n old) i ≡ (C i).content
  read_content C i h = read_area C i 2 h (omega arith)

  -- nothing put
  pub same_at : (C : ℕ → Cell) (i : ℕ) → cell_area C n old ≡ cell_area (at C i (C i)) n old
  same_at C i =
      same_area C (at C i (C i)) (λ x h.
      elim (ℕ_discrete x i) [ yes e ↦ ap C e ∙ sym (at_here C i (C i) x e) | no q ↦ sym (at_other C i (C i) x q) ])

-- ---- a premium shifts

abbrev pub shift_cell : ℕ → ℕ → Cell → Cell
shift_cell up down c = cond (eqb c.content 0) c (priced (c.premium + up - down) c)

pub shift_acts : (n : ℕ) (old : List ℤ) → 5 * n ≤ length old → (up down : ℕ) (C : ℕ → Cell) (i : ℕ) → i < n
    → shifted up down (cell_area C n old) i ≡ cell_area (at C i (shift_cell up down (C i))) n old
unfolding shifted
shift_acts n old room up down C i h = rw (read_content n old room C i h, read_premium n old room C i h) (go (eqb (C i).content 0))
  where
    go : (b : Bool) → cond b (cell_area C n old) (put_premium (cell_area C n old) i ((C i).premium + up - down))
        ≡ cell_area (at C i (cond b (C i) (priced ((C i).premium + up - down) (C i)))) n old
    go true = same_at n old room C i
    go false = put-premium n old room C i ((C i).premium + up - down) h

-- ---- and with each of a list of cells

-- what h makes of the listed cells
abbrev pub made : (Cell → Cell) → List ℕ → (ℕ → Cell) → ℕ → Cell
made h xs C x = cond (has x xs) (h (C x)) (C x)

-- one more cell, listed first
pub made_more : (h : Cell → Cell) (y : ℕ) (xs : List ℕ) (C : ℕ → Cell) → Once (y ∷ xs) → (x : ℕ) → made h xs (at C y (h (C y))) x ≡ made h (y ∷ xs) C x
made_more h y xs C o x =
    elim (ℕ_discrete x y) [ yes e ↦ rw (eq-eqb x y e, e, no→false (has y xs) o.0) | no q ↦ rw (ne_eqb x y q) ]

module _ (n : ℕ) (old : List ℤ) (room : 5 * n ≤ length old) where
  pub fold_acts : (f : List ℤ → ℕ → List ℤ) (h : Cell → Cell)
      → ((C : ℕ → Cell) (i : ℕ) → i < n → f (cell_area C n old) i ≡ cell_area (at C i (h (C i))) n old)
      → (xs : List ℕ) (C : ℕ → Cell) → Once xs → ((x : ℕ) → T (has x xs) → x < n) → fold f (cell_area C n old) xs ≡ cell_area (made h xs C) n old
  fold_acts f h acts [] C o b = refl
  fold_acts f h acts (y ∷ xs) C o b =
      ap (λ (w : List ℤ). fold f w xs) (acts C y (first_of y xs b)) ∙ fold_acts f h acts xs (at C y (h (C y))) o.1 (rest_of y xs b)
      ∙ same_area n old room (made h xs (at C y (h (C y)))) (made h (y ∷ xs) C) (λ x _. made_more h y xs C o x)
