-- A list of cells by what it holds at each index: what one change and a loop of changes make of it, by going down the indices. Assumes nothing.
use Prim.Native.Nat.{ℕ, ◌*◌, ◌+◌, ◌-◌, ◌<◌, min}
use native.Mathlib.Omega.{arith}
use native.Mathlib.Decide.{ℕ_discrete}
use mathlib.Core.Path.{◌∙◌, ◌≡◌, ap, ap₂, refl, subst, sym}
use mathlib.Core.Bool.{Bool, ◌||◌, cond, false, true}
use mathlib.Core.List.{List, [], ◌∷◌, map}
use lib.Dec.{T, eqb, ltb, ltb→lt, nltb→le}
use lib.IntN.{ℤ}
use lib.ListN.{length, length-set}
use lib.Seq.{get_or-set_other, get_or-set_same}
use Rattle.game.specs.Grid.{Grid, column_of, mine, near, row_of, size, square}
use Rattle.game.specs.Lists.{concat_map, count, fold, has, range}
use Rattle.original.specs.Cells.{Cells, Zcell, around, at, change, nought}
use Rattle.game.proofs.Counts.{Once, count_ext}
use Rattle.game.proofs.Members.{has_head, has_tail}
use Rattle.game.proofs.Squares.{column_lt, row_lt, square→}
use borrow.Author.Tests.{eq-eqb, ne_eqb}

-- ---- what a list holds at each index

pub record Table (n : ℕ) (F : ℕ → Zcell) (cs : Cells) : Type 0 where
  pub long : length cs ≡ n
  pub reads : (i : ℕ) → i < n → at cs i ≡ F i

pub table_ext : (n : ℕ) (F H : ℕ → Zcell) (cs : Cells) → ((i : ℕ) → i < n → F i ≡ H i) → Table n F cs → Table n H cs
table_ext n F H cs e t = record { long = t.long; reads = λ i h. t.reads i h ∙ e i h }

pub table_change : (n : ℕ) (F : ℕ → Zcell) (cs : Cells) (f : Zcell → Zcell) (k : ℕ) → Table n F cs → Table n (λ i. cond (eqb i k) (f (F i)) (F i)) (change f cs k)
table_change n F cs f k t =
    record {
      long = length-set cs k (f (at cs k)) ∙ t.long;
      reads = λ i h.
          elim (ℕ_discrete i k) [
            | yes e ↦ here i h e
            | no d ↦ get_or-set_other cs k i (f (at cs k)) nought d ∙ t.reads i h ∙ sym (ap (λ (b : Bool). cond b (f (F i)) (F i)) (ne_eqb i k d))
          ];
    }
  where
    here : (i : ℕ) → i < n → i ≡ k → at (change f cs k) i ≡ cond (eqb i k) (f (F i)) (F i)
    here i h e =
        ap (at (change f cs k)) e ∙ get_or-set_same cs k (f (at cs k)) nought (omega (arith, t.long)) ∙ ap (λ (x : ℕ). f (at cs x)) (sym e)
        ∙ ap f (t.reads i h) ∙ sym (ap (λ (b : Bool). cond b (f (F i)) (F i)) (eq-eqb i k e))

-- the cells that M names changed, each by its own f
abbrev pub mixed : (ℕ → Zcell → Zcell) → (ℕ → Zcell) → (ℕ → Bool) → ℕ → Zcell
mixed f F M i = cond (M i) (f i (F i)) (F i)

-- a loop that changes each cell of a list without repeats by its f, whichever cells are changed already
pub table_fold : (n : ℕ) (f : ℕ → Zcell → Zcell) (F : ℕ → Zcell) (step : Cells → ℕ → Cells) (xs : List ℕ) (M : ℕ → Bool) (cs : Cells) → Once xs
    → ((x : ℕ) → T (has x xs) → M x ≡ false) → ((N : ℕ → Bool) (ds : Cells) (x : ℕ) → T (has x xs) → Table n (mixed f F N) ds → step ds x ≡ change (f x) ds x)
    → Table n (mixed f F M) cs → Table n (mixed f F (λ i. has i xs || M i)) (fold step cs xs)
table_fold n f F step [] M cs o d h t = t
table_fold n f F step (x ∷ xs) M cs o d h t =
    table_ext n (mixed f F (λ i. has i xs || (eqb i x || M i))) (mixed f F (λ i. (eqb i x || has i xs) || M i)) (fold step (step cs x) xs)
    (λ i k. ap (λ (b : Bool). cond b (f i (F i)) (F i)) (swap (has i xs) (eqb i x) (M i)))
    (table_fold n f F step xs (λ i. eqb i x || M i) (step cs x) o.1 fresh (λ N ds y u. h N ds y (has_tail y x xs u))
    (rw (h M cs x (has_head x x xs refl) t) (table_ext n (λ i. cond (eqb i x) (f x (mixed f F M i)) (mixed f F M i)) (mixed f F (λ i. eqb i x || M i)) (change (f x) cs x)
    (λ i k. once i (ℕ_discrete i x)) (table_change n (mixed f F M) cs (f x) x t))))
  where
    swap : (a b c : Bool) → (a || (b || c)) ≡ ((b || a) || c)
    swap true true c = refl
    swap true false c = refl
    swap false true c = refl
    swap false false c = refl

    fresh : (y : ℕ) → T (has y xs) → (eqb y x || M y) ≡ false
    fresh y u = ap (λ (b : Bool). b || M y) (ne_eqb y x (λ e. o.0 (rw e at u))) ∙ d y (has_tail y x xs u)

    once : (i : ℕ) → Dec (i ≡ x) → cond (eqb i x) (f x (mixed f F M i)) (mixed f F M i) ≡ mixed f F (λ i. eqb i x || M i) i
    once i (yes e) =
        ap (λ (b : Bool). cond b (f x (mixed f F M i)) (mixed f F M i)) (eq-eqb i x e)
        ∙ ap (λ (k : ℕ). f k (mixed f F M i)) (sym e) ∙ ap (λ (b : Bool). f i (cond b (f i (F i)) (F i))) (ap M e ∙ d x (has_head x x xs refl))
        ∙ sym (ap (λ (b : Bool). cond (b || M i) (f i (F i)) (F i)) (eq-eqb i x e))
    once i (no k) =
        ap (λ (b : Bool). cond b (f x (mixed f F M i)) (mixed f F M i)) (ne_eqb i x k)
        ∙ sym (ap (λ (b : Bool). cond (b || M i) (f i (F i)) (F i)) (ne_eqb i x k))

-- ---- the cells of a grid

-- the cell of an index: its mine and its bounds, and whatever else it holds
abbrev pub cell : Grid → ℕ → ℕ → ℕ → ℕ → Bool → Bool → ℤ → Zcell
cell g i n a b o f p =
    record {
      mine = mine g i;
      opening = a;
      opening2 = b;
      number = n;
      opened = o;
      flagged = f;
      premium = p;
      rb = cond (ltb 0 (row_of g i)) (row_of g i - 1) (row_of g i);
      re = cond (ltb (row_of g i) (g.rows - 1)) (row_of g i + 1) (row_of g i);
      cb = cond (ltb 0 (column_of g i)) (column_of g i - 1) (column_of g i);
      ce = cond (ltb (column_of g i) (g.columns - 1)) (column_of g i + 1) (column_of g i);
    }

-- the bounds of a place are those of its neighbours
bounds : (n p : ℕ) → p < n → range (cond (ltb 0 p) (p - 1) p) (cond (ltb p (n - 1)) (p + 1) p + 1) ≡ near n p
bounds n p h = ap₂ range (low (ltb 0 p) refl) (high (ltb p (n - 1)) refl)
  where
    low : (b : Bool) → ltb 0 p ≡ b → cond b (p - 1) p ≡ p - 1
    low true e = refl
    low false e = omega (arith, nltb→le 0 p (rw e tt))

    high : (b : Bool) → ltb p (n - 1) ≡ b → cond b (p + 1) p + 1 ≡ min (p + 2) n
    high true e = omega (arith, ltb→lt p (n - 1) (rw e tt))
    high false e = omega (arith, nltb→le p (n - 1) (rw e tt))

-- a cell with the mine and the bounds of its index
pub record Celled (g : Grid) (i : ℕ) (z : Zcell) : Type 0 where
  pub keeps : z ≡ cell g i z.number z.opening z.opening2 z.opened z.flagged z.premium

pub celled_cond : (g : Grid) (i : ℕ) (b : Bool) (z w : Zcell) → Celled g i z → Celled g i w → Celled g i (cond b z w)
celled_cond g i true z w p q = p
celled_cond g i false z w p q = q

-- the cells around a cell are its square
pub around_square : (g : Grid) (cs : Cells) (i : ℕ) → i < size g → Celled g i (at cs i) → around cs g.rows i ≡ square g i
unfolding around square
around_square g cs i h c =
    ap ring c.keeps
    ∙ ap₂ (λ rs ls. concat_map (λ rr. map (λ cc. cc * g.rows + rr) ls) rs) (bounds g.rows (row_of g i) (row_lt g i h)) (bounds g.columns (column_of g i) (column_lt g i h))
  where
    ring : Zcell → List ℕ
    ring z = concat_map (λ rr. map (λ cc. cc * g.rows + rr) (range z.cb (z.ce + 1))) (range z.rb (z.re + 1))

pub reads_celled : (g : Grid) (F : ℕ → Zcell) (cs : Cells) → ((i : ℕ) → Celled g i (F i)) → Table (size g) F cs → (i : ℕ) → i < size g → Celled g i (at cs i)
reads_celled g F cs c t i h = subst (Celled g i) (sym (t.reads i h)) (c i)

-- a count around a cell, by what the table holds there
pub count_around : (g : Grid) (F : ℕ → Zcell) (cs : Cells) (test : Zcell → Bool) (i : ℕ) → i < size g → ((i : ℕ) → Celled g i (F i)) → Table (size g) F cs
    → count (λ j. test (at cs j)) (around cs g.rows i) ≡ count (λ j. test (F j)) (square g i)
count_around g F cs test i h c t =
    ap (count (λ j. test (at cs j))) (around_square g cs i h (reads_celled g F cs c t i h))
    ∙ count_ext (λ j. test (at cs j)) (λ j. test (F j)) (square g i) (λ j u. ap test (t.reads j (square→ g i j h u).0))
