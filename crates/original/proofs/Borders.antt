-- What setopeningborder does to a cell, and the labels of a cell before and after it is marked. Assumes nothing.
use Prim.Native.Nat.{ℕ, ◌≤◌}
use native.Mathlib.Omega.{arith}
use mathlib.Core.Path.{◌≡◌, refl, sym}
use mathlib.Core.Bool.{Bool, ◌&&◌, cond, false, not, true}
use lib.Dec.{eqb, eqb_refl}
use lib.ListN.{set}
use lib.Seq.{set-get_or}
use Rattle.game.specs.Grid.{Grid}
use Rattle.original.specs.Cells.{Cells, Zcell, at, change, nought, setopeningborder, with_opening, with_opening2}
use Rattle.game.proofs.Truth.{T→true}
use Rattle.original.proofs.Numbers.{lined}
use borrow.Author.Tests.{ne_eqb}

-- opening after opening op has met a cell, if it has
abbrev pub first_of_two : ℕ → Bool → ℕ → ℕ
first_of_two op m x = cond m (cond (eqb x 0) op x) x

-- opening2 likewise
abbrev pub second_of_two : ℕ → Bool → ℕ → ℕ → ℕ
second_of_two op m x y = cond m (cond (eqb x 0) y (cond (eqb y 0) op y)) y

-- what setopeningborder does to a cell
unfoldable pub border : ℕ → Zcell → Zcell
border op z =
    cond (eqb z.opening 0) (with_opening op z) (cond (not (eqb z.opening op) && eqb z.opening2 0) (with_opening2 op z) z)

pub border_change : (cs : Cells) (op j : ℕ) → setopeningborder cs op j ≡ change (border op) cs j
unfolding setopeningborder border
border_change cs op j = go (eqb (at cs j).opening 0) (not (eqb (at cs j).opening op) && eqb (at cs j).opening2 0)
  where
    go : (p q : Bool) → cond p (change (with_opening op) cs j) (cond q (change (with_opening2 op) cs j) cs)
        ≡ set cs j (cond p (with_opening op (at cs j)) (cond q (with_opening2 op (at cs j)) (at cs j)))
    go true q = refl
    go false true = refl
    go false false = sym (set-get_or cs j nought)

pub border_lined : (g : Grid) (op i : ℕ) (m : Bool) (x y : ℕ) → 1 ≤ op → (x ≡ op → ⊥)
    → border op (lined g i (first_of_two op m x) (second_of_two op m x y)) ≡ lined g i (first_of_two op true x) (second_of_two op true x y)
unfolding border
border_lined g op i m x y h n = go m (eqb x 0) refl (eqb y 0) refl
  where
    op_some : eqb op 0 ≡ false
    op_some = ne_eqb op 0 (λ e. absurd (omega arith))

    op_itself : eqb op op ≡ true
    op_itself = T→true (eqb op op) (eqb_refl op)

    off : eqb x op ≡ false
    off = ne_eqb x op n

    go : (m p : Bool) → eqb x 0 ≡ p → (q : Bool) → eqb y 0 ≡ q
        → border op (lined g i (first_of_two op m x) (second_of_two op m x y)) ≡ lined g i (first_of_two op true x) (second_of_two op true x y)
    go true true e q f = simp (e, op_some, op_itself)
    go true false e true f = simp (e, f, off, op_some)
    go true false e false f = simp (e, f, off)
    go false true e q f = simp e
    go false false e true f = simp (e, f, off)
    go false false e false f = simp (e, f, off)
