-- Settled cell by cell, the work area is as it is handed back. Assumes nothing.
use Prim.Native.Nat.{ℕ, ◌%◌, ◌*◌, ◌+◌, ◌-◌, ◌<◌, ◌≤◌, suc, zero}
use native.Mathlib.Omega.{arith}
use native.Mathlib.Nat.{mod-eq_of_lt}
use mathlib.Core.Path.{◌∙◌, ◌≡◌, ap, refl, sym}
use mathlib.Core.Logic.{◌⊎◌, inl, inr}
use mathlib.Core.Bool.{Bool, cond, false, true}
use mathlib.Core.List.{List}
use lib.Dec.{eqb}
use lib.IntN.{+ℤ_assoc, +ℤ_comm, +ℤ-neg_ℤ_cancel, ◌+ℤ◌, ◌-ℤ◌, neg_ℤ, pos, ℤ}
use lib.ListN.{get_or, length, length-set}
use lib.Seq.{get_or-set_other, get_or-set_same}
use Rattle.area.specs.Numbers.{HasCells, content_at, content_place, natural, premium_at, premium_place, put_lowered}
use Rattle.area.specs.Stages.{held_five, content, raised}
use Rattle.game.specs.Area.{area_of, five_numbers, kept_premium, laid}
use Rattle.game.specs.Grid.{Grid, mine, number, size}
use Rattle.game.specs.Lists.{fold, range}
use Rattle.game.specs.Position.{Position, cost, gain, premium}
use Rattle.start.specs.Passes.{lower_premium, settle_cell}
use Rattle.game.proofs.Areas.{LaidTo, laid_again, laid_ahead, laid_fold, laid_length}
use Rattle.game.proofs.Ranges.{cost_range}
use Rattle.area.proofs.Held.{content_mine, raised_small}
use Rattle.area.proofs.Puts.{cell_there, put_length, slot_here, slot_there}

pub length_lowered : (w : List ℤ) (i : ℕ) → length (lower_premium w i) ≡ length w
length_lowered w i = go (eqb (content_at w i) 0)
  where
    go : (b : Bool) → length (cond b w (put_lowered w i (premium_at w i))) ≡ length w
    go true = refl
    go false = length-set w (content_place i) (pos (premium_at w i % 2147483648) -ℤ pos 10)

pub length_settle : (w : List ℤ) (i : ℕ) → length (settle_cell w i) ≡ length w
length_settle w i = put_length (lower_premium w i) (premium_place i) 0 ∙ length_lowered w i

-- the premium of a safe cell, lowered again; a mine's content is 0, as its premium is
lowered_premium : (g : Grid) (s : Position) (i : ℕ) → i < size g → (b : Bool) → mine g i ≡ b
    → cond b (pos (content g i)) (pos (raised g s i) -ℤ pos 10) ≡ kept_premium g s i
unfolding raised premium content
lowered_premium g s i h true e = ap (λ (b : Bool). pos (cond b 0 (1 + number g i))) e ∙ sym (ap (λ (b : Bool). cond b (pos 0) (premium g s i)) e)
lowered_premium g s i h false e =
    ap (λ (b : Bool). pos (cond b 0 (10 + gain g s i - cost g s i)) -ℤ pos 10) e
    ∙ ap (λ (z : ℤ). z -ℤ pos 10) (sym (exact (gain g s i) (cost g s i) (omega (arith, cost_range g s i h (rw e tt)))))
    ∙ +ℤ-neg_ℤ_cancel (pos (gain g s i) -ℤ pos (cost g s i)) (pos 10)
    ∙ sym (ap (λ (b : Bool). cond b (pos 0) (premium g s i)) e)
  where
    swap_parts : (a b c : ℤ) → a -ℤ b +ℤ c ≡ a +ℤ c -ℤ b
    swap_parts a b c = +ℤ_assoc a (neg_ℤ b) c ∙ ap (λ (z : ℤ). a +ℤ z) (+ℤ_comm (neg_ℤ b) c) ∙ sym (+ℤ_assoc a c (neg_ℤ b))

    exact : (a b : ℕ) → b ≤ 10 → pos a -ℤ pos b +ℤ pos 10 ≡ pos (10 + a - b)
    exact a b k =
        swap_parts (pos a) (pos b) (pos 10) ∙ ap (λ (n : ℕ). pos n -ℤ pos b) (split a b k) ∙ +ℤ-neg_ℤ_cancel (pos (10 + a - b)) (pos b)
      where
        split : (a b : ℕ) → b ≤ 10 → a + 10 ≡ 10 + a - b + b
        split a b h = omega arith

pub settled_all : (g : Grid) (s : Position) (old : List ℤ) → HasCells old (size g)
    → fold settle_cell (laid (held_five g s) (size g) old) (range 0 (size g)) ≡ area_of g s old
unfolding held_five five_numbers area_of
settled_all g s old room =
    laid_fold (five_numbers g s) (λ i. refl) (size g) base more settle_cell length_settle here there
    ∙ laid_again (five_numbers g s) (held_five g s) (λ i. refl) (λ i. refl) (size g) old room
  where
    base : List ℤ
    base = laid (held_five g s) (size g) old

    more : HasCells base (size g)
    more = omega (arith, laid_length (held_five g s) (λ i. refl) (size g) old room)

    untouched_place : (w : List ℤ) (i m : ℕ) → (m ≡ content_place i → ⊥) → get_or (lower_premium w i) m (pos 0) ≡ get_or w m (pos 0)
    untouched_place w i m n = go (eqb (content_at w i) 0)
      where
        go : (b : Bool) → get_or (cond b w (put_lowered w i (premium_at w i))) m (pos 0) ≡ get_or w m (pos 0)
        go true = refl
        go false = get_or-set_other w (content_place i) m (pos (premium_at w i % 2147483648) -ℤ pos 10) (pos 0) n

    few : (i : ℕ) → i < size g → raised g s i < 2147483648
    few i h = omega (arith, raised_small g s i h)

    there : (w : List ℤ) (i m : ℕ) → i < size g → LaidTo (five_numbers g s) (λ i. refl) (size g) base more settle_cell i w → (m < 5 * i) ⊎ (5 * i + 5 ≤ m)
        → get_or (settle_cell w i) m (pos 0) ≡ get_or w m (pos 0)
    there w i m h l o = cell_there (lower_premium w i) i 4 0 m (omega arith) o ∙ untouched_place w i m (off o)
      where
        off : (m < 5 * i) ⊎ (5 * i + 5 ≤ m) → m ≡ content_place i → ⊥
        off (inl a) e = omega arith
        off (inr a) e = omega arith

    was : (w : List ℤ) (i : ℕ) → i < size g → LaidTo (five_numbers g s) (λ i. refl) (size g) base more settle_cell i w
        → (k : ℕ) → k < 5 → get_or w (5 * i + k) (pos 0) ≡ get_or (held_five g s i) k (pos 0)
    was w i h l k b = laid_ahead (five_numbers g s) (held_five g s) (λ i. refl) (λ i. refl) (size g) old more settle_cell i w l i k (omega arith) h b

    other : (w : List ℤ) (i k : ℕ) → i < size g → LaidTo (five_numbers g s) (λ i. refl) (size g) base more settle_cell i w → k < 5 → (k ≡ 2 → ⊥) → (k ≡ 4 → ⊥)
        → get_or (settle_cell w i) (5 * i + k) (pos 0) ≡ get_or (held_five g s i) k (pos 0)
    other w i k h l b p q = slot_there (lower_premium w i) i 4 k 0 q ∙ untouched_place w i (5 * i + k) (λ e. p (omega arith)) ∙ was w i h l k b

    third : (w : List ℤ) (i : ℕ) → i < size g → LaidTo (five_numbers g s) (λ i. refl) (size g) base more settle_cell i w
        → get_or (lower_premium w i) (content_place i) (pos 0) ≡ kept_premium g s i
    third w i h l =
        let k : eqb (content_at w i) 0 ≡ mine g i = ap (λ (n : ℕ). eqb n 0) (ap natural (was w i h l 2 (omega arith))) ∙ content_mine g i in
        ap (λ (b : Bool). get_or (cond b w (put_lowered w i (premium_at w i))) (content_place i) (pos 0)) k
        ∙ go (mine g i) ∙ lowered_premium g s i h (mine g i) refl
      where
        go : (b : Bool) → get_or (cond b w (put_lowered w i (premium_at w i))) (content_place i) (pos 0) ≡ cond b (pos (content g i)) (pos (raised g s i) -ℤ pos 10)
        go true = was w i h l 2 (omega arith)
        go false =
            get_or-set_same w (content_place i) (pos (premium_at w i % 2147483648) -ℤ pos 10) (pos 0) (omega (arith, l.long, more))
            ∙ ap (λ (n : ℕ). pos (n % 2147483648) -ℤ pos 10) (ap natural (was w i h l 4 (omega arith))) ∙ ap (λ (n : ℕ). pos n -ℤ pos 10) (mod-eq_of_lt (few i h))

    here : (w : List ℤ) (i k : ℕ) → i < size g → LaidTo (five_numbers g s) (λ i. refl) (size g) base more settle_cell i w → k < 5
        → get_or (settle_cell w i) (5 * i + k) (pos 0) ≡ get_or (five_numbers g s i) k (pos 0)
    here w i zero h l b = other w i 0 h l b (λ e. omega arith) (λ e. omega arith)
    here w i (suc zero) h l b = other w i 1 h l b (λ e. omega arith) (λ e. omega arith)
    here w i (suc (suc zero)) h l b = slot_there (lower_premium w i) i 4 2 0 (λ e. omega arith) ∙ third w i h l
    here w i (suc (suc (suc zero))) h l b = other w i 3 h l b (λ e. omega arith) (λ e. omega arith)
    here w i (suc (suc (suc (suc zero)))) h l b =
        slot_here (lower_premium w i) i 4 0 (omega (arith, l.long, more, length_lowered w i)) (omega arith)
    here w i (suc (suc (suc (suc (suc k))))) h l b = absurd (omega arith)
