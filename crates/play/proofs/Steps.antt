-- The small functions by their branches: each branch is what the definition gives where its tests hold. Assumes nothing.
use Prim.Native.Nat.{ℕ, ◌%◌, ◌+◌, ◌-◌}
use native.Mathlib.Omega.{arith}
use mathlib.Core.Path.{◌∙◌, ◌≡◌, ap, refl}
use mathlib.Core.Bool.{Bool, cond, false, true}
use mathlib.Core.List.{List}
use lib.Dec.{eqb}
use lib.IntN.{pos, ℤ}
use lib.Seq.{get_or-set_other}
use Rattle.area.specs.Squares.{shifted, square_of}
use Rattle.game.specs.Lists.{bit, fold}
use Rattle.area.specs.Numbers.{content_at, first_at, first_place, natural, number_at, premium_at, premium_place, put_at, put_premium, put_state, state_at, state_place}
use Rattle.play.specs.Walks.{CellSwept, labelled_at, opened_one, swept_cell}
use borrow.Author.Tests.{ne_eqb}

-- ---- a cell is swept

module _ (label : ℕ) (w : List ℤ) (i : ℕ) (b : Bool) (e : b ≡ labelled_at label w i) where
  pub sweep_other : b ≡ false → CellSwept label w i 0 w
  unfolding swept_cell
  sweep_other t = record { area = rw (← e, t); found_it = rw (← e, t) }

  pub sweep_closed : (k : ℕ) (v : List ℤ) → b ≡ true → k ≡ state_at w i → k ≡ 0 → v ≡ put_state w i 1 → CellSwept label w i 1 v
  unfolding swept_cell
  sweep_closed k v t f h s = record { area = s ∙ rw (← e, t, ← f, h); found_it = rw (← e, t) }

  pub sweep_opened : (k p q : ℕ) (v : List ℤ) → b ≡ true → k ≡ state_at w i → (k ≡ 0 → ⊥) → p ≡ premium_at w i → q ≡ p - 1
      → v ≡ put_premium w i q → CellSwept label w i 1 v
  unfolding swept_cell
  sweep_opened k p q v t f h g d s = record { area = s ∙ rw (← e, t, ← f, ne_eqb k 0 h, ← g, ← d); found_it = rw (← e, t) }

-- ---- a cell is opened

-- a number put at one place is seen nowhere else
pub put_other : (w : List ℤ) (k q v : ℕ) → (q ≡ k → ⊥) → number_at (put_at w k v) q ≡ number_at w q
put_other w k q v n = ap natural (get_or-set_other w k q (pos (v % 2147483648)) (pos 0) n)

module _ (rows columns : ℕ) (w u v : List ℤ) (i k : ℕ) (p : u ≡ put_state w i 1) (q : v ≡ shifted 1 0 u i) (e : k ≡ first_at v i) where
  -- the label that is read is the one it had
  own_label : k ≡ first_at w i
  unfolding shifted
  own_label =
      e ∙ ap (λ (x : List ℤ). first_at x i) q ∙ go (eqb (content_at u i) 0) ∙ ap (λ (x : List ℤ). first_at x i) p
      ∙ put_other w (state_place i) (first_place i) 1 (λ z. omega arith)
    where
      go : (b : Bool) → first_at (cond b u (put_premium u i (premium_at u i + 1 - 0))) i ≡ first_at u i
      go true = refl
      go false = put_other u (premium_place i) (first_place i) (premium_at u i + 1 - 0) (λ z. omega arith)

  pub open_labelled : (k ≡ 0 → ⊥) → (v ≡ opened_one rows columns w i) × (0 ≡ bit (eqb (first_at w i) 0))
  unfolding opened_one
  open_labelled n = (rw (← p, ← q, ← e, ne_eqb k 0 n), rw (← own_label, ne_eqb k 0 n))

  pub open_bare : (z : List ℤ) → k ≡ 0 → z ≡ fold (shifted 0 1) v (square_of rows columns i) → (z ≡ opened_one rows columns w i) × (1 ≡ bit (eqb (first_at w i) 0))
  unfolding opened_one
  open_bare z t s = (s ∙ rw (← p, ← q, ← e, t), rw (← own_label, t))
