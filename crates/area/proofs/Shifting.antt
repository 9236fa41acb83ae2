-- A premium shifts by branches: each is what the definition gives where its test holds. Assumes nothing.
use Prim.Native.Nat.{ℕ, ◌+◌, ◌-◌}
use mathlib.Core.Path.{◌≡◌, ◌∙◌, refl}
use mathlib.Core.Bool.{Bool, cond, false, true}
use mathlib.Core.List.{List}
use lib.Dec.{eqb}
use lib.IntN.{ℤ}
use lib.ListN.{length}
use Rattle.area.specs.Numbers.{content_at, premium_at, premium_place, put_premium}
use Rattle.area.specs.Squares.{shifted}
use Rattle.area.proofs.Puts.{put_length}
use borrow.Author.Tests.{ne_eqb}

pub length_shift : (up down : ℕ) (w : List ℤ) (i : ℕ) → length (shifted up down w i) ≡ length w
unfolding shifted
length_shift up down w i = go (eqb (content_at w i) 0)
  where
    go : (b : Bool) → length (cond b w (put_premium w i (premium_at w i + up - down))) ≡ length w
    go true = refl
    go false = put_length w (premium_place i) (premium_at w i + up - down)

module _ (up down : ℕ) (w : List ℤ) (i k : ℕ) (e : k ≡ content_at w i) where
  pub shift_mine : k ≡ 0 → w ≡ shifted up down w i
  unfolding shifted
  shift_mine t = rw (← e, t)

  pub shift_safe : (p q : ℕ) (v : List ℤ) → (k ≡ 0 → ⊥) → p ≡ premium_at w i → q ≡ p + up - down → v ≡ put_premium w i q → v ≡ shifted up down w i
  unfolding shifted
  shift_safe p q v t f h s = s ∙ rw (← e, ne_eqb k 0 t, ← f, ← h)
