-- Numbers put at places of the work area: what stands there and elsewhere. Assumes nothing.
use Prim.Native.Nat.{ℕ, ◌%◌, ◌*◌, ◌+◌, ◌<◌, ◌≤◌}
use native.Mathlib.Omega.{arith}
use native.Mathlib.Nat.{mod-eq_of_lt}
use mathlib.Core.Path.{◌∙◌, ◌≡◌, ap, refl}
use mathlib.Core.Logic.{◌⊎◌, inl, inr}
use mathlib.Core.List.{List}
use lib.IntN.{pos, ℤ}
use lib.ListN.{get_or, length, length-set}
use lib.Seq.{get_or-set_other, get_or-set_same}
use Rattle.area.specs.Numbers.{put_at}

-- a small number is put as itself
pub put_here : (w : List ℤ) (k v m : ℕ) → m ≡ k → k < length w → v < 2147483648 → get_or (put_at w k v) m (pos 0) ≡ pos v
put_here w k v m e h l =
    ap (λ (x : ℕ). get_or (put_at w k v) x (pos 0)) e ∙ get_or-set_same w k (pos (v % 2147483648)) (pos 0) h ∙ ap pos (mod-eq_of_lt l)

pub put_there : (w : List ℤ) (k v m : ℕ) → (m ≡ k → ⊥) → get_or (put_at w k v) m (pos 0) ≡ get_or w m (pos 0)
put_there w k v m n = get_or-set_other w k m (pos (v % 2147483648)) (pos 0) n

pub put_length : (w : List ℤ) (k v : ℕ) → length (put_at w k v) ≡ length w
put_length w k v = length-set w k (pos (v % 2147483648))

-- ---- one number of a cell is put

pub slot_here : (w : List ℤ) (i k v : ℕ) → 5 * i + k < length w → v < 2147483648 → get_or (put_at w (5 * i + k) v) (5 * i + k) (pos 0) ≡ pos v
slot_here w i k v h l = put_here w (5 * i + k) v (5 * i + k) refl h l

pub slot_there : (w : List ℤ) (i k m v : ℕ) → (m ≡ k → ⊥) → get_or (put_at w (5 * i + k) v) (5 * i + m) (pos 0) ≡ get_or w (5 * i + m) (pos 0)
slot_there w i k m v n = put_there w (5 * i + k) v (5 * i + m) (λ e. n (omega arith))

-- other cells
pub cell_there : (w : List ℤ) (i k v m : ℕ) → k < 5 → (m < 5 * i) ⊎ (5 * i + 5 ≤ m) → get_or (put_at w (5 * i + k) v) m (pos 0) ≡ get_or w m (pos 0)
cell_there w i k v m b o = put_there w (5 * i + k) v m (λ e. off o e)
  where
    off : (m < 5 * i) ⊎ (5 * i + 5 ≤ m) → m ≡ 5 * i + k → ⊥
    off (inl h) e = omega arith
    off (inr h) e = omega arith
