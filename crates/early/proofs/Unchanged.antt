-- The work area past so many cells: loading and walking leave it as it was. Assumes nothing.
use Prim.Native.Nat.{ℕ, ◌≤◌}
use native.Mathlib.Omega.{arith}
use mathlib.Core.Path.{◌∙◌, ◌≡◌, refl, subst, sym}
use mathlib.Core.List.{List}
use lib.IntN.{ℤ}
use lib.ListN.{length}
use Rattle.area.specs.Numbers.{HasCells}
use Rattle.area.specs.Stages.{loaded_five}
use Rattle.game.specs.Area.{laid}
use Rattle.game.specs.Grid.{Grid}
use Rattle.game.proofs.Areas.{laid_length, laid_past}
use Rattle.early.specs.Walks.{Beyond}

pub beyond_same : (n : ℕ) (w : List ℤ) → Beyond n w w
beyond_same n w = record { long = refl; past = λ x h. refl }

pub beyond_then : (n : ℕ) (w w₁ w₂ : List ℤ) → Beyond n w w₁ → Beyond n w₁ w₂ → Beyond n w w₂
beyond_then n w w₁ w₂ a b = record { long = b.long ∙ a.long; past = λ x h. b.past x h ∙ a.past x h }

pub beyond_more : (m n : ℕ) (w w₁ : List ℤ) → m ≤ n → Beyond m w w₁ → Beyond n w w₁
beyond_more m n w w₁ h b = record { long = b.long; past = λ x k. b.past x (omega arith) }

loaded_length : (g : Grid) (i : ℕ) → length (loaded_five g i) ≡ 5
unfolding loaded_five
loaded_length g i = refl

pub beyond_loaded : (g : Grid) (n : ℕ) (w w₁ : List ℤ) → HasCells w n → w₁ ≡ laid (loaded_five g) n w → Beyond n w w₁
beyond_loaded g n w w₁ room e =
    subst (Beyond n w) (sym e)
    (record { long = laid_length (loaded_five g) (loaded_length g) n w room; past = λ x h. laid_past (loaded_five g) (loaded_length g) n w x h })
