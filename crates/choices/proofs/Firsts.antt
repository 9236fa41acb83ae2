-- The first cell of a column that passes a test: none before it does. Assumes nothing.
use Prim.Native.Nat.{ℕ, ◌*◌, ◌+◌, ◌-◌, ◌<◌, ◌≤◌}
use native.Mathlib.Omega.{arith}
use native.Mathlib.Nat.{add-sub_of_le}
use mathlib.Core.Path.{◌≡◌, subst, sym}
use mathlib.Core.Bool.{Bool, false, true}
use lib.Dec.{T}
use lib.ListN.{get_or}
use Rattle.game.specs.Lists.{keep, range}
use Rattle.choices.proofs.Passing.{first-at, first_none}

module _ (f : ℕ → Bool) (rows column : ℕ) where
  before : (row : ℕ) → ((k : ℕ) → k < row → f (column * rows + k) ≡ false) → (j : ℕ) → column * rows ≤ j → j < column * rows + row → T (f j) → ⊥
  before row n j l h t = subst T (n (j - column * rows) (omega arith)) (subst (λ (i : ℕ). T (f i)) (sym (add-sub_of_le l)) t)

  pub column_first : (row i : ℕ) → row < rows → i ≡ column * rows + row → true ≡ f i → ((k : ℕ) → k < row → f (column * rows + k) ≡ false)
      → i ≡ get_or (keep f (range (column * rows) (column * rows + rows))) 0 0
  column_first row i h e t n =
      first-at f (column * rows) (column * rows + rows) i (omega arith) (omega arith) (subst T t tt) (λ j l k. before row n j l (omega arith))

  pub column_first_none : (row : ℕ) → rows ≤ row → ((k : ℕ) → k < row → f (column * rows + k) ≡ false) → 0 ≡ get_or (keep f (range (column * rows) (column * rows + rows))) 0 0
  column_first_none row h n = first_none f (column * rows) (column * rows + rows) (λ j l k. before row n j l (omega arith))
