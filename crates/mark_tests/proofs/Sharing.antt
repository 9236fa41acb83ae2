-- Whether a column has a cell that passes a test. Assumes nothing.
use Prim.Native.Nat.{ℕ, ◌*◌, ◌+◌, ◌<◌, ◌≤◌}
use native.Mathlib.Omega.{arith}
use native.Mathlib.Decide.{ℕ_discrete}
use mathlib.Core.Path.{◌∙◌, ◌≡◌, ap, subst, sym}
use mathlib.Core.Bool.{Bool, false, true}
use lib.Dec.{T}
use Rattle.game.specs.Lists.{range, some_of}
use Rattle.game.proofs.Members.{has_range, range_has, some_yes, yes_some}
use Rattle.game.proofs.Truth.{T→true, no→false}

-- by a test of its cells, row after row
module _ (f : ℕ → Bool) (rows column : ℕ) where
  abbrev in_row : ℕ → Bool
  in_row row = f (column * rows + row)

  pub column_has : (row i : ℕ) → row < rows → i ≡ column * rows + row → true ≡ f i → true ≡ some_of in_row (range 0 rows)
  column_has row i h e t =
      sym (T→true (some_of in_row (range 0 rows)) (some_yes in_row row (range 0 rows) (range_has 0 rows row (omega arith) h) (subst T (t ∙ ap f e) tt)))

  -- one row more
  pub none_more : (row i : ℕ) → ((k : ℕ) → k < row → f (column * rows + k) ≡ false) → i ≡ column * rows + row → f i ≡ false
      → (k : ℕ) → k < row + 1 → f (column * rows + k) ≡ false
  none_more row i n e t k h = elim (ℕ_discrete k row) [ yes q ↦ ap in_row q ∙ ap f (sym e) ∙ t | no q ↦ n k (omega arith) ]

  pub column_none : (row : ℕ) → rows ≤ row → ((k : ℕ) → k < row → f (column * rows + k) ≡ false) → false ≡ some_of in_row (range 0 rows)
  column_none row h n =
      sym (no→false (some_of in_row (range 0 rows))
      (λ t. let p = yes_some in_row (range 0 rows) t in subst T (n p.0 (omega (arith, (has_range 0 rows p.0 p.1).1))) p.2))
