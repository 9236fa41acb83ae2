-- Going over a square: the cells passed and those left are the square, and those left lie on the grid. Assumes nothing.
use Prim.Native.Nat.{ℕ, ◌*◌, ◌<◌, ◌≤◌}
use native.Mathlib.Omega.{arith}
use mathlib.Core.Path.{◌≡◌, ◌∙◌, ap, refl, sym, subst}
use mathlib.Core.List.{List, [], ◌∷◌, ◌++◌, append_assoc, append-nil}
use lib.Dec.{T}
use lib.ListN.{length, length-append}
use Rattle.game.specs.Lists.{has}
use Rattle.game.proofs.Members.{has_append_right, has_head, has_tail}
use Rattle.game.proofs.Ranges.{length_square}
use Rattle.game.proofs.Squares.{square→}
use Rattle.area.specs.Numbers.{grid_of}
use Rattle.area.specs.Squares.{square_of}

-- some cells were passed and some are left of the square of the cell i
pub record Going (rows columns i : ℕ) (passed left : List ℕ) : Type 0 where
  pub parts : passed ++ left ≡ square_of rows columns i
  pub below : (j : ℕ) → T (has j left) → j < rows * columns

-- none was passed yet
pub begun : (rows columns i : ℕ) (left : List ℕ) → left ≡ square_of rows columns i → i < rows * columns → Going rows columns i [] left
begun rows columns i left e h =
    record { parts = e; below = λ j t. (square→ (grid_of rows columns []) i j h (subst (λ (l : List ℕ). T (has j l)) e t)).0 }

module _ (rows columns i : ℕ) (passed left : List ℕ) (g : Going rows columns i passed left) where
  -- the next cell lies on the grid
  pub on_grid : (x : ℕ) (rest : List ℕ) → left ≡ x ∷ rest → x < rows * columns
  on_grid x rest e = g.below x (subst (λ (l : List ℕ). T (has x l)) (sym e) (has_head x x rest refl))

  -- and is passed
  pub goes_on : (x : ℕ) (rest : List ℕ) → left ≡ x ∷ rest → Going rows columns i (passed ++ x ∷ []) rest
  goes_on x rest e =
      record {
        parts = append_assoc passed (x ∷ []) rest ∙ ap (λ (l : List ℕ). passed ++ l) (sym e) ∙ g.parts;
        below = λ j t. g.below j (subst (λ (l : List ℕ). T (has j l)) (sym e) (has_tail j x rest t));
      }

  -- where none is left the square was passed
  pub done : left ≡ [] → passed ≡ square_of rows columns i
  done e = sym (append-nil passed) ∙ ap (λ (l : List ℕ). passed ++ l) (sym e) ∙ g.parts

  -- at most nine are passed
  pub nine : length passed ≤ 9
  nine = omega (arith, length-append passed left, ap length g.parts, length_square (grid_of rows columns []) i)

  -- it is one of the square's
  pub in_square : (x : ℕ) (rest : List ℕ) → left ≡ x ∷ rest → T (has x (square_of rows columns i))
  in_square x rest e =
      subst (λ (l : List ℕ). T (has x l)) g.parts
      (has_append_right x passed left (subst (λ (l : List ℕ). T (has x l)) (sym e) (has_head x x rest refl)))
