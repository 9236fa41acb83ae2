-- A closed 0-cell in a square: the nine places tell, by what the work area holds of each cell. Assumes nothing.
use Prim.Native.Nat.{ℕ, ◌%◌, ◌*◌, ◌+◌, ◌/◌, ◌<◌, suc, zero}
use native.Mathlib.Omega.{arith}
use native.Mathlib.Nat.{add-zero}
use mathlib.Core.Path.{◌∙◌, ◌≡◌, ap, subst, sym}
use mathlib.Core.Bool.{Bool, ◌&&◌, ◌||◌}
use mathlib.Core.List.{List, []}
use lib.Dec.{T}
use lib.IntN.{ℤ}
use Rattle.area.proofs.Held.{held_numbers}
use Rattle.area.specs.Numbers.{grid_of}
use Rattle.area.specs.Squares.{near_cell}
use Rattle.area.specs.Stages.{Stands}
use Rattle.area.proofs.SquareSides.{nine, nine_all, nine_more}
use Rattle.game.specs.Grid.{Grid, size, square, zero_cell}
use Rattle.game.specs.Lists.{has, some_of}
use Rattle.game.specs.Position.{Position, closed}
use Rattle.game.proofs.Members.{some_append, some_yes, yes_some}
use Rattle.game.proofs.Squares.{square→}
use Rattle.game.proofs.Truth.{iff, or_left}
use Rattle.mark_tests.specs.Tests.{borders_closed, closed_zero_at}
use Rattle.mark_tests.proofs.Held.{closed_zero_there}

-- ---- the square

module _ (f : ℕ → Bool) (g : Grid) (i : ℕ) where
  -- one place more
  pub some_more : (k : ℕ) → some_of f (nine g i (k + 1)) ≡ (some_of f (nine g i k) || some_of f (near_cell g i (k / 3) (k % 3)))
  some_more k = ap (some_of f) (nine_more g i k) ∙ some_append f (nine g i k) (near_cell g i (k / 3) (k % 3))

  -- what one place has, all nine have
  pub some_on : (j k : ℕ) → T (some_of f (nine g i k)) → T (some_of f (nine g i (k + j)))
  some_on zero k t = rw (add-zero k) t
  some_on (suc j) k t =
      subst (λ (m : ℕ). T (some_of f (nine g i m))) (up k j)
      (some_on j (k + 1) (subst T (sym (some_more k)) (or_left (some_of f (nine g i k)) (some_of f (near_cell g i (k / 3) (k % 3))) t)))
    where
      up : (k j : ℕ) → (k + 1) + j ≡ k + suc j
      up k j = omega arith

-- the nine places of a cell, in a position that the work area stands for
pub borders_there : (rows columns : ℕ) (w : List ℤ) (i : ℕ) → i < rows * columns → (g : Grid) (s : Position) (old : List ℤ) → Stands rows columns g s old w
    → some_of (closed_zero_at w) (nine (grid_of rows columns []) i 9) ≡ borders_closed g s i
unfolding square
borders_there rows columns w i h g s old t =
    ap (some_of (closed_zero_at w)) (nine_all (grid_of rows columns []) i h t.shape.some_rows ∙ square-of)
    ∙ iff (some_of (closed_zero_at w) (square g i)) (borders_closed g s i)
    (λ u. let p = yes_some (closed_zero_at w) (square g i) u in some_yes (λ j. zero_cell g j && closed s j) p.0 (square g i) p.1 (subst T (at_cell p.0 p.1) p.2))
    (λ u. let p = yes_some (λ j. zero_cell g j && closed s j) (square g i) u in some_yes (closed_zero_at w) p.0 (square g i) p.1 (subst T (sym (at_cell p.0 p.1)) p.2))
  where
    square-of : square (grid_of rows columns []) i ≡ square g i
    square-of = rw (← t.rows_are, ← t.columns_are)

    inside : i < size g
    inside = rw (t.rows_are, t.columns_are) h

    at_cell : (j : ℕ) → T (has j (square g i)) → closed_zero_at w j ≡ (zero_cell g j && closed s j)
    at_cell j u = closed_zero_there g s w (held_numbers rows columns g s old w t) j (square→ g i j inside u).0
