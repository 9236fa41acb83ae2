-- What is read of a work area during a replay, and a state put: it is laid from the position cell by cell. Assumes nothing.
use Prim.Native.Nat.{ℕ, ◌*◌, ◌<◌, ◌≤◌}
use native.Mathlib.Omega.{arith}
use native.Mathlib.Decide.{ℕ_discrete}
use native.Mathlib.Nat.{mod-eq_of_lt}
use mathlib.Core.Path.{◌∙◌, ◌≡◌, ap, ap₂, refl, sym}
use mathlib.Core.List.{List}
use lib.IntN.{ℤ}
use lib.ListN.{get_or, length-set, set}
use lib.Seq.{get_or-set_other, get_or-set_same}
use Rattle.area.specs.Numbers.{content_at, put_state, state_at}
use Rattle.area.specs.Squares.{square_of}
use Rattle.area.specs.Stages.{Moving, content, moving_five}
use Rattle.game.specs.Area.{laid}
use Rattle.game.specs.Grid.{Grid, size, square}
use Rattle.game.specs.Openings.{first_label, second_label}
use Rattle.game.specs.Position.{Position}
use Rattle.area.proofs.CellByCell.{Cell, at, at_here, at_other, cell_area, put-state, read_content, read_state, same_area, stated}
use Rattle.area.proofs.Rows.{same-square}

-- a cell of the grid with a state, and no premium
abbrev cell_with : Grid → ℕ → ℕ → Cell
cell_with g x state = record { first = first_label g x; second = second_label g x; premium = 0; state = state; content = content g x }

-- the cells of a position
abbrev cells_of : Grid → Position → ℕ → Cell
cells_of g s x = cell_with g x (get_or s x 0)

moving_area : (g : Grid) (s : Position) (old : List ℤ) → laid (moving_five g s) (size g) old ≡ cell_area (cells_of g s) (size g) old
unfolding moving_five
moving_area g s old = refl

module _ (rows columns : ℕ) (g : Grid) (s : Position) (old w : List ℤ) (m : Moving rows columns g s old w) where
  pub size_is : size g ≡ rows * columns
  size_is = ap₂ ◌*◌ m.rows_are m.columns_are

  -- the square of the grid's rows and columns
  pub square_is : (i : ℕ) → square_of rows columns i ≡ square g i
  square_is i =
      ap₂ (λ (a b : ℕ). square_of a b i) (sym m.rows_are) (sym m.columns_are) ∙ same-square g i

  area_is : w ≡ cell_area (cells_of g s) (size g) old
  area_is = m.holds_it ∙ moving_area g s old

  module _ (i : ℕ) (h : i < rows * columns) where
    pub inside : i < size g
    inside = omega (arith, size_is)

    pub content_read : content_at w i ≡ content g i
    content_read = ap (λ (v : List ℤ). content_at v i) area_is ∙ read_content (size g) old m.room (cells_of g s) i inside

    pub state_read : state_at w i ≡ get_or s i 0
    state_read = ap (λ (v : List ℤ). state_at v i) area_is ∙ read_state (size g) old m.room (cells_of g s) i inside

    -- a state put
    pub state_put : (k : ℕ) (u : List ℤ) → k ≤ 3 → u ≡ put_state w i k → Moving rows columns g (set s i k) old u
    state_put k u few e =
        record {
          rows_are = m.rows_are;
          columns_are = m.columns_are;
          shape = m.shape;
          room = m.room;
          long = length-set s i k ∙ m.long;
          holds_it = e ∙ ap (λ (v : List ℤ). put_state v i k) area_is ∙ put-state (size g) old m.room (cells_of g s) i k inside
              ∙ same_area (size g) old m.room (at (cells_of g s) i (stated k (cells_of g s i))) (cells_of g (set s i k)) (λ x b. one x)
              ∙ sym (moving_area g (set s i k) old);
        }
      where
        one : (x : ℕ) → at (cells_of g s) i (stated k (cells_of g s i)) x ≡ cells_of g (set s i k) x
        one x =
            elim (ℕ_discrete x i) [
              | yes e ↦ at_here (cells_of g s) i (stated k (cells_of g s i)) x e
                  ∙ ap₂ (cell_with g) (sym e) (mod-eq_of_lt (omega arith) ∙ sym (ap (λ (j : ℕ). get_or (set s i k) j 0) e ∙ get_or-set_same s i k 0 (omega (arith, m.long, inside))))
              | no q ↦ at_other (cells_of g s) i (stated k (cells_of g s i)) x q ∙ ap (cell_with g x) (sym (get_or-set_other s i x k 0 q))
            ]
