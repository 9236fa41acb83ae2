-- Row after row: the lowest cell at fault so far, and the columns that a later row may still name. Assumes nothing.
use Prim.Native.Nat.{ℕ, ◌+◌, ◌*◌, ◌<◌, ◌≤◌}
use native.Mathlib.Decide.{dec_lt, ℕ_discrete}
use native.Mathlib.Nat.{mul_comm, mul-le-mul_right}
use native.Mathlib.Omega.{arith}
use mathlib.Core.Path.{◌≡◌, ap, subst, sym, ◌∙◌}
use mathlib.Core.Bool.{false, true}
use lib.Arith.{digits_lt}
use Rattle.game.specs.Grid.{Grid, column_of, index, row_of, size, wrong}
use Rattle.game.proofs.Squares.{index_of, row_lt}
use Rattle.area.proofs.Cells.{cell_below}
use Rattle.number_check.specs.Faults.{FirstWrong, LowestWrong}

-- of the rows before row, lowest is the lowest cell at fault, or the number of cells, and limit its column, or the number of columns
pub record SoFar (g : Grid) (row limit lowest : ℕ) : Type 0 where
  pub in-columns : limit ≤ g.columns
  pub in_cells : lowest ≤ size g
  pub not_left : limit * g.rows ≤ lowest
  pub not_below : limit < g.columns → lowest < limit * g.rows + row
  pub lower : (r c : ℕ) → r < row → index g r c < lowest → wrong g (index g r c) ≡ false
  pub found : lowest < size g → wrong g lowest ≡ true

module _ (g : Grid) where
  -- the same under other names
  pub so_far_at : {row limit lowest limit' lowest' : ℕ} → SoFar g row limit lowest → limit' ≡ limit → lowest' ≡ lowest → SoFar g row limit' lowest'
  so_far_at {row} {limit} {lowest} {limit'} {lowest'} s e f =
      subst (λ (l : ℕ). SoFar g row l lowest') (sym e) (subst (λ (w : ℕ). SoFar g row limit w) (sym f) s)

  -- a lower product has a lower factor
  left_of : (c d x y : ℕ) → c * g.rows + x < d * g.rows + y → y ≤ x → c < d
  left_of c d x y h k =
      elim (dec_lt c d) [
        | yes l ↦ l
        | no l ↦ absurd (omega (arith, mul-le-mul_right g.rows (above l)))
      ]
    where
      above : (c < d → ⊥) → d ≤ c
      above l = omega arith

  module _ (row limit lowest column : ℕ) (s : SoFar g row limit lowest) (h : row < g.rows) (f : FirstWrong g row limit column) where
    -- a row that has a lower one
    pub so_far_found : column < limit → SoFar g (row + 1) column (column * g.rows + row)
    so_far_found l =
        record {
          in-columns = omega (arith, s.in-columns);
          in_cells = omega (arith, cell_below g.rows g.columns row column h (omega (arith, s.in-columns)));
          not_left = omega arith;
          not_below = λ k. omega arith;
          lower = low;
          found = λ k. f.found l;
        }
      where
        low : (r c : ℕ) → r < row + 1 → index g r c < column * g.rows + row → wrong g (index g r c) ≡ false
        low r c k i =
            elim (ℕ_discrete r row) [
              | yes e ↦ ap (λ (x : ℕ). wrong g (index g x c)) e ∙ f.before c (left_of c column r row i (omega arith))
              | no e ↦ s.lower r c (omega arith) (omega (arith, digits_lt {q = column} {m = limit} {r = row} {c = g.rows} l h, s.not_left))
            ]

    -- a row that has none
    pub so_far_kept : limit ≤ column → SoFar g (row + 1) limit lowest
    so_far_kept l =
        record {
          in-columns = s.in-columns;
          in_cells = s.in_cells;
          not_left = s.not_left;
          not_below = λ k. omega (arith, s.not_below k);
          lower = low;
          found = s.found;
        }
      where
        -- a cell of this row that is lower stands left of the limit
        stands_left : (c : ℕ) → c * g.rows + row < lowest → c < limit
        stands_left c i =
            elim (dec_lt limit g.columns) [
              | yes k ↦ left_of c limit row row (omega (arith, s.not_below k)) (omega arith)
              | no k ↦ left_of c limit row 0 (omega (arith, s.in_cells, s.in-columns, mul_comm g.columns g.rows, ap (λ (x : ℕ). x * g.rows) (all k))) (omega arith)
            ]
          where
            all : (limit < g.columns → ⊥) → limit ≡ g.columns
            all k = omega (arith, s.in-columns)

        low : (r c : ℕ) → r < row + 1 → index g r c < lowest → wrong g (index g r c) ≡ false
        low r c k i =
            elim (ℕ_discrete r row) [
              | yes e ↦ ap (λ (x : ℕ). wrong g (index g x c)) e ∙ f.before c (omega (arith, stands_left c (subst (λ (x : ℕ). index g x c < lowest) e i)))
              | no e ↦ s.lower r c (omega arith) i
            ]

  -- after the last row
  pub so_far_all : (limit lowest : ℕ) → SoFar g g.rows limit lowest → LowestWrong g lowest
  so_far_all limit lowest s =
      record {
        within = s.in_cells;
        lower = λ i k. ap (wrong g) (sym (index_of g i)) ∙ s.lower (row_of g i) (column_of g i) (row_lt g i (omega (arith, s.in_cells))) (subst (λ (x : ℕ). x < lowest) (sym (index_of g i)) k);
        found = s.found;
      }
