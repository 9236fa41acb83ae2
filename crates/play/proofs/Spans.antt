-- The columns of an opening are without gap, so the walks miss no cell of the label: none lies beyond a column without it. Assumes nothing.
use Prim.Native.Nat.{ℕ, ◌*◌, ◌+◌, ◌-◌, ◌/◌, ◌<◌, ◌≤◌}
use native.Mathlib.Omega.{arith}
use native.Mathlib.Nat.{div-lt_iff_lt-mul, le-div_iff_mul-le, mul-le-mul_right}
use mathlib.Core.Path.{◌∙◌, ◌≡◌, ap, subst, sym}
use mathlib.Core.Logic.{inl, inr}
use mathlib.Core.List.{List}
use lib.Dec.{T}
use lib.IntN.{ℤ}
use Rattle.area.proofs.Held.{held_cells, held_cell}
use Rattle.area.proofs.CellByCell.{read_first, read_second}
use Rattle.game.specs.Grid.{Grid, column_of, size, zero_cell}
use Rattle.game.specs.Lists.{range}
use Rattle.game.specs.Openings.{first_label, holds, joined_to}
use Rattle.game.specs.Position.{Position}
use Rattle.game.proofs.Counts.{none_counted}
use Rattle.game.proofs.Members.{range_has}
use Rattle.game.proofs.Squares.{column_lt, row_lt}
use Rattle.game.proofs.Zeros.{Zero}
use Rattle.area.specs.Stages.{Stands}
use Rattle.area.proofs.Marks.{marked_held}
use Rattle.area.proofs.Cells.{placed}
use Rattle.area.proofs.Spans.{Within, held_spans}
use Rattle.play.specs.Walks.{LeftSwept, RightSwept, SweptOver, labelled_at, labelled_in}
use Rattle.play.proofs.Reveals.{inside, size_is}
use Rattle.play.proofs.Sweeps.{labelled_stays, over_all, to_right}

module _ (rows columns : ℕ) (g : Grid) (s : Position) (old w : List ℤ) (i label : ℕ) (h : i < rows * columns) (st : Stands rows columns g s old w)
    (none : T (zero_cell g i)) (own : label ≡ first_label g i) where
  all_cells : size g ≡ rows * columns
  all_cells = size_is rows columns g s old w i h st

  z : Zero g i
  z = record { inside = inside rows columns g s old w i h st; none = none }

  -- the label marks the cells of the opening
  marks : (x : ℕ) → x < size g → labelled_at label w x ≡ holds g x (joined_to g i)
  marks x k =
      rw (own, st.holds_it, held_cells g s old, read_first (size g) old st.room (held_cell g s) x k, read_second (size g) old st.room (held_cell g s) x k)
      (marked_held g i x z k)

  some_rows : 0 < g.rows
  some_rows = omega (arith, st.rows_are, st.shape.some_rows)

  -- a cell of the label, and a column between: the column has one too
  column_labelled : (x q : ℕ) → x < size g → T (labelled_at label w x) → Within (column_of g i) (column_of g x) q
      → labelled_in label w (q * rows) (q * rows + rows) ≡ 0 → ⊥
  column_labelled x q k t b e =
      let y = held_spans g i x q z k (subst T (marks x k) t) b in
      let p = placed g rows y.0 q st.rows_are y.3 in
      let low = row_lt g y.0 y.1 in
      none_counted (labelled_at label w) (range (q * rows) (q * rows + rows)) e y.0
      (range_has (q * rows) (q * rows + rows) y.0 (omega (arith, p)) (omega (arith, p, low, st.rows_are)))
      (subst T (sym (marks y.0 y.1)) y.2)

  -- left of the column that the walk to the left ended at
  none_left : (end : ℕ) → end ≤ column_of g i → ((end ≡ 0 → ⊥) → labelled_in label w (end * rows) (end * rows + rows) ≡ 0)
      → (x : ℕ) → x < end * rows → x < size g → T (labelled_at label w x) → ⊥
  none_left end l e x k m t =
      let c : column_of g x < end = (div-lt_iff_lt-mul some_rows).1 (rw st.rows_are k) in
      column_labelled x end m t (inr (omega arith)) (e (λ q. absurd (omega arith)))

  -- right of the column that the walk to the right ended at
  none_right : (end : ℕ) → column_of g i < end → ((last : ℕ) → end ≡ last + 1 → end < columns → labelled_in label w (last * rows) (last * rows + rows) ≡ 0)
      → (x : ℕ) → end * rows ≤ x → x < size g → T (labelled_at label w x) → ⊥
  none_right end l e x k m t =
      let c : end ≤ column_of g x = (le-div_iff_mul-le some_rows).1 (rw st.rows_are k) in
      let d = column_lt g x m in
      column_labelled x (end - 1) m t (inl (omega arith)) (e (end - 1) (omega arith) (omega (arith, c, d, st.columns_are)))

  -- both walks from the cell's column: what a sweep of all cells does
  pub both_ways : (c : ℕ) (u v : List ℤ) → c ≡ i / rows → LeftSwept rows label c w u → RightSwept rows columns label (c + 1) u v
      → SweptOver label 0 (rows * columns) w v
  both_ways c u v here a b =
      over_all label (rows * columns) (a.end * rows) (b.end * rows) w v (omega (arith, left, right)) on-grid
      (to_right label (a.end * rows) (c * rows + rows) (b.end * rows) w u v (omega (arith, left)) right a.swept (rw seam at b.swept))
      (λ x k t. none_left a.end (omega (arith, a.on_left, own_column)) a.ends x k (omega (arith, all_cells, left, right, on-grid)) t)
      (λ x k m t. none_right b.end (omega (arith, b.on_right, own_column))
      (λ last e f. sym (labelled_stays label (a.end * rows) (c * rows + rows) w u (last * rows) (last * rows + rows) a.swept) ∙ b.ends last e f)
      x k (omega (arith, m, all_cells)) t)
    where
      own_column : column_of g i ≡ c
      own_column = ap (λ (k : ℕ). i / k) st.rows_are ∙ sym here

      seam : (c + 1) * rows ≡ c * rows + rows
      seam = omega arith

      left : a.end * rows ≤ c * rows
      left = mul-le-mul_right rows a.on_left

      right : c * rows + rows ≤ b.end * rows
      right = omega (arith, mul-le-mul_right rows b.on_right)

      on-grid : b.end * rows ≤ rows * columns
      on-grid = omega (arith, mul-le-mul_right rows b.in-columns)
