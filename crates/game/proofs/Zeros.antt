-- 0-cells: no mine in the square; a cell between two 0-cells of one row or column is one. Assumes nothing.
use Prim.Native.Nat.{ℕ, ◌+◌, ◌<◌}
use native.Mathlib.Omega.{arith}
use native.Mathlib.Decide.{dec_le}
use mathlib.Core.Path.{◌≡◌}
use lib.Dec.{T, eqb→eq}
use Rattle.game.specs.Grid.{Grid, column_of, index, mine, number, row_of, size, square, zero_cell}
use Rattle.game.proofs.Counts.{count_none, none_counted}
use Rattle.game.proofs.Squares.{Close, column_lt, index-column, index-lt, index-row, row_lt, square→, →square}

pub record Zero (g : Grid) (i : ℕ) : Type 0 where
  pub inside : i < size g
  pub none : T (zero_cell g i)

-- a 0-cell has no mine in its square, and a cell that has none is a 0-cell
pub zero→ : (g : Grid) (i x : ℕ) → Zero g i → x < size g → Close g i x → T (mine g x) → ⊥
unfolding number
zero→ g i x z hx c = none_counted (mine g) (square g i) (eqb→eq (number g i) 0 z.none) x (→square g i x z.inside hx c)

pub →zero : (g : Grid) (i : ℕ) → i < size g → ((x : ℕ) → x < size g → Close g i x → T (mine g x) → ⊥) → Zero g i
unfolding number
→zero g i h f =
    let e : number g i ≡ 0 = count_none (mine g) (square g i) (λ x t. let s = square→ g i x h t in f x s.0 s.1) in
    record { inside = h; none = rw e tt }

-- a cell between two 0-cells of one row, or of one column, is a 0-cell
pub between_row : (g : Grid) (a b : ℕ) → Zero g a → Zero g b → row_of g a ≡ row_of g b → column_of g a + 2 ≡ column_of g b → Zero g (index g (row_of g a) (column_of g a + 1))
between_row g a b za zb er ec =
    let hr = row_lt g a za.inside in
    let hc = column_lt g b zb.inside in
    let ir = index-row g (row_of g a) (column_of g a + 1) hr in
    let ic = index-column g (row_of g a) (column_of g a + 1) hr in
    →zero g (index g (row_of g a) (column_of g a + 1)) (index-lt g (row_of g a) (column_of g a + 1) hr (omega arith))
    (λ x hx c.
    elim (dec_le (column_of g x) (column_of g a + 1)) [
      | yes l ↦ zero→ g a x za hx (omega arith)
      | no n ↦ zero→ g b x zb hx (omega arith)
    ])

pub between_column : (g : Grid) (a b : ℕ) → Zero g a → Zero g b → column_of g a ≡ column_of g b → row_of g a + 2 ≡ row_of g b → Zero g (index g (row_of g a + 1) (column_of g a))
between_column g a b za zb ec er =
    let hr = row_lt g b zb.inside in
    let hc = column_lt g a za.inside in
    let hm : row_of g a + 1 < g.rows = omega arith in
    let ir = index-row g (row_of g a + 1) (column_of g a) hm in
    let ic = index-column g (row_of g a + 1) (column_of g a) hm in
    →zero g (index g (row_of g a + 1) (column_of g a)) (index-lt g (row_of g a + 1) (column_of g a) hm hc)
    (λ x hx c.
    elim (dec_le (row_of g x) (row_of g a + 1)) [
      | yes l ↦ zero→ g a x za hx (omega arith)
      | no n ↦ zero→ g b x zb hx (omega arith)
    ])
