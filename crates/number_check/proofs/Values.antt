-- A value is wrong by a test on its bits: it is no mine, and another number than that of its square. Assumes nothing.
use Prim.Native.Nat.{ℕ, zero, suc, ◌+◌, ◌*◌, ◌<◌}
use native.Mathlib.Decide.{ℕ_discrete}
use native.Mathlib.Omega.{arith}
use mathlib.Core.Path.{◌≡◌, ap, refl, sym, ◌∙◌}
use mathlib.Core.Bool.{◌&&◌, cond, false, not}
use mathlib.Core.List.{List}
use lib.IntN.{ℤ, negsuc, pos}
use lib.ListN.{get_or}
use Rattle.game.specs.Grid.{Grid, index, is_mine, mine, number, right_value, same, value_at, wrong}
use Rattle.game.proofs.Squares.{index-column, index-row}
use Rattle.area.specs.Numbers.{grid_of}

-- what is asked of a value, and that it is another than the right one
asked : (v : ℤ) (n : ℕ) → (not (is_mine v) && not (same v (pos n))) ≡ not (same v (cond (is_mine v) (negsuc 0) (pos n)))
asked (pos m) n = refl
asked (negsuc zero) n = refl
asked (negsuc (suc m)) n = refl

-- the value of the cell in a row and a column
value_here : (rows columns : ℕ) (vs : List ℤ) (row column : ℕ) → row < rows → value_at (grid_of rows columns vs) (index (grid_of rows columns vs) row column) ≡ get_or vs (row * columns + column) (pos 0)
value_here rows columns vs row column h =
    let g = grid_of rows columns vs in
    λ i. get_or vs (index-row g row column h i * columns + index-column g row column h i) (pos 0)

-- it is wrong by its number
pub wrong_here : (rows columns : ℕ) (vs : List ℤ) (row column n : ℕ) → row < rows → n ≡ number (grid_of rows columns vs) (column * rows + row)
    → (not (is_mine (get_or vs (row * columns + column) (pos 0))) && not (same (get_or vs (row * columns + column) (pos 0)) (pos n))) ≡ wrong (grid_of rows columns vs) (index (grid_of rows columns vs) row column)
unfolding wrong right_value mine
wrong_here rows columns vs row column n h e =
    let g = grid_of rows columns vs in
    let v = sym (value_here rows columns vs row column h) in
    asked (get_or vs (row * columns + column) (pos 0)) n ∙ (λ i. not (same (v i) (cond (is_mine (v i)) (negsuc 0) (pos (e i)))))

-- one column more of a row is passed
pub one_more : (g : Grid) (row column : ℕ) → ((c : ℕ) → c < column → wrong g (index g row c) ≡ false) → wrong g (index g row column) ≡ false → (c : ℕ) → c < column + 1 → wrong g (index g row c) ≡ false
one_more g row column before here c h =
    elim (ℕ_discrete c column) [
      | yes e ↦ ap (λ (k : ℕ). wrong g (index g row k)) e ∙ here
      | no e ↦ before c (omega arith)
    ]
