-- Loaded cell by cell, in any order, the work area is that before labelling. Assumes nothing.
use Prim.Native.Nat.{ℕ, ◌*◌, ◌+◌, ◌<◌, ◌≤◌}
use native.Mathlib.Omega.{arith}
use native.Mathlib.Decide.{dec_le, ℕ_discrete}
use native.Mathlib.Numerals.{towards_suc}
use native.Mathlib.Nat.{mod-eq_of_lt, mul_comm}
use mathlib.Core.Path.{◌∙◌, ◌≡◌, ap, refl, sym}
use mathlib.Core.Logic.{⊎_elim}
use mathlib.Core.Bool.{cond}
use mathlib.Core.List.{List, [], ◌∷◌}
use lib.IntN.{pos, ℤ}
use lib.ListN.{get_or, length, length-set}
use lib.Seq.{sets}
use Rattle.area.specs.Numbers.{HasCells, first_place, five}
use Rattle.area.specs.Squares.{row_cells}
use Rattle.area.specs.Stages.{content, loaded_five}
use Rattle.game.specs.Area.{laid}
use Rattle.game.specs.Grid.{Grid, index}
use Rattle.game.specs.Lists.{fold, range}
use Rattle.start.specs.Passes.{load_at, load_cell, load_column}
use Rattle.game.proofs.Areas.{laid_fold, sets_above, sets_apart, sets_below, sets_here}
use Rattle.game.proofs.Members.{fold_append, fold_columns, fold_map, fold_swap, length_fold, range_split}
use Rattle.area.proofs.Held.{content_few}
use Rattle.area.proofs.Rows.{row_more}
use Rattle.mine_sums.specs.Carried.{After}
use Rattle.mine_sums.specs.declared.Sums.{Sums}
use Rattle.mine_sums.proofs.Along.{after_number}

pub length_load : (w : List ℤ) (i k : ℕ) → length (load_at w i k) ≡ length w
length_load w i k = simp length-set

pub length_cells : (g : Grid) (w : List ℤ) (xs : List ℕ) → length (fold (load_cell g) w xs) ≡ length w
length_cells g w xs = length_fold (load_cell g) w xs (λ u i. length_load u i (content g i))

-- the five numbers are set one after the other
load_sets : (w : List ℤ) (i k : ℕ) → k < 2147483648 → load_at w i k ≡ sets w (first_place i) (five 0 0 k 0 0)
load_sets w i k h = rw (mod-eq_of_lt h) (simp towards_suc)

-- a cell is loaded whether another is before or after it
cells_swap : (g : Grid) (w : List ℤ) (i j : ℕ) → load_cell g (load_cell g w i) j ≡ load_cell g (load_cell g w j) i
cells_swap g w i j =
    elim (ℕ_discrete i j) [
      | yes e ↦ ap (λ (x : ℕ). load_cell g (load_cell g w x) j) e ∙ sym (ap (λ (x : ℕ). load_cell g (load_cell g w j) x) e)
      | no n ↦ elim (dec_le i j) [
        | yes h ↦ apart i j (omega arith)
        | no h ↦ sym (apart j i (omega arith))
      ]
    ]
  where
    both : (a b : ℕ) → load_cell g (load_cell g w a) b ≡ sets (sets w (first_place a) (five 0 0 (content g a) 0 0)) (first_place b) (five 0 0 (content g b) 0 0)
    both a b =
        load_sets (load_cell g w a) b (content g b) (content_few g b)
        ∙ ap (λ (u : List ℤ). sets u (first_place b) (five 0 0 (content g b) 0 0)) (load_sets w a (content g a) (content_few g a))

    apart : (a b : ℕ) → a < b → load_cell g (load_cell g w a) b ≡ load_cell g (load_cell g w b) a
    apart a b h =
        both a b ∙ sets_apart (five 0 0 (content g a) 0 0) (five 0 0 (content g b) 0 0) w (first_place a) (first_place b) (omega arith) ∙ sym (both b a)

-- a cell's content, by the sums after its column
pub content_here : (g : Grid) (row column k : ℕ) (s : Sums) → row < g.rows → column < g.columns → After g row column s → k ≡ cond s.mine 0 (1 + (s.left + s.here + s.right))
    → k ≡ content g (index g row column)
unfolding content
content_here g row column k s h l a e =
    e ∙ (λ i. cond (a.mine_is i) 0 (1 + after_number g row column s h l a i))

-- one cell more of a row
pub row_one_more : (g : Grid) (old now new : List ℤ) (row a column k : ℕ) → a ≤ column → now ≡ fold (load_cell g) old (row_cells g.rows row a column) → k ≡ content g (index g row column)
    → new ≡ load_at now (index g row column) k → new ≡ fold (load_cell g) old (row_cells g.rows row a (column + 1))
row_one_more g old now new row a column k h e q r =
    let i = index g row column in
    r ∙ ap (load_at now i) q ∙ ap (λ (w : List ℤ). load_cell g w i) e ∙ sym (fold_append (load_cell g) old (row_cells g.rows row a column) (i ∷ []))
    ∙ ap (fold (load_cell g) old) (sym (row_more g.rows row a column h))

-- some columns, row by row
pub columns_by_rows : (g : Grid) (w : List ℤ) (a b : ℕ)
    → fold (λ t row. fold (load_cell g) t (row_cells g.rows row a b)) w (range 0 g.rows) ≡ fold (load_column g) w (range a b)
unfolding row_cells
columns_by_rows g w a b =
    (λ i. fold (λ t row. fold_map (load_cell g) (λ column. column * g.rows + row) t (range a b) i) w (range 0 g.rows))
    ∙ sym (fold_swap (λ u column row. load_cell g u (column * g.rows + row)) (λ u c r d q. cells_swap g u (c * g.rows + r) (d * g.rows + q)) w (range a b) (range 0 g.rows))

-- some columns more
pub columns_more : (g : Grid) (old now new : List ℤ) (a b : ℕ) → a ≤ b → now ≡ fold (load_column g) old (range 0 a) → new ≡ fold (load_column g) now (range a b) → new ≡ fold (load_column g) old (range 0 b)
columns_more g old now new a b h e q =
    q ∙ ap (λ (w : List ℤ). fold (load_column g) w (range a b)) e ∙ sym (fold_append (load_column g) old (range 0 a) (range a b))
    ∙ ap (fold (load_column g) old) (sym (range_split 0 a b (omega arith) h))

-- the first n columns
pub loaded_first : (g : Grid) (w : List ℤ) (n : ℕ) → HasCells w (g.rows * n)
    → fold (load_column g) w (range 0 n) ≡ laid (loaded_five g) (g.rows * n) w
unfolding loaded_five
loaded_first g w n room =
    fold_columns (load_cell g) g.rows w n ∙ ap (λ (m : ℕ). fold (load_cell g) w (range 0 m)) (mul_comm n g.rows)
    ∙ laid_fold (loaded_five g) (λ i. refl) (g.rows * n) w room (load_cell g) (λ v i. length_load v i (content g i))
    (λ v i k h l b. ap (λ (u : List ℤ). get_or u (5 * i + k) (pos 0)) (load_sets v i (content g i) (content_few g i))
    ∙ sets_here (pos 0) (loaded_five g i) v (first_place i) k (omega (arith, l.long)) b)
    (λ v i m h l o. ap (λ (u : List ℤ). get_or u m (pos 0)) (load_sets v i (content g i) (content_few g i))
    ∙ ⊎_elim (λ b. sets_below (pos 0) (loaded_five g i) v (first_place i) m b) (λ b. sets_above (pos 0) (loaded_five g i) v (first_place i) m b) o)
