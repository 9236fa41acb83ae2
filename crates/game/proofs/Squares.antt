-- A cell's square by rows and columns: exactly the cells one row and one column away at most, each once, by row, then column. Assumes nothing.
use Prim.Native.Nat.{ℕ, ◌*◌, ◌+◌, ◌-◌, ◌<◌, ◌≤◌, min, suc, zero}
use native.Mathlib.Omega.{arith}
use native.Mathlib.Nat.{add-zero, div-add-mod', div-eq_of_lt, div-lt_iff_lt-mul, mod-eq_of_lt, mod-lt, mul-add-div_right, mul-add-mod_self_right, mul_comm, mul-le-mul_right, suc-mul}
use native.Mathlib.Numerals.{add-one}
use mathlib.Core.Path.{◌∙◌, ◌≡◌, ap, subst, sym}
use mathlib.Core.Logic.{◌⊎◌, inl, inr, ⊎_elim}
use mathlib.Core.Bool.{Bool, ◌&&◌}
use mathlib.Core.List.{map}
use lib.Dec.{T}
use lib.ListN.{get_or, length}
use Rattle.game.specs.Grid.{Grid, cells, column_of, index, near, row_of, size, square}
use Rattle.game.specs.Lists.{concat_map, count, has}
use Rattle.game.proofs.Counts.{Once, count_once}
use Rattle.game.proofs.Members.{concat_map_has, get_d_range, has_concat_map, has_map, has_range, length_from, map_has, range_has}
use Rattle.game.proofs.Orders.{Ordered, once_range, ordered_concat_map, ordered_map, ordered_once, ordered_range}
use Rattle.game.proofs.Truth.{iff}

-- j is at most one row and one column from i
pub record Close (g : Grid) (i j : ℕ) : Type 0 where
  pub north : row_of g i ≤ row_of g j + 1
  pub south : row_of g j ≤ row_of g i + 1
  pub west : column_of g i ≤ column_of g j + 1
  pub east : column_of g j ≤ column_of g i + 1

pub close_sym : (g : Grid) (i j : ℕ) → Close g i j → Close g j i
close_sym g i j c = record { north = c.south; south = c.north; west = c.east; east = c.west }

pub self_close : (g : Grid) (i : ℕ) → Close g i i
self_close g i = omega arith

-- ---- an index, its row and its column

rows_pos : (g : Grid) (i : ℕ) → i < size g → 0 < g.rows
rows_pos g i h = go g.rows h
  where
    go : (n : ℕ) → i < n * g.columns → 0 < n
    go zero k = absurd (omega arith)
    go (suc n) k = omega arith

pub row_lt : (g : Grid) (i : ℕ) → i < size g → row_of g i < g.rows
row_lt g i h = mod-lt i (rows_pos g i h)

pub column_lt : (g : Grid) (i : ℕ) → i < size g → column_of g i < g.columns
column_lt g i h = (div-lt_iff_lt-mul (rows_pos g i h)).1 (rw (mul_comm g.columns g.rows) h)

pub index-row : (g : Grid) (r c : ℕ) → r < g.rows → row_of g (index g r c) ≡ r
index-row g r c h = mul-add-mod_self_right c g.rows r ∙ mod-eq_of_lt h

pub index-column : (g : Grid) (r c : ℕ) → r < g.rows → column_of g (index g r c) ≡ c
index-column g r c h =
    mul-add-div_right (omega arith) c r ∙ ap (λ (k : ℕ). c + k) (div-eq_of_lt h) ∙ add-zero c

pub index_of : (g : Grid) (i : ℕ) → index g (row_of g i) (column_of g i) ≡ i
index_of g i = div-add-mod' i g.rows

pub index-lt : (g : Grid) (r c : ℕ) → r < g.rows → c < g.columns → index g r c < size g
index-lt g r c h k = omega (arith, mul-le-mul_right g.rows k)

-- where the next column begins
pub next_column : (rows column : ℕ) → column * rows + rows ≡ (column + 1) * rows
next_column rows column = sym (rw (add-one, suc-mul))

-- ---- the square

pub square→ : (g : Grid) (i j : ℕ) → i < size g → T (has j (square g i)) → (j < size g) × Close g i j
unfolding square
square→ g i j h t =
    let a = concat_map_has (λ r. map (λ c. index g r c) (near g.columns (column_of g i))) j (near g.rows (row_of g i)) t in
    let b = map_has (λ c. index g a.0 c) j (near g.columns (column_of g i)) a.2 in
    let rn = has_range (row_of g i - 1) (min (row_of g i + 2) g.rows) a.0 a.1 in
    let cn = has_range (column_of g i - 1) (min (column_of g i + 2) g.columns) b.0 b.1 in
    let rl : a.0 < g.rows = omega arith in
    let cl : b.0 < g.columns = omega arith in
    let er : row_of g j ≡ a.0 = ap (row_of g) b.2 ∙ index-row g a.0 b.0 rl in
    let ec : column_of g j ≡ b.0 = ap (column_of g) b.2 ∙ index-column g a.0 b.0 rl in (
      rw b.2 (index-lt g a.0 b.0 rl cl),
      omega arith,
    )

pub →square : (g : Grid) (i j : ℕ) → i < size g → j < size g → Close g i j → T (has j (square g i))
unfolding square
→square g i j hi hj c =
    let rl = row_lt g j hj in
    let cl = column_lt g j hj in
    has_concat_map (λ r. map (λ c. index g r c) (near g.columns (column_of g i))) (row_of g j) j (near g.rows (row_of g i))
    (range_has (row_of g i - 1) (min (row_of g i + 2) g.rows) (row_of g j) (omega arith) (omega arith))
    (subst (λ (k : ℕ). T (has k (map (λ c. index g (row_of g j) c) (near g.columns (column_of g i))))) (index_of g j)
    (has_map (λ c. index g (row_of g j) c) (column_of g j) (near g.columns (column_of g i))
    (range_has (column_of g i - 1) (min (column_of g i + 2) g.columns) (column_of g j) (omega arith) (omega arith))))

-- two cells are each in the other's square, or neither is
pub square_sym : (g : Grid) (i j : ℕ) → i < size g → j < size g → has i (square g j) ≡ has j (square g i)
square_sym g i j h k =
    iff (has i (square g j)) (has j (square g i)) (λ t. →square g i j h k (close_sym g j i (square→ g j i k t).1))
    (λ t. →square g j i k h (close_sym g i j (square→ g i j h t).1))

pub in-own-square : (g : Grid) (i : ℕ) → i < size g → T (has i (square g i))
in-own-square g i h = →square g i i h h (self_close g i)

-- ---- its order

-- by row, then column
abbrev pub RowFirst : Grid → ℕ → ℕ → Type 0
RowFirst g a b = (row_of g a < row_of g b) ⊎ ((row_of g a ≡ row_of g b) × (column_of g a < column_of g b))

pub ordered_square : (g : Grid) (i : ℕ) → Ordered (RowFirst g) (square g i)
unfolding square
ordered_square g i =
    ordered_concat_map ◌<◌ (RowFirst g) (λ r. map (λ c. index g r c) (near g.columns (column_of g i))) (near g.rows (row_of g i))
    (ordered_range (row_of g i - 1) (min (row_of g i + 2) g.rows))
    (λ r t. ordered_map ◌<◌ (RowFirst g) (λ c. index g r c) (near g.columns (column_of g i)) (λ c d h. inr (one_row r c d (in_rows r t) h))
    (ordered_range (column_of g i - 1) (min (column_of g i + 2) g.columns)))
    (λ r q z w t u h v x. inl (two_rows r q z w (in_rows r t) (in_rows q u) h v x))
  where
    in_rows : (r : ℕ) → T (has r (near g.rows (row_of g i))) → r < g.rows
    in_rows r t = let h = has_range (row_of g i - 1) (min (row_of g i + 2) g.rows) r t in omega arith

    one_row : (r c d : ℕ) → r < g.rows → c < d → (row_of g (index g r c) ≡ row_of g (index g r d)) × (column_of g (index g r c) < column_of g (index g r d))
    one_row r c d h k =
        (index-row g r c h ∙ sym (index-row g r d h), omega (arith, index-column g r c h, index-column g r d h))

    row-of : (r z : ℕ) → r < g.rows → T (has z (map (λ c. index g r c) (near g.columns (column_of g i)))) → row_of g z ≡ r
    row-of r z h t = let a = map_has (λ c. index g r c) z (near g.columns (column_of g i)) t in ap (row_of g) a.2 ∙ index-row g r a.0 h

    two_rows : (r q z w : ℕ) → r < g.rows → q < g.rows → r < q → T (has z (map (λ c. index g r c) (near g.columns (column_of g i))))
        → T (has w (map (λ c. index g q c) (near g.columns (column_of g i)))) → row_of g z < row_of g w
    two_rows r q z w h k l t u = omega (arith, row-of r z h t, row-of q w k u)

pub once_square : (g : Grid) (i : ℕ) → Once (square g i)
once_square g i = ordered_once (RowFirst g) (square g i) (λ x h. ⊎_elim (λ k. omega arith) (λ k. omega arith) h) (ordered_square g i)

-- ---- the cells of the grid

pub cells→ : (g : Grid) (i : ℕ) → T (has i (cells g)) → i < size g
cells→ g i t = (has_range 0 (size g) i t).1

pub →cells : (g : Grid) (i : ℕ) → i < size g → T (has i (cells g))
→cells g i h = range_has 0 (size g) i (omega arith) h

pub length_cells : (g : Grid) → length (cells g) ≡ size g
length_cells g = omega (arith, length_from (size g - 0) 0)

pub once_cells : (g : Grid) → Once (cells g)
once_cells g = once_range 0 (size g)

-- what a list made cell by cell holds at a cell
pub get_d_cells : (g : Grid) (f : ℕ → ℕ) (j : ℕ) → j < size g → get_or (map f (cells g)) j 0 ≡ f j
get_d_cells g f j h = get_d_range f 0 (size g) j h

-- what is counted in a square, counted over the grid
pub count_square : (g : Grid) (f : ℕ → Bool) (i : ℕ) → i < size g → count f (square g i) ≡ count (λ j. has j (square g i) && f j) (cells g)
count_square g f i h =
    count_once f (square g i) (cells g) (once_square g i) (once_cells g) (λ x t. →cells g x (square→ g i x h t).0)

-- ---- the square of a cell by its row and column

pub square_at : (g : Grid) (row column : ℕ) → row < g.rows
    → square g (index g row column) ≡ concat_map (λ r. map (λ c. index g r c) (near g.columns column)) (near g.rows row)
unfolding square
square_at g row column h =
    ap (λ (k : ℕ). concat_map (λ r. map (λ c. index g r c) (near g.columns k)) (near g.rows (row_of g (index g row column)))) (index-column g row column h)
    ∙ ap (λ (k : ℕ). concat_map (λ r. map (λ c. index g r c) (near g.columns column)) (near g.rows k)) (index-row g row column h)
