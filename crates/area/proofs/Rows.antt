-- Walks over a row and over a square: one place more at each turn. Assumes nothing.
use Prim.Native.Nat.{ℕ, ◌%◌, ◌*◌, ◌+◌, ◌-◌, ◌/◌, ◌<◌, ◌≤◌, min}
use native.Mathlib.Omega.{arith}
use mathlib.Core.Path.{◌≡◌, ◌∙◌, ap, refl, sym}
use mathlib.Core.Logic.{◌⊎◌, ⊎_elim}
use mathlib.Core.List.{List, [], ◌∷◌, ◌++◌, append_assoc, append-nil, map, map-append}
use Rattle.game.specs.Grid.{Grid, column_of, index, near, row_of, square}
use Rattle.game.specs.Lists.{concat_map, fold, range}
use Rattle.game.proofs.Members.{fold_append, range_more, range_none}
use Rattle.game.proofs.Squares.{column_lt, row_lt}
use Rattle.area.specs.Numbers.{grid_of}
use Rattle.area.specs.Squares.{Around, block_cells, row_cells, square_of}

-- the row and the column of a cell
pub row_inside : (rows columns i : ℕ) → i < rows * columns → i % rows < rows
row_inside rows columns i h = row_lt (grid_of rows columns []) i h

pub column_inside : (rows columns i : ℕ) → i < rows * columns → i / rows < columns
column_inside rows columns i h = column_lt (grid_of rows columns []) i h

-- the square turns on rows and columns alone
pub same-square : (g : Grid) (i : ℕ) → square_of g.rows g.columns i ≡ square g i
unfolding square
same-square g i = refl

-- in the first columns of a grid it is the grid's, unless the cell stands in the last of them
pub narrow_square : (g : Grid) (columns i : ℕ) → (columns ≡ g.columns) ⊎ ((columns < g.columns) × (column_of g i + 1 < columns)) → square_of g.rows columns i ≡ square g i
unfolding square
narrow_square g columns i h =
    ap (λ (n : ℕ). concat_map (λ row. map (λ column. index g row column) (range (column_of g i - 1) n)) (near g.rows (row_of g i)))
    (⊎_elim (λ e. ap (min (column_of g i + 2)) e) (λ k. omega (arith, k.0, k.1)) h)

-- ---- a row

pub row_none : (rows row a : ℕ) → row_cells rows row a a ≡ []
unfolding row_cells
row_none rows row a = ap (map (λ column. column * rows + row)) (range_none a)

pub row_more : (rows row a k : ℕ) → a ≤ k → row_cells rows row a (k + 1) ≡ row_cells rows row a k ++ ((k * rows + row) ∷ [])
unfolding row_cells
row_more rows row a k h =
    ap (map (λ column. column * rows + row)) (range_more a k h) ∙ map-append (λ column. column * rows + row) (range a k) (k ∷ [])

-- ---- rows one after the other

pub block_none : (rows y a b : ℕ) → block_cells rows y y a b ≡ []
unfolding block_cells
block_none rows y a b = ap (concat_map (λ row. row_cells rows row a b)) (range_none y)

concat_map_last : (f : ℕ → List ℕ) (xs : List ℕ) (y : ℕ) → concat_map f (xs ++ (y ∷ [])) ≡ concat_map f xs ++ f y
concat_map_last f [] y = append-nil (f y)
concat_map_last f (x ∷ xs) y =
    ap (λ (l : List ℕ). f x ++ l) (concat_map_last f xs y) ∙ sym (append_assoc (f x) (concat_map f xs) (f y))

pub block_more : (rows y k a b : ℕ) → y ≤ k → block_cells rows y (k + 1) a b ≡ block_cells rows y k a b ++ row_cells rows k a b
unfolding block_cells
block_more rows y k a b h =
    ap (concat_map (λ row. row_cells rows row a b)) (range_more y k h) ∙ concat_map_last (λ row. row_cells rows row a b) (range y k) k

-- a square is such rows
pub sides_around : (rows columns i : ℕ) → i < rows * columns
    → Around rows columns i (i % rows - 1) (min (i % rows + 2) rows) (i / rows - 1) (min (i / rows + 2) columns)
unfolding square block_cells row_cells
sides_around rows columns i h =
    let r = row_inside rows columns i h in
    let c = column_inside rows columns i h in
    record { cells = refl; some_rows = omega arith; in_rows = omega arith; few_rows = omega arith; some_columns = omega arith; in-columns = omega arith; few_columns = omega arith }

-- ---- what is done with each cell in turn

pub row_begin : {S : Type 0} (f : S → ℕ → S) (s : S) (rows row a : ℕ) → s ≡ fold f s (row_cells rows row a a)
row_begin f s rows row a = sym (ap (fold f s) (row_none rows row a))

pub row_on : {S : Type 0} (f : S → ℕ → S) (s t u : S) (rows row a k : ℕ) → a ≤ k → t ≡ fold f s (row_cells rows row a k)
    → u ≡ f t (k * rows + row) → u ≡ fold f s (row_cells rows row a (k + 1))
row_on f s t u rows row a k h e q =
    q ∙ ap (λ x. f x (k * rows + row)) e ∙ sym (fold_append f s (row_cells rows row a k) ((k * rows + row) ∷ []))
    ∙ sym (ap (fold f s) (row_more rows row a k h))

pub block_begin : {S : Type 0} (f : S → ℕ → S) (s : S) (rows y a b : ℕ) → s ≡ fold f s (block_cells rows y y a b)
block_begin f s rows y a b = sym (ap (fold f s) (block_none rows y a b))

pub block_on : {S : Type 0} (f : S → ℕ → S) (s t u : S) (rows y k a b : ℕ) → y ≤ k → t ≡ fold f s (block_cells rows y k a b)
    → u ≡ fold f t (row_cells rows k a b) → u ≡ fold f s (block_cells rows y (k + 1) a b)
block_on f s t u rows y k a b h e q =
    q ∙ ap (λ x. fold f x (row_cells rows k a b)) e ∙ sym (fold_append f s (block_cells rows y k a b) (row_cells rows k a b))
    ∙ sym (ap (fold f s) (block_more rows y k a b h))
