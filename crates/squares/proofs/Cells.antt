-- The next cell of what is left of a square, and what is left after it. Assumes nothing.
use Prim.Native.Nat.{ℕ, ◌*◌, ◌+◌, ◌-◌, ◌/◌, ◌%◌, ◌<◌, min, suc}
use native.Mathlib.Omega.{arith}
use mathlib.Core.Path.{◌≡◌, ◌∙◌, ap, sym}
use mathlib.Core.List.{List, [], ◌∷◌, ◌++◌, map}
use Rattle.game.specs.Lists.{concat_map, from, range}
use Rattle.area.specs.Squares.{block_cells, row_cells, square_of}
use Rattle.area.proofs.Rows.{block_none, row_none, sides_around}
use Rattle.squares.specs.Left.{cells_left}

-- a range from its first number on
range_next : (a b : ℕ) → a < b → range a b ≡ a ∷ range (a + 1) b
range_next a b h = let e : b - a ≡ suc (b - (a + 1)) = omega (arith, h) in let f : suc a ≡ a + 1 = omega arith in ap (from a) e ∙ ap (λ (k : ℕ). a ∷ from k (b - (a + 1))) f

row_next : (rows row a b : ℕ) → a < b → row_cells rows row a b ≡ (a * rows + row) ∷ row_cells rows row (a + 1) b
unfolding row_cells
row_next rows row a b h = ap (map (λ column. column * rows + row)) (range_next a b h)

block_next : (rows y z a b : ℕ) → y < z → block_cells rows y z a b ≡ row_cells rows y a b ++ block_cells rows (y + 1) z a b
unfolding block_cells
block_next rows y z a b h = ap (concat_map (λ row. row_cells rows row a b)) (range_next y z h)

-- a row with a cell left gives it
pub cell_next : (rows row last column a b : ℕ) → column < b
    → cells_left rows row last column a b ≡ (column * rows + row) ∷ cells_left rows row last (column + 1) a b
cell_next rows row last column a b h = ap (λ (l : List ℕ). l ++ block_cells rows (row + 1) last a b) (row_next rows row column b h)

-- a row with no cell left gives way to the next
pub row_over : (rows row last a b : ℕ) → row + 1 < last → cells_left rows row last b a b ≡ cells_left rows (row + 1) last a a b
row_over rows row last a b h =
    ap (λ (l : List ℕ). l ++ block_cells rows (row + 1) last a b) (row_none rows row b) ∙ block_next rows (row + 1) last a b h

-- nothing is left below the last row
pub all_over : (rows row a b : ℕ) → cells_left rows row (row + 1) b a b ≡ []
all_over rows row a b =
    ap (λ (l : List ℕ). l ++ block_cells rows (row + 1) (row + 1) a b) (row_none rows row b) ∙ block_none rows (row + 1) a b

-- nothing is left once the last row has no cell left
pub nothing_left : (rows row last column a b : ℕ) → column ≡ b → row + 1 ≡ last → cells_left rows row last column a b ≡ []
nothing_left rows row last column a b e f =
    ap (λ (k : ℕ). cells_left rows row k column a b) (sym f) ∙ ap (λ (k : ℕ). cells_left rows row (row + 1) k a b) e ∙ all_over rows row a b

-- a square, before any cell of it was given
pub whole_square : (rows columns i : ℕ) → i < rows * columns
    → cells_left rows (i % rows - 1) (min (i % rows + 2) rows) (i / rows - 1) (i / rows - 1) (min (i / rows + 2) columns) ≡ square_of rows columns i
whole_square rows columns i h =
    let s = sides_around rows columns i h in
    let r = Rattle.area.proofs.Rows.row_inside rows columns i h in
    sym (s.cells ∙ block_next rows (i % rows - 1) (min (i % rows + 2) rows) (i / rows - 1) (min (i / rows + 2) columns) (omega arith))
