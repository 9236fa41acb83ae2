-- The cells of a square, by their place in it: each row and column beside the middle is one of three, unless it is off the grid. Assumes nothing.
use Prim.Native.Nat.{ℕ, ◌%◌, ◌*◌, ◌+◌, ◌-◌, ◌/◌, ◌<◌, ◌≤◌, min, suc, zero}
use native.Mathlib.Nat.{mod-lt}
use native.Mathlib.Omega.{arith}
use native.Mathlib.Decide.{dec_le}
use mathlib.Core.Path.{◌∙◌, ◌≡◌, ap, ap₂, refl, sym}
use mathlib.Core.Bool.{Bool, ◌&&◌, cond, false, true}
use mathlib.Core.List.{List, [], ◌++◌, ◌∷◌, append_assoc, append-nil, map, map-append}
use mathlib.Core.Logic.{◌⊎◌, inl, inr}
use borrow.Author.Tests.{le-leb, le-ltb, lt-leb, lt-ltb}
use lib.Dec.{leb}
use Rattle.game.specs.Grid.{Grid, column_of, index, near, row_of, size, square}
use Rattle.game.specs.Lists.{concat_map, from, range}
use Rattle.game.proofs.Members.{concat_map_append, concat_map_more}
use Rattle.game.proofs.Squares.{column_lt, index-column, index-lt, index_of, index-row}
use Rattle.area.specs.Numbers.{grid_of}
use Rattle.area.specs.Squares.{Neighbour, near_cell, on_grid, side}
use Rattle.area.specs.Stages.{Shape}

module _ (rows columns : ℕ) (s : Shape rows columns) where
  -- the neighbour in row r and column c, both counted from 1
  pub on-grid : (i d e r c : ℕ) → r ≡ i % rows + d → c ≡ i / rows + e → 1 ≤ r → r ≤ rows → 1 ≤ c → c ≤ columns
      → Neighbour (grid_of rows columns []) i d e ((c - 1) * rows + (r - 1))
  on-grid i d e r c er ec r1 rn c1 cn =
      let g = grid_of rows columns [] in
      record {
        row = λ h. omega (arith, index-row g (r - 1) (c - 1) (omega arith));
        column = λ h. omega (arith, index-column g (r - 1) (c - 1) (omega arith));
        found = λ y h a b.
            let p : r - 1 ≡ y % rows = omega arith in
            let q : c - 1 ≡ y / rows = omega arith in
            rw (p, q) (index_of g y);
      }

-- ---- the three rows or columns

side_is : (n p d v : ℕ) → v + 1 ≡ p + d → p + d ≤ n → side n p d ≡ v ∷ []
side_is n p d v e h =
    ap₂ (λ a b. cond (a && b) ((p + d - 1) ∷ []) []) (le-leb 1 (p + d) (omega arith)) (le-leb (p + d) n h) ∙ ap (λ (k : ℕ). k ∷ []) (omega arith)

side_below : (n p d : ℕ) → p + d ≡ 0 → side n p d ≡ []
side_below n p d e = ap (λ a. cond (a && leb (p + d) n) ((p + d - 1) ∷ []) []) (lt-leb 1 (p + d) (omega arith))

side_past : (n p d : ℕ) → 1 ≤ p + d → n < p + d → side n p d ≡ []
side_past n p d k h =
    ap₂ (λ a b. cond (a && b) ((p + d - 1) ∷ []) []) (le-leb 1 (p + d) k) (lt-leb (p + d) n h)

-- the places beside p, and p, are the three on from the one before it
near_sides : (n p : ℕ) → p < n → near n p ≡ side n p 0 ++ (side n p 1 ++ side n p 2)
near_sides n zero h =
    elim (dec_le 2 n) [
      | yes k ↦ let e : min (0 + 2) n - (0 - 1) ≡ 2 = omega arith in
          rw (side_below n 0 0 (omega arith), side_is n 0 1 0 (omega arith) (omega arith), side_is n 0 2 1 (omega arith) (omega arith)) (ap (from 0) e)
      | no k ↦ let e : min (0 + 2) n - (0 - 1) ≡ 1 = omega arith in
          rw (side_below n 0 0 (omega arith), side_is n 0 1 0 (omega arith) (omega arith), side_past n 0 2 (omega arith) (omega arith)) (ap (from 0) e)
    ]
near_sides n (suc p) h =
    elim (dec_le (p + 3) n) [
      | yes k ↦ let e : min (suc p + 2) n - (suc p - 1) ≡ 3 = omega arith in
          rw (side_is n (suc p) 0 p (omega arith) (omega arith), side_is n (suc p) 1 (suc p) (omega arith) (omega arith), side_is n (suc p) 2 (suc (suc p)) (omega arith) (omega arith))
          (ap₂ from (less p) e)
      | no k ↦ let e : min (suc p + 2) n - (suc p - 1) ≡ 2 = omega arith in
          rw (side_is n (suc p) 0 p (omega arith) (omega arith), side_is n (suc p) 1 (suc p) (omega arith) (omega arith), side_past n (suc p) 2 (omega arith) (omega arith))
          (ap₂ from (less p) e)
    ]
  where
    less : (p : ℕ) → suc p - 1 ≡ p
    less p = omega arith

-- ---- the nine cells

-- the cells of some rows in some columns
abbrev block : Grid → List ℕ → List ℕ → List ℕ
block g rs zs = concat_map (λ row. map (λ column. index g row column) zs) rs

block_columns : (g : Grid) (row : ℕ) (xs ys zs : List ℕ) → block g (row ∷ []) (xs ++ (ys ++ zs)) ≡ block g (row ∷ []) xs ++ (block g (row ∷ []) ys ++ block g (row ∷ []) zs)
block_columns g row xs ys zs =
    append-nil (map f (xs ++ (ys ++ zs))) ∙ map-append f xs (ys ++ zs) ∙ ap (λ (l : List ℕ). map f xs ++ l) (map-append f ys zs)
    ∙ sym (ap₂ (λ (x y : List ℕ). x ++ y) (append-nil (map f xs)) (ap₂ (λ (x y : List ℕ). x ++ y) (append-nil (map f ys)) (append-nil (map f zs))))
  where
    f : ℕ → ℕ
    f column = index g row column

-- one row of the square, if it is on the grid
block_row : (g : Grid) (n p d : ℕ) (xs ys zs : List ℕ) → block g (side n p d) (xs ++ (ys ++ zs)) ≡ block g (side n p d) xs ++ (block g (side n p d) ys ++ block g (side n p d) zs)
block_row g n p d xs ys zs = go (leb 1 (p + d) && leb (p + d) n)
  where
    go : (b : Bool) → block g (cond b ((p + d - 1) ∷ []) []) (xs ++ (ys ++ zs))
        ≡ block g (cond b ((p + d - 1) ∷ []) []) xs ++ (block g (cond b ((p + d - 1) ∷ []) []) ys ++ block g (cond b ((p + d - 1) ∷ []) []) zs)
    go true = block_columns g (p + d - 1) xs ys zs
    go false = refl

-- the cells of a square, one place after the other
pub nine : Grid → ℕ → ℕ → List ℕ
nine g i k = concat_map (λ n. near_cell g i (n / 3) (n % 3)) (range 0 k)

pub nine_none : (g : Grid) (i : ℕ) → nine g i 0 ≡ []
unfolding nine
nine_none g i = refl

pub nine_more : (g : Grid) (i k : ℕ) → nine g i (k + 1) ≡ nine g i k ++ near_cell g i (k / 3) (k % 3)
unfolding nine
nine_more g i k = concat_map_more (λ n. near_cell g i (n / 3) (n % 3)) 0 k (omega arith)

pub nine_all : (g : Grid) (i : ℕ) → i < size g → 1 ≤ g.rows → nine g i 9 ≡ square g i
unfolding nine near_cell square
nine_all g i h k =
    let rs = near_sides g.rows (row_of g i) (mod-lt i k) in
    let qs = near_sides g.columns (column_of g i) (column_lt g i h) in
    sym (ap₂ (block g) rs qs ∙ all (row_of g i) (column_of g i))
  where
    -- the cell at a row and a column, and a whole row, of the three and three
    one : ℕ → ℕ → ℕ → ℕ → List ℕ
    one r c d e = block g (side g.rows r d) (side g.columns c e)

    columns : ℕ → List ℕ
    columns c = side g.columns c 0 ++ (side g.columns c 1 ++ side g.columns c 2)

    row : (r c d : ℕ) → block g (side g.rows r d) (columns c) ≡ one r c d 0 ++ (one r c d 1 ++ one r c d 2)
    row r c d = block_row g g.rows r d (side g.columns c 0) (side g.columns c 1) (side g.columns c 2)

    regroup : (xs ys zs ws : List ℕ) → (xs ++ (ys ++ zs)) ++ ws ≡ xs ++ (ys ++ (zs ++ ws))
    regroup xs ys zs ws = append_assoc xs (ys ++ zs) ws ∙ ap (λ (l : List ℕ). xs ++ l) (append_assoc ys zs ws)

    joined : List ℕ → List ℕ → List ℕ
    joined xs ys = xs ++ ys

    rows : (r c : ℕ) → block g (side g.rows r 0 ++ (side g.rows r 1 ++ side g.rows r 2)) (columns c)
        ≡ block g (side g.rows r 0) (columns c) ++ (block g (side g.rows r 1) (columns c) ++ block g (side g.rows r 2) (columns c))
    rows r c =
        let f : ℕ → List ℕ = λ y. map (λ x. index g y x) (columns c) in
        concat_map_append f (side g.rows r 0) (side g.rows r 1 ++ side g.rows r 2)
        ∙ ap (λ (l : List ℕ). concat_map f (side g.rows r 0) ++ l) (concat_map_append f (side g.rows r 1) (side g.rows r 2))

    last : (r c : ℕ) → block g (side g.rows r 2) (columns c) ≡ one r c 2 0 ++ (one r c 2 1 ++ (one r c 2 2 ++ []))
    last r c = row r c 2 ∙ sym (append-nil (one r c 2 0 ++ (one r c 2 1 ++ one r c 2 2))) ∙ regroup (one r c 2 0) (one r c 2 1) (one r c 2 2) []

    all : (r c : ℕ) → block g (side g.rows r 0 ++ (side g.rows r 1 ++ side g.rows r 2)) (columns c)
        ≡ one r c 0 0 ++ (one r c 0 1 ++ (one r c 0 2 ++ (one r c 1 0 ++ (one r c 1 1 ++ (one r c 1 2 ++ (one r c 2 0 ++ (one r c 2 1 ++ (one r c 2 2 ++ []))))))))
    all r c =
        rows r c
        ∙ ap₂ joined (row r c 0)
        (ap₂ joined (row r c 1) (last r c) ∙ regroup (one r c 1 0) (one r c 1 1) (one r c 1 2) (one r c 2 0 ++ (one r c 2 1 ++ (one r c 2 2 ++ []))))
        ∙ regroup (one r c 0 0) (one r c 0 1) (one r c 0 2) (one r c 1 0 ++ (one r c 1 1 ++ (one r c 1 2 ++ (one r c 2 0 ++ (one r c 2 1 ++ (one r c 2 2 ++ []))))))

-- ---- one cell

-- a row or a column is there, or it is off the grid
side_cases : (n p d : ℕ) → ((side n p d ≡ (p + d - 1) ∷ []) × (1 ≤ p + d) × (p + d ≤ n)) ⊎ ((side n p d ≡ []) × (1 ≤ p + d → p + d ≤ n → ⊥))
side_cases n p d =
    elim (dec_le 1 (p + d)) [
      | no f ↦ inr (side_below n p d (omega arith), λ h k. f h)
      | yes h ↦ elim (dec_le (p + d) n) [
        | yes k ↦ inl (side_is n p d (p + d - 1) (omega arith) k, h, k)
        | no f ↦ inr (side_past n p d h (omega arith), λ _ k. f k)
      ]
    ]

-- no cell there
block_none : (g : Grid) (n p d : ℕ) → block g (side n p d) [] ≡ []
block_none g n p d = go (leb 1 (p + d) && leb (p + d) n)
  where
    go : (b : Bool) → block g (cond b ((p + d - 1) ∷ []) []) [] ≡ []
    go true = refl
    go false = refl

-- what is found so many rows and columns on is the cell there, if it is on the grid
pub near-cell : (g : Grid) (i d e r : ℕ) → 1 ≤ g.rows → Neighbour g i d e r → on_grid (size g) r ≡ near_cell g i d e
unfolding near_cell
near-cell g i d e r s n = go (side_cases g.rows (row_of g i) d) (side_cases g.columns (column_of g i) e)
  where
    off : (r < size g → ⊥) → on_grid (size g) r ≡ []
    off f = ap (λ (b : Bool). cond b (r ∷ []) []) (le-ltb r (size g) (omega arith))

    go : ((side g.rows (row_of g i) d ≡ (row_of g i + d - 1) ∷ []) × (1 ≤ row_of g i + d) × (row_of g i + d ≤ g.rows))
        ⊎ ((side g.rows (row_of g i) d ≡ []) × (1 ≤ row_of g i + d → row_of g i + d ≤ g.rows → ⊥))
        → ((side g.columns (column_of g i) e ≡ (column_of g i + e - 1) ∷ []) × (1 ≤ column_of g i + e) × (column_of g i + e ≤ g.columns))
        ⊎ ((side g.columns (column_of g i) e ≡ []) × (1 ≤ column_of g i + e → column_of g i + e ≤ g.columns → ⊥))
        → on_grid (size g) r ≡ block g (side g.rows (row_of g i) d) (side g.columns (column_of g i) e)
    go (inl (a, h, k)) (inl (b, l, m)) =
        let y = index g (row_of g i + d - 1) (column_of g i + e - 1) in
        let below : y < size g = index-lt g (row_of g i + d - 1) (column_of g i + e - 1) (omega arith) (omega arith) in
        let q : r ≡ y =
        n.found y below (omega (arith, index-row g (row_of g i + d - 1) (column_of g i + e - 1) (omega arith))) (omega (arith, index-column g (row_of g i + d - 1) (column_of g i + e - 1) (omega arith))) in
        ap (λ (b : Bool). cond b (r ∷ []) []) (lt-ltb r (size g) (omega arith)) ∙ ap (λ (k : ℕ). k ∷ []) q ∙ sym (ap₂ (block g) a b)
    go (inr (a, f)) c =
        off (λ t. let w = mod-lt r s in f (omega (arith, n.row t)) (omega (arith, n.row t))) ∙ sym (ap (λ (l : List ℕ). block g l (side g.columns (column_of g i) e)) a)
    go (inl (a, h, k)) (inr (b, f)) =
        off (λ t. let w = column_lt g r t in f (omega (arith, n.column t)) (omega (arith, n.column t)))
        ∙ sym (ap (block g (side g.rows (row_of g i) d)) b ∙ block_none g g.rows (row_of g i) d)
