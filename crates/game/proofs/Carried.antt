-- A cell's number by three columns, each of which is counted once and carried from cell to cell. Assumes nothing.
use Prim.Native.Nat.{ℕ, ◌*◌, ◌+◌, ◌-◌, ◌<◌, ◌≤◌, min}
use native.Mathlib.Omega.{arith}
use native.Mathlib.Decide.{dec_le}
use mathlib.Core.Path.{◌∙◌, ◌≡◌, ap, refl, sym}
use mathlib.Core.Bool.{Bool}
use mathlib.Core.List.{List, [], ◌∷◌, map}
use Rattle.game.specs.Grid.{Grid, index, mine, near, number}
use Rattle.game.specs.Lists.{concat_map, count, range}
use Rattle.game.proofs.Counts.{count_append}
use Rattle.game.proofs.Members.{concat_map_more, range_none}
use Rattle.game.proofs.Squares.{square_at}

-- ---- parts, of each of which it is counted what passes a test

module _ (f : ℕ → Bool) (part : ℕ → List ℕ) where
  -- what passes in the parts from a on that are below b
  abbrev pub in_parts : ℕ → ℕ → ℕ
  in_parts a b = count f (concat_map part (range a b))

  pub parts_none : (a : ℕ) → 0 ≡ in_parts a a
  parts_none a = sym (ap (λ (l : List ℕ). count f (concat_map part l)) (range_none a))

  parts_more : (a b : ℕ) → a ≤ b → in_parts a (b + 1) ≡ in_parts a b + count f (part b)
  parts_more a b h = ap (count f) (concat_map_more part a b h) ∙ count_append f (concat_map part (range a b)) (part b)

  -- one part
  pub part_one : (a : ℕ) → count f (part a) ≡ in_parts a (a + 1)
  part_one a = omega (arith, parts_more a a (omega arith), parts_none a)

  -- up to three of n parts: the one before, one, the one after
  pub parts_three : (p n : ℕ) → p < n → in_parts (p - 1) (min (p + 2) n) ≡ in_parts (p - 1) p + in_parts p (p + 1) + in_parts (p + 1) (min (p + 2) n)
  parts_three p n h =
      elim (dec_le (p + 2) n) [
        | yes k ↦
            let e : min (p + 2) n ≡ p + 1 + 1 = omega arith in
            rw e (omega (arith, parts_more (p - 1) (p + 1) (omega arith), parts_more (p - 1) p (omega arith), part_one p, part_one (p + 1)))
        | no k ↦
            let e : min (p + 2) n ≡ p + 1 = omega arith in
            rw e (omega (arith, parts_more (p - 1) p (omega arith), parts_none (p + 1), part_one p))
      ]

-- ---- rows of columns, and columns of rows

module _ (f : ℕ → Bool) (k : ℕ → ℕ → ℕ) where
  no_columns : (rs : List ℕ) → count f (concat_map (λ (r : ℕ). []) rs) ≡ 0
  no_columns [] = refl
  no_columns (r ∷ rs) = no_columns rs

  column_first : (c : ℕ) (cs rs : List ℕ) → count f (concat_map (λ r. k r c ∷ map (k r) cs) rs) ≡ count f (map (λ r. k r c) rs) + count f (concat_map (λ r. map (k r) cs) rs)
  column_first c cs [] = refl
  column_first c cs (r ∷ rs) =
      omega (arith, count_append f (map (k r) cs) (concat_map (λ q. k q c ∷ map (k q) cs) rs), count_append f (map (k r) cs) (concat_map (λ q. map (k q) cs) rs), column_first c cs rs)

  -- the same is counted either way
  pub count_swap : (cs rs : List ℕ) → count f (concat_map (λ c. map (λ r. k r c) rs) cs) ≡ count f (concat_map (λ r. map (k r) cs) rs)
  count_swap [] rs = sym (no_columns rs)
  count_swap (c ∷ cs) rs =
      count_append f (map (λ r. k r c) rs) (concat_map (λ d. map (λ r. k r d) rs) cs) ∙ ap (λ (n : ℕ). count f (map (λ r. k r c) rs) + n) (count_swap cs rs) ∙ sym (column_first c cs rs)

-- ---- the number of a cell

module _ (g : Grid) where
  -- the cells of a column, in a row and the rows beside it
  abbrev pub column_part : ℕ → ℕ → List ℕ
  column_part row column = map (λ r. index g r column) (near g.rows row)

  -- what is counted in the columns to the left, of and to the right of a cell is its number
  pub number_by_columns : (row column left here right : ℕ) → row < g.rows → column < g.columns
      → left ≡ in_parts (mine g) (column_part row) (column - 1) column → here ≡ in_parts (mine g) (column_part row) column (column + 1)
      → right ≡ in_parts (mine g) (column_part row) (column + 1) (min (column + 2) g.columns) → left + here + right ≡ number g (column * g.rows + row)
  unfolding number
  number_by_columns row column left here right h k el eh er =
      let t = parts_three (mine g) (column_part row) column g.columns k in
      let s : left + here + right ≡ in_parts (mine g) (column_part row) (column - 1) (min (column + 2) g.columns) = omega arith in
      s ∙ count_swap (mine g) (λ r c. index g r c) (near g.columns column) (near g.rows row) ∙ ap (count (mine g)) (sym (square_at g row column h))
