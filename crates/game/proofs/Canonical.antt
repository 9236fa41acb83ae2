-- The canonical grid by its places: each cell's right value stands where its value stood, so the mines are the same, and so is every call. Assumes nothing.
use Prim.Native.Nat.{ℕ, ◌*◌, ◌+◌, ◌/◌, ◌%◌, ◌<◌}
use native.Mathlib.Decide.{dec_lt}
use native.Mathlib.Nat.{div-add-mod', div-lt_iff_lt-mul, mod-lt}
use native.Mathlib.Omega.{arith}
use mathlib.Core.Path.{◌∙◌, ◌≡◌, ap, ap₂, refl, sym}
use mathlib.Core.Bool.{Bool, cond, false, true}
use mathlib.Core.List.{List}
use mathlib.Core.Option.{none}
use borrow.Author.Tests.{eqb-true, not-false}
use lib.Arith.{digits_div, digits_lt, digits_mod}
use lib.Dec.{eqb}
use lib.IntN.{negsuc, pos, ℤ}
use lib.ListN.{get_or-eq_default, get_or, length, length-map}
use lib.Seq.{ext_get_or}
use Rattle.game.specs.Calls.{board_checks, first_given}
use Rattle.game.specs.Grid.{Grid, canonical, cell_at, cells, column_of, index, is_mine, mine, number, right_value, right_values, row_of, size, value_at}
use Rattle.game.proofs.Alike.{SameCalls, calls_same, revalued, right_same}
use Rattle.game.proofs.Checks.{each_fails}
use Rattle.game.proofs.Members.{get_d_range}
use Rattle.game.proofs.Squares.{column_lt, index-column, index-lt, index_of, index-row, length_cells, row_lt}

-- ---- the cell at a place

module _ (g : Grid) (p : ℕ) (h : p < size g) where
  columns_pos : 0 < g.columns
  columns_pos = omega (arith, column_lt g p h)

  row_in : p / g.columns < g.rows
  row_in = (div-lt_iff_lt-mul columns_pos).1 h

  -- the cell at a place is on the grid
  pub cell_at_lt : cell_at g p < size g
  cell_at_lt = index-lt g (p / g.columns) (p % g.columns) row_in (mod-lt p columns_pos)

  -- its value stands there
  pub cell_at_place : row_of g (cell_at g p) * g.columns + column_of g (cell_at g p) ≡ p
  cell_at_place =
      (λ j. index-row g (p / g.columns) (p % g.columns) row_in j * g.columns + index-column g (p / g.columns) (p % g.columns) row_in j)
      ∙ div-add-mod' p g.columns

  pub mine_at_place : mine g (cell_at g p) ≡ is_mine (get_or g.values p (pos 0))
  unfolding mine
  mine_at_place = ap (λ (k : ℕ). is_mine (get_or g.values k (pos 0))) cell_at_place

-- the cell at the place of a cell's value
pub cell_back : (g : Grid) (i : ℕ) → i < size g → cell_at g (row_of g i * g.columns + column_of g i) ≡ i
cell_back g i h =
    let k = column_lt g i h in
    ap₂ (index g) (digits_div (row_of g i) k) (digits_mod (row_of g i) k) ∙ index_of g i

-- ---- the right values

-- how many values the canonical grid has
pub length_right : (g : Grid) → length (right_values g) ≡ size g
unfolding right_values
length_right g = length-map (cells g) (λ p. right_value g (cell_at g p)) ∙ length_cells g

-- the value at a place of it
pub right_at : (g : Grid) (p : ℕ) → p < size g → get_or (right_values g) p (pos 0) ≡ right_value g (cell_at g p)
unfolding right_values
right_at g p h = get_d_range (λ q. right_value g (cell_at g q)) (pos 0) (size g) p h

-- in the canonical grid each cell has its right value
pub canonical_value : (g : Grid) (i : ℕ) → i < size g → value_at (canonical g) i ≡ right_value g i
canonical_value g i h =
    right_at g (row_of g i * g.columns + column_of g i) (digits_lt (row_lt g i h) (column_lt g i h)) ∙ ap (right_value g) (cell_back g i h)

-- a grid in which each cell has its right value is the canonical one
pub right_canonical : (g : Grid) → length g.values ≡ size g → ((i : ℕ) → i < size g → value_at g i ≡ right_value g i) → g ≡ canonical g
right_canonical g long right = λ j. revalued g (ext_get_or (pos 0) g.values (right_values g) (long ∙ sym (length_right g)) at_place j)
  where
    at_place : (p : ℕ) → p < length g.values → get_or g.values p (pos 0) ≡ get_or (right_values g) p (pos 0)
    at_place p l =
        let h : p < size g = omega arith in
        sym (ap (λ (q : ℕ). get_or g.values q (pos 0)) (cell_at_place g p h)) ∙ right (cell_at g p) (cell_at_lt g p h) ∙ sym (right_at g p h)

-- a right value is a mine where the cell is one
pub right_mine : (g : Grid) (i : ℕ) → is_mine (right_value g i) ≡ mine g i
unfolding right_value
right_mine g i = go (mine g i)
  where
    go : (b : Bool) → is_mine (cond b (negsuc 0) (pos (number g i))) ≡ b
    go true = refl
    go false = refl

-- ---- the canonical grid

-- at any place, past the grid too, both grids have a mine or neither has
pub place_mines : (g : Grid) → length g.values ≡ size g → (p : ℕ) → is_mine (get_or g.values p (pos 0)) ≡ is_mine (get_or (right_values g) p (pos 0))
place_mines g long p =
    elim (dec_lt p (size g)) [
      | yes h ↦ sym (ap is_mine (right_at g p h) ∙ right_mine g (cell_at g p) ∙ mine_at_place g p h)
      | no h ↦ ap is_mine (get_or-eq_default g.values (pos 0) (omega arith) ∙ sym (get_or-eq_default (right_values g) (pos 0) (omega (arith, length_right g))))
    ]

-- the canonical grid has the same mines
pub canonical_mines : (g : Grid) → length g.values ≡ size g → (i : ℕ) → mine g i ≡ mine (canonical g) i
unfolding mine
canonical_mines g long i = place_mines g long (row_of g i * g.columns + column_of g i)

-- two grids of the same sides with the same mines are the same once canonical
pub canonical_same : (g : Grid) (vs : List ℤ) → ((i : ℕ) → mine g i ≡ mine (revalued g vs) i) → canonical g ≡ canonical (revalued g vs)
canonical_same g vs same = λ j. revalued g (right_same g vs same j)

-- ---- the calls

-- every call comes to the same on a grid that passes SHAPE and BOARD and on its canonical grid
pub canonical_calls : (g : Grid) → first_given (board_checks g) ≡ none → SameCalls g (canonical g)
canonical_calls g e =
    let passed = each_fails (board_checks g) e in
    let long = eqb-true (length g.values) (size g) (not-false (eqb (length g.values) (size g)) passed.1.0) in
    calls_same g (right_values g) (canonical_mines g long) (long ∙ sym (length_right g))
