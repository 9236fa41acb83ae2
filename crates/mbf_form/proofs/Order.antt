-- The mines of a file's grid are the listed ones, so its file has the listed mines in index order: the same bytes where they stood so. Assumes nothing.
use Prim.Native.Nat.{ℕ, ◌+◌, ◌*◌, ◌/◌, ◌%◌, ◌<◌, suc, zero}
use native.Mathlib.Omega.{arith}
use native.Mathlib.Decide.{ℕ_discrete}
use mathlib.Core.Path.{◌≡◌, ap, ap₂, refl, subst, sym, ◌∙◌}
use mathlib.Core.List.{List, [], ◌∷◌, map}
use mathlib.Core.Option.{none}
use lib.Dec.{T}
use lib.ListN.{get_or, length}
use lib.Seq.{ext_get_or}
use Rattle.game.specs.Lists.{Each, has, range}
use Rattle.game.specs.Calls.{board_checks, first_given}
use Rattle.game.specs.Grid.{Grid, canonical, cell_at, cells, column_of, mine, row_of, size}
use Rattle.game.proofs.Canonical.{canonical_mines, cell_back}
use Rattle.game.proofs.Counts.{length_keep}
use Rattle.game.proofs.Members.{get_d_range, has_keep, has_map, has_range, keep_has, map_has}
use Rattle.game.proofs.Orders.{Ordered, ordered_keep, ordered_range, ordered_same}
use Rattle.game.proofs.Squares.{cells→, index-column, index-lt, index-row, →cells}
use Rattle.lines.specs.BoardLine.{value_of}
use Rattle.lines.proofs.Runs.{length_cells}
use Rattle.mbf_form.specs.Form.{file_columns, file_grid, file_of, file_rows, listed_grid, listed_values, mine_cell, mine_cells, mine_column, mine_count, mine_place, mine_places, mine_row, mines_in_order}
use Rattle.mbf_form.specs.Calls.{file_refusal}
use Rattle.mbf_form.proofs.Accepted.{Accepted, accepted, shaped}
use Rattle.mbf_form.proofs.Listed.{length_listed, listed_mine, place_of}
use Rattle.mbf_form.proofs.Written.{canonical_passes, file_column, file_length, file_row, written_cells}

-- the listed mines stand in cell index order
abbrev pub InOrder : List ℕ → Type 0
InOrder file = Ordered ◌<◌ (mine_cells file)

-- ---- the mines of a file's grid

module _ (file : List ℕ) (a : Accepted file) where
  -- the grid of a file passes the board's checks
  pub grid_passes : first_given (board_checks (file_grid file)) ≡ none
  grid_passes = canonical_passes (listed_grid file) (shaped file a)

  -- a cell of the grid is a mine exactly if the file lists its place
  grid_mine : (i : ℕ) → mine (file_grid file) i ≡ has (place_of (listed_grid file) i) (mine_places file)
  grid_mine i = sym (canonical_mines (listed_grid file) (length_listed file) i) ∙ listed_mine file a i

  module _ (k : ℕ) (l : k < mine_count file) where
    -- a listed mine's cell and its place
    cell_on : mine_cell file k < size (listed_grid file)
    cell_on = index-lt (listed_grid file) (mine_row file k) (mine_column file k) (a.rows_inside k l) (a.columns_inside k l)

    cell_row : row_of (listed_grid file) (mine_cell file k) ≡ mine_row file k
    cell_row = index-row (listed_grid file) (mine_row file k) (mine_column file k) (a.rows_inside k l)

    cell_column : column_of (listed_grid file) (mine_cell file k) ≡ mine_column file k
    cell_column = index-column (listed_grid file) (mine_row file k) (mine_column file k) (a.rows_inside k l)

    cell_place : place_of (listed_grid file) (mine_cell file k) ≡ mine_place file k
    cell_place = ap₂ (λ r c. r * file_columns file + c) cell_row cell_column

  mine_listed : (i : ℕ) → T (has i (mines_in_order (file_grid file))) → T (has i (mine_cells file))
  unfolding mine_places mine_cells
  mine_listed i t =
      let m = keep_has (mine (file_grid file)) i (cells (file_grid file)) t in
      let w = map_has (mine_place file) (place_of (listed_grid file) i) (range 0 (mine_count file)) (subst T (grid_mine i) m.1) in
      let l = (has_range 0 (mine_count file) w.0 w.1).1 in
      let e : i ≡ mine_cell file w.0 =
      sym (cell_back (listed_grid file) i (cells→ (file_grid file) i m.0)) ∙ ap (cell_at (listed_grid file)) (w.2 ∙ sym (cell_place w.0 l))
      ∙ cell_back (listed_grid file) (mine_cell file w.0) (cell_on w.0 l) in
      rw e (has_map (mine_cell file) w.0 (range 0 (mine_count file)) w.1)

  listed_mines : (i : ℕ) → T (has i (mine_cells file)) → T (has i (mines_in_order (file_grid file)))
  unfolding mine_places mine_cells
  listed_mines i t =
      let w = map_has (mine_cell file) i (range 0 (mine_count file)) t in
      let l = (has_range 0 (mine_count file) w.0 w.1).1 in
      let p : place_of (listed_grid file) i ≡ mine_place file w.0 = ap (place_of (listed_grid file)) w.2 ∙ cell_place w.0 l in
      has_keep (mine (file_grid file)) i (cells (file_grid file)) (→cells (file_grid file) i (rw w.2 (cell_on w.0 l)))
      (rw (grid_mine i, p) (has_map (mine_place file) w.0 (range 0 (mine_count file)) w.1))

-- the mines of a grid stand in order
mines_ordered : (g : Grid) → Ordered ◌<◌ (mines_in_order g)
mines_ordered g = ordered_keep ◌<◌ (mine g) (cells g) (ordered_range 0 (size g))

-- ---- the same bytes

-- files with the same sides, count and mines are the same
file_same : (f h : List ℕ) (n : ℕ) → length f ≡ 4 + 2 * n → length h ≡ 4 + 2 * n
    → get_or f 0 0 ≡ get_or h 0 0 → get_or f 1 0 ≡ get_or h 1 0 → get_or f 2 0 ≡ get_or h 2 0 → get_or f 3 0 ≡ get_or h 3 0
    → ((k : ℕ) → k < n → mine_column f k ≡ mine_column h k) → ((k : ℕ) → k < n → mine_row f k ≡ mine_row h k) → f ≡ h
file_same f h n lf lh width height high low columns rows = ext_get_or 0 f h (omega arith) same_at
  where
    moved : (i k : ℕ) → i ≡ k → get_or f k 0 ≡ get_or h k 0 → get_or f i 0 ≡ get_or h i 0
    moved i k e q = rw e q

    same_at : (i : ℕ) → i < length f → get_or f i 0 ≡ get_or h i 0
    same_at zero l = width
    same_at (suc zero) l = height
    same_at (suc (suc zero)) l = high
    same_at (suc (suc (suc zero))) l = low
    same_at (suc (suc (suc (suc j)))) l =
        elim (ℕ_discrete (j % 2) 0) [
          | yes e ↦ moved (suc (suc (suc (suc j)))) (2 * (j / 2) + 4) (omega arith) (columns (j / 2) (omega arith))
          | no e ↦ moved (suc (suc (suc (suc j)))) (2 * (j / 2) + 5) (omega arith) (rows (j / 2) (omega arith))
        ]

-- what holds of each, and of what is read past the end, holds at any place
each_at : (P : ℕ → Type 0) (xs : List ℕ) (k : ℕ) → P 0 → Each P xs → P (get_or xs k 0)
each_at P [] k z h = z
each_at P (x ∷ xs) zero z h = h.0
each_at P (x ∷ xs) (suc k) z h = each_at P xs k z h.1

-- a file read and written has the same bytes where its mines stand in index order
pub same_bytes : (file : List ℕ) → Each (λ b. b < 256) file → file_refusal file ≡ none → InOrder file → file_of (file_grid file) ≡ file
unfolding mine_cells file_of
same_bytes file bytes passes order =
    file_same (file_of (file_grid file)) file (mine_count file) (omega (arith, file_length (file_grid file), counted, length_keep (mine (file_grid file)) (cells (file_grid file)))) a.long
    refl refl (omega (arith, counted, small 2, small 3)) (omega (arith, counted, small 2, small 3))
    (λ k l. file_column (file_grid file) k (rw counted l) ∙ ap (column_of (file_grid file)) (nth k l) ∙ cell_column file a k l)
    (λ k l. file_row (file_grid file) k (rw counted l) ∙ ap (row_of (file_grid file)) (nth k l) ∙ cell_row file a k l)
  where
    a : Accepted file
    a = accepted file passes

    same : mines_in_order (file_grid file) ≡ mine_cells file
    same = ordered_same (mines_in_order (file_grid file)) (mine_cells file) (mines_ordered (file_grid file)) order (mine_listed file a) (listed_mines file a)

    counted : length (mines_in_order (file_grid file)) ≡ mine_count file
    counted = ap length same ∙ length_cells (mine_cell file) (mine_count file)

    small : (k : ℕ) → get_or file k 0 < 256
    small k = each_at (λ b. b < 256) file k (omega arith) bytes

    nth : (k : ℕ) → k < mine_count file → get_or (mines_in_order (file_grid file)) k 0 ≡ mine_cell file k
    nth k l = ap (λ (is : List ℕ). get_or is k 0) same ∙ get_d_range (mine_cell file) 0 (mine_count file) k l

-- and only there
pub only_in_order : (file : List ℕ) → file_refusal file ≡ none → file_of (file_grid file) ≡ file → InOrder file
only_in_order file passes e =
    subst (Ordered ◌<◌) (sym (written_cells (file_grid file) (grid_passes file (accepted file passes))) ∙ ap mine_cells e) (mines_ordered (file_grid file))

-- ---- any order

-- two files that list the same mines in any order read as the same grid
pub any_order : (file file' : List ℕ) → file_rows file ≡ file_rows file' → file_columns file ≡ file_columns file'
    → ((p : ℕ) → has p (mine_places file) ≡ has p (mine_places file')) → file_grid file ≡ file_grid file'
unfolding listed_values
any_order file file' r c h = λ i. canonical (record { rows = r i; columns = c i; values = map (λ p. value_of (h p i)) (range 0 (r i * c i)) })
