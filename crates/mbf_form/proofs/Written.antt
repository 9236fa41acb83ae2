-- The file of a grid passes, and lists exactly the grid's mines, so it reads as the canonical grid. Assumes nothing.
use Prim.Native.Nat.{ℕ, ◌+◌, ◌*◌, ◌<◌, ◌≤◌, suc}
use native.Mathlib.Omega.{arith}
use native.Mathlib.Decide.{dec_lt}
use native.Mathlib.Nat.{mul-le-mul_left}
use mathlib.Core.Path.{◌≡◌, ap, ap₂, refl, subst, sym, ◌∙◌}
use mathlib.Core.Bool.{false, not}
use mathlib.Core.List.{List, ◌∷◌, ◌++◌, map, map-id}
use mathlib.Core.Option.{none}
use lib.Dec.{T}
use lib.IntN.{pos}
use lib.ListN.{get_or-eq_default, get_or, length}
use borrow.Author.Tests.{eq-eqb, eqb-true, not-false}
use Rattle.game.specs.Lists.{concat_map, count, has}
use Rattle.game.specs.Calls.{board_checks, first_given, shape_check, side_out}
use Rattle.game.specs.Grid.{Grid, canonical, cell_at, cells, column_of, is_mine, mine, row_of, size}
use Rattle.game.proofs.Canonical.{canonical_mines, canonical_same, cell_at_lt, cell_at_place, cell_back, length_right, mine_at_place}
use Rattle.game.proofs.Checks.{each_fails, none_given, side_in}
use Rattle.game.proofs.Counts.{Once, count_le, length_keep}
use Rattle.game.proofs.Members.{get_d_has, has_keep, has_map, keep_ext, keep_has, map_has}
use Rattle.game.proofs.Orders.{once_keep, once_map}
use Rattle.game.proofs.Squares.{cells→, column_lt, index_of, length_cells, once_cells, row_lt, →cells}
use Rattle.game.proofs.Truth.{iff, or_no}
use Rattle.hex_digits.specs.Hex.{two_bytes}
use Rattle.lines.specs.BoardLine.{place_mine}
use Rattle.mbf_form.specs.Form.{file_grid, file_of, listed_grid, listed_values, mine_bytes, mine_cell, mine_cells, mine_column, mine_count, mine_place, mine_places, mine_row, mines_in_order}
use Rattle.mbf_form.specs.Calls.{file_refusal}
use Rattle.mbf_form.proofs.Accepted.{Accepted, accept}
use Rattle.mbf_form.proofs.Lists.{first-at, length_pairs, map_places, second-at}
use Rattle.mbf_form.proofs.Listed.{listed_mine, place_of}

-- ---- what the board's checks leave of a grid

pub record Sized (g : Grid) : Type 0 where
  pub some_rows : 1 ≤ g.rows
  pub few_rows : g.rows ≤ 255
  pub some_columns : 1 ≤ g.columns
  pub few_columns : g.columns ≤ 255
  pub whole : length g.values ≡ size g

pub sized : (g : Grid) → first_given (board_checks g) ≡ none → Sized g
sized g e =
    let h = each_fails (board_checks g) e in
    let s = or_no (side_out g.rows) (side_out g.columns) h.0 in
    let r = side_in g.rows s.0 in
    let c = side_in g.columns s.1 in
    record {
      some_rows = r.0;
      few_rows = r.1;
      some_columns = c.0;
      few_columns = c.1;
      whole = eqb-true (length g.values) (size g) (not-false _ h.1.0);
    }

-- the canonical grid of a grid whose sides pass
pub canonical_passes : (g : Grid) → (shape_check g).given ≡ false → first_given (board_checks (canonical g)) ≡ none
canonical_passes g e =
    none_given (board_checks (canonical g)) (e, (ap not (eq-eqb (length (canonical g).values) (size g) (length_right g)), tt))

-- ---- the bytes of the mines

module _ (g : Grid) where
  pub file_length : length (file_of g) ≡ 4 + 2 * count (mine g) (cells g)
  unfolding file_of
  file_length = omega (arith, length_pairs (column_of g) (row_of g) (mines_in_order g), length_keep (mine g) (cells g))

  -- past width, height and count
  past_head : (n m : ℕ) → n ≡ m + 4 → get_or (file_of g) n 0 ≡ get_or (concat_map (mine_bytes g) (mines_in_order g)) m 0
  unfolding file_of
  past_head n m e =
      let q : n ≡ suc (suc (suc (suc m))) = omega arith in
      ap (λ (k : ℕ). get_or (file_of g) k 0) q

  -- the mine of a place in index order
  abbrev nth : ℕ → ℕ
  nth k = get_or (mines_in_order g) k 0

  module _ (k : ℕ) (listed : k < length (mines_in_order g)) where
    pub file_column : mine_column (file_of g) k ≡ column_of g (get_or (mines_in_order g) k 0)
    file_column = past_head (2 * k + 4) (2 * k) refl ∙ first-at (column_of g) (row_of g) (mines_in_order g) k listed

    pub file_row : mine_row (file_of g) k ≡ row_of g (get_or (mines_in_order g) k 0)
    file_row = past_head (2 * k + 5) (2 * k + 1) (omega arith) ∙ second-at (column_of g) (row_of g) (mines_in_order g) k listed

    -- such a mine is a cell
    mine_on : nth k < size g
    mine_on = cells→ g (nth k) (keep_has (mine g) (nth k) (cells g) (get_d_has (mines_in_order g) k listed)).0

  -- ---- a grid that passes

  module _ (passes : first_given (board_checks g) ≡ none) where
    abbrev s : Sized g
    s = sized g passes

    count_small : length (mines_in_order g) ≤ 65025
    count_small =
        omega (arith, length_keep (mine g) (cells g), count_le (mine g) (cells g), length_cells g, mul-le-mul_left {m = g.columns} {n = 255} g.rows s.few_columns, s.few_rows)

    written_count : mine_count (file_of g) ≡ length (mines_in_order g)
    unfolding file_of
    written_count = omega (arith, count_small)

    -- a file that was written lists the grid's mines in cell index order
    pub written_cells : mine_cells (file_of g) ≡ mines_in_order g
    unfolding mine_cells file_of
    written_cells =
        map_places (mine_cell (file_of g)) (λ i. i) (mines_in_order g) (mine_count (file_of g)) written_count
        (λ k l. ap₂ (λ c r. c * g.rows + r) (file_column k l) (file_row k l) ∙ index_of g (nth k))
        ∙ map-id (mines_in_order g)

    -- and their places
    written_places : mine_places (file_of g) ≡ map (place_of g) (mines_in_order g)
    unfolding mine_places file_of
    written_places =
        map_places (mine_place (file_of g)) (place_of g) (mines_in_order g) (mine_count (file_of g)) written_count
        (λ k l. ap₂ (λ c r. r * g.columns + c) (file_column k l) (file_row k l))

    written_once : Once (mine_places (file_of g))
    written_once =
        subst Once (sym written_places)
        (once_map (place_of g) (cell_at g) (mines_in_order g) (λ i t. cell_back g i (cells→ g i (keep_has (mine g) i (cells g) t).0)) (once_keep (mine g) (cells g) (once_cells g)))

    accepted_file : Accepted (file_of g)
    unfolding file_of
    accepted_file =
        record {
          some_rows = s.some_rows;
          few_rows = s.few_rows;
          some_columns = s.some_columns;
          few_columns = s.few_columns;
          long = omega (arith, file_length, written_count, length_keep (mine g) (cells g));
          rows_inside = λ k l. rw (file_row k (rw written_count at l)) (row_lt g (nth k) (mine_on k (rw written_count at l)));
          columns_inside = λ k l. rw (file_column k (rw written_count at l)) (column_lt g (nth k) (mine_on k (rw written_count at l)));
          once = written_once;
        }

    pub written_accepted : file_refusal (file_of g) ≡ none
    written_accepted = accept (file_of g) accepted_file

    -- ---- read again

    -- there is a mine at a place exactly if the file lists it
    written_place : (p : ℕ) → place_mine g p ≡ has p (mine_places (file_of g))
    unfolding mine
    written_place p = iff (place_mine g p) (has p (mine_places (file_of g))) there back
      where
        on : T (place_mine g p) → p < size g
        on t =
            elim (dec_lt p (size g)) [
              | yes h ↦ h
              | no h ↦ absurd (subst (λ v. T (is_mine v)) (get_or-eq_default g.values (pos 0) (omega (arith, s.whole))) t)
            ]

        there : T (place_mine g p) → T (has p (mine_places (file_of g)))
        there t =
            let i = cell_at g p in
            let l = has_keep (mine g) i (cells g) (→cells g i (cell_at_lt g p (on t))) (rw (mine_at_place g p (on t)) t) in
            rw written_places (rw (cell_at_place g p (on t)) at (has_map (place_of g) i (mines_in_order g) l))

        back : T (has p (mine_places (file_of g))) → T (place_mine g p)
        back t =
            let w = map_has (place_of g) p (mines_in_order g) (rw written_places at t) in
            rw w.2 (keep_has (mine g) w.0 (cells g) w.1).1

    written_mine : (i : ℕ) → mine g i ≡ mine (listed_grid (file_of g)) i
    unfolding mine file_of
    written_mine i = written_place (place_of g i) ∙ sym (listed_mine (file_of g) accepted_file i)

    -- it reads as the canonical grid
    pub written_grid : file_grid (file_of g) ≡ canonical g
    unfolding file_of
    written_grid = sym (canonical_same g (listed_values (file_of g)) written_mine)

    -- the canonical grid has the same file
    pub canonical_file : file_of (canonical g) ≡ file_of g
    unfolding file_of
    canonical_file =
        ap (λ (is : List ℕ). head_of is ++ concat_map (mine_bytes g) is)
        (sym (keep_ext (mine g) (mine (canonical g)) (cells g) (λ i t. canonical_mines g s.whole i)))
      where
        head_of : List ℕ → List ℕ
        head_of is = g.columns ∷ g.rows ∷ two_bytes (length is)

    -- written, read and written again: the same bytes
    pub written_again : file_of (file_grid (file_of g)) ≡ file_of g
    written_again = ap file_of written_grid ∙ canonical_file
