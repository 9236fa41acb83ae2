-- Board lines written: the line of a grid is accepted and stands for the grid, and an accepted line is the line of its grid. Assumes nothing.
use Prim.Native.Nat.{ℕ, ◌+◌, ◌-◌, ◌*◌, ◌/◌, ◌%◌, ◌^◌, ◌<◌, ◌≤◌}
use native.Mathlib.Omega.{arith}
use native.Mathlib.Decide.{dec_lt}
use mathlib.Core.Path.{◌≡◌, ap, refl, sym, ◌∙◌}
use mathlib.Core.Bool.{Bool, true, false, true≢false, ◌||◌}
use mathlib.Core.List.{List, ◌∷◌, map}
use mathlib.Core.Option.{some-ne-none, none}
use lib.Dec.{T, eqb}
use lib.IntN.{pos}
use lib.ListN.{get_or-eq_default, drop, get_or, length, length-drop}
use lib.Seq.{get_or-drop, take_all}
use borrow.Author.Tests.{le-ltb, ne_eqb}
use Rattle.game.specs.Lists.{Each, concat_map, has, range, some_of}
use Rattle.game.specs.Grid.{Grid, is_mine, size}
use Rattle.game.specs.Calls.{frame, side_out}
use Rattle.game.proofs.Checks.{side_in}
use Rattle.game.proofs.Members.{get_d_range, has_range, map_each, range_has, range_same, some_yes, yes_some}
use Rattle.game.proofs.Truth.{T→true, no→false, or_no}
use Rattle.hex_digits.specs.Hex.{byte_digits, bytes_of}
use Rattle.hex_digits.proofs.Back.{bytes_back, bytes_clean, bytes_small, digits_back, length_digits, small_drop, two_first}
use Rattle.hex_digits.proofs.Bytes.{length_bytes}
use Rattle.lines.specs.BoardLine.{bit_at, bit_between, bit_bytes, board_line, byte_of_bits, cell_values, digits_refused, grid_of_bytes, line_grid, line_refusal, mine_bit, place_mine, value_of}
use Rattle.lines.proofs.BytesOfBits.{bits_back, byte_small, run_by_bits}
use Rattle.lines.proofs.Runs.{length_cells}
use Rattle.lines.proofs.Verdict.{all_fine, cells_of, columns_byte, digits_by, digits_frame, length_values, padding-set, padding_set, passed, rows_byte}

-- ---- how long a board line is

-- the bytes of a board line after rows and columns
abbrev mine_bytes : Grid → List ℕ
mine_bytes g = map (byte_of_bits (place_mine g)) (range 0 (bit_bytes (size g)))

pub length_board_line : (g : Grid) → length (board_line g) ≡ 4 + 2 * bit_bytes (size g)
unfolding board_line
length_board_line g =
    omega (arith, length_digits (mine_bytes g), length_cells (byte_of_bits (place_mine g)) (bit_bytes (size g)))

-- ---- mine bits

-- the mine bits are those of the bytes after the first two
mines_after : (bs : List ℕ) (p : ℕ) → mine_bit bs p ≡ bit_at (drop 2 bs) p
unfolding bit_at
mines_after bs p =
    let place : (16 + p) / 8 ≡ 2 + p / 8 = omega arith in
    let rest : (16 + p) % 8 ≡ p % 8 = omega arith in
    λ i. eqb ((ap (λ (n : ℕ). get_or bs n 0) place ∙ sym (get_or-drop 2 bs (p / 8) 0)) i / 2 ^ (7 - rest i) % 2) 1

-- past a grid's values there is no mine
no_mine : (g : Grid) (p : ℕ) → length g.values ≤ p → place_mine g p ≡ false
no_mine g p h = ap is_mine (get_or-eq_default g.values (pos 0) h)

-- -1 is a mine, 0 is none
pub value_mine : (b : Bool) → is_mine (value_of b) ≡ b
value_mine true = refl
value_mine false = refl

-- ---- the line of a grid

module _ (g : Grid) (shape : (side_out g.rows || side_out g.columns) ≡ false) (few : size g ≤ 2048) (long : length g.values ≡ size g) where
  rows_in : (1 ≤ g.rows) × (g.rows ≤ 255)
  rows_in = side_in g.rows (or_no (side_out g.rows) (side_out g.columns) shape).0

  columns_in : (1 ≤ g.columns) × (g.columns ≤ 255)
  columns_in = side_in g.columns (or_no (side_out g.rows) (side_out g.columns) shape).1

  all_small : Each (λ b. b < 256) (g.rows ∷ g.columns ∷ mine_bytes g)
  all_small = (omega (arith, rows_in.1), (omega (arith, columns_in.1), map_each (λ b. b < 256) (byte_of_bits (place_mine g)) (range 0 (bit_bytes (size g))) (byte_small (place_mine g))))

  bytes_are : bytes_of (board_line g) ≡ g.rows ∷ g.columns ∷ mine_bytes g
  unfolding board_line
  bytes_are = bytes_back (g.rows ∷ g.columns ∷ mine_bytes g) all_small

  rows_are : rows_byte (board_line g) ≡ g.rows
  rows_are = ap (λ (bs : List ℕ). get_or bs 0 0) bytes_are

  columns_are : columns_byte (board_line g) ≡ g.columns
  columns_are = ap (λ (bs : List ℕ). get_or bs 1 0) bytes_are

  cells_are : cells_of (board_line g) ≡ size g
  cells_are = λ i. rows_are i * columns_are i

  mines_are : (p : ℕ) → p < 8 * bit_bytes (size g) → mine_bit (bytes_of (board_line g)) p ≡ place_mine g p
  mines_are p h =
      ap (λ (bs : List ℕ). mine_bit bs p) bytes_are
      ∙ mines_after (g.rows ∷ g.columns ∷ mine_bytes g) p
      ∙ bits_back (place_mine g) (bit_bytes (size g)) p h

  digits_fine : digits_refused (board_line g) ≡ false
  unfolding board_line
  digits_fine =
      let n = length_board_line g in
      sym (digits_by (board_line g) false false false false (bytes_clean (g.rows ∷ g.columns ∷ mine_bytes g) all_small) (ne_eqb (length (board_line g) % 2) 1 (λ e. omega arith))
      (le-ltb (length (board_line g)) 4 (omega arith)) (le-ltb 516 (length (board_line g)) (omega arith)))

  not_padded : (x : ℕ) → T (has x (range (size g) (8 * bit_bytes (size g)))) → T (mine_bit (bytes_of (board_line g)) x) → ⊥
  not_padded x t u =
      let r = has_range (size g) (8 * bit_bytes (size g)) x t in
      true≢false (sym (T→true (mine_bit (bytes_of (board_line g)) x) u) ∙ mines_are x r.1 ∙ no_mine g x (omega arith))

  padding_fine : padding_set (board_line g) ≡ false
  unfolding bit_between
  padding_fine =
      ap (λ (n : ℕ). bit_between (bytes_of (board_line g)) n (8 * bit_bytes n)) cells_are
      ∙ no→false (some_of (mine_bit (bytes_of (board_line g))) (range (size g) (8 * bit_bytes (size g))))
      (λ t. let w = yes_some (mine_bit (bytes_of (board_line g))) (range (size g) (8 * bit_bytes (size g))) t in not_padded w.0 w.1 w.2)

  -- a board line that was written is accepted
  pub line_accepted : line_refusal (board_line g) ≡ none
  line_accepted =
      let r = rows_are in
      let c = columns_are in
      let n = cells_are in
      let p = rows_in in
      let q = columns_in in
      let l = length_board_line g in
      sym (all_fine (board_line g) digits_fine (λ e. omega arith) (omega arith) (λ e. omega arith) (omega arith) (omega arith) (omega arith) padding_fine)

  -- and stands for the grid: the same sides, -1 for each mine and 0 for any other cell
  pub line-grid : line_grid (board_line g) ≡ record { rows = g.rows; columns = g.columns; values = map (λ p. value_of (place_mine g p)) (range 0 (size g)) }
  unfolding grid_of_bytes
  line-grid = λ i. record { rows = rows_are i; columns = columns_are i; values = values_are i }
    where
      values_are : cell_values (bytes_of (board_line g)) (cells_of (board_line g)) ≡ map (λ p. value_of (place_mine g p)) (range 0 (size g))
      values_are =
          ap (cell_values (bytes_of (board_line g))) cells_are
          ∙ range_same (λ p. value_of (mine_bit (bytes_of (board_line g)) p)) (λ p. value_of (place_mine g p)) (size g) (λ p h. ap value_of (mines_are p (omega arith)))

-- ---- the grid of a line

module _ (line : List ℕ) (accepted : line_refusal line ≡ none) where
  digits_right : digits_refused line ≡ false
  digits_right = no→false (digits_refused line) (λ t. some-ne-none frame (digits_frame line (T→true (digits_refused line) t) ∙ accepted))

  padding_none : padding_set line ≡ false
  unfolding grid_of_bytes
  padding_none =
      let p = passed line accepted in
      no→false (padding_set line)
      (λ t. some-ne-none frame (padding-set line digits_right (λ e. omega arith) (omega arith) (λ e. omega arith) (omega arith) p.few p.bytes (T→true (padding_set line) t) ∙ accepted))

  padding_clear : (p : ℕ) → cells_of line ≤ p → p < 8 * bit_bytes (cells_of line) → mine_bit (bytes_of line) p ≡ false
  unfolding bit_between
  padding_clear p h k =
      no→false (mine_bit (bytes_of line) p)
      (λ t. let u = some_yes (mine_bit (bytes_of line)) p (range (cells_of line) (8 * bit_bytes (cells_of line))) (range_has (cells_of line) (8 * bit_bytes (cells_of line)) p h k) t in
      true≢false (sym (T→true (padding_set line) u) ∙ padding_none))

  mines_back : (p : ℕ) → p < 8 * bit_bytes (size (line_grid line)) → bit_at (drop 2 (bytes_of line)) p ≡ place_mine (line_grid line) p
  unfolding grid_of_bytes
  mines_back p h =
      sym (mines_after (bytes_of line) p)
      ∙ elim (dec_lt p (cells_of line)) [
        | yes k ↦ sym (ap is_mine (get_d_range (λ j. value_of (mine_bit (bytes_of line) j)) (pos 0) (cells_of line) p k) ∙ value_mine (mine_bit (bytes_of line) p))
        | no k ↦ padding_clear p (omega arith) h ∙ sym (no_mine (line_grid line) p (omega (arith, length_values line)))
      ]

  bytes_made : mine_bytes (line_grid line) ≡ drop 2 (bytes_of line)
  bytes_made =
      let n = (passed line accepted).bytes in
      let l : length (drop 2 (bytes_of line)) ≡ bit_bytes (size (line_grid line)) = omega (arith, length-drop 2 (bytes_of line), length_bytes line) in
      sym (run_by_bits (place_mine (line_grid line)) (drop 2 (bytes_of line)) (bit_bytes (size (line_grid line))) (omega arith) (small_drop (bytes_of line) (bytes_small line)) mines_back)
      ∙ take_all (bit_bytes (size (line_grid line))) (drop 2 (bytes_of line)) (omega arith)

  -- an accepted line is the board line of its grid
  pub line_back : board_line (line_grid line) ≡ line
  unfolding board_line grid_of_bytes
  line_back =
      let d = (passed line accepted).digits in
      ap (λ (bs : List ℕ). concat_map byte_digits (rows_byte line ∷ columns_byte line ∷ bs)) bytes_made
      ∙ ap (concat_map byte_digits) (two_first (bytes_of line) (omega (arith, length_bytes line)))
      ∙ digits_back line d.clean d.even
