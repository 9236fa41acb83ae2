-- The checks of a board line by their tests: the first that is given, and what holds where none is. Assumes nothing.
use Prim.Native.Nat.{ℕ, ◌+◌, ◌*◌, ◌%◌, ◌<◌, ◌≤◌}
use native.Mathlib.Omega.{arith}
use native.Mathlib.Decide.{dec_le}
use native.Mathlib.Nat.{mul-le-mul_left}
use mathlib.Core.Path.{◌≡◌, ap, refl, sym, ◌∙◌}
use mathlib.Core.Bool.{Bool, true, false, not, true≢false, ◌||◌}
use mathlib.Core.List.{List, [], ◌∷◌}
use mathlib.Core.Option.{Option, some-ne-none, none, some}
use lib.Dec.{eqb, ltb}
use lib.ListN.{get_or, length, length-take, take}
use lib.Seq.{take_all}
use borrow.Author.Tests.{eq-eqb, eqb-false, eqb-true, le-ltb, lt-ltb, ltb-false, ne_eqb, not-false}
use Rattle.game.specs.Lists.{some_of}
use Rattle.game.specs.Grid.{size}
use Rattle.game.specs.Calls.{Refusal, first_given, frame, number_of, shape, side_out, size_over}
use Rattle.game.proofs.Checks.{side_in}
use Rattle.game.proofs.Truth.{or_no}
use Rattle.hex_digits.specs.Hex.{bytes_of, is_wrong}
use Rattle.lines.specs.BoardLine.{bit_between, bit_bytes, digits_refused, grid_of_bytes, line_grid, line_refusal, mine_bit, value_of}
use Rattle.hex_digits.proofs.Bytes.{length_bytes}
use Rattle.lines.proofs.Runs.{length_cells}

-- ---- the digits alone

-- what the digits' checks leave
pub record Digits (line : List ℕ) : Type 0 where
  pub clean : some_of is_wrong line ≡ false
  pub even : length line % 2 ≡ 0
  pub enough : 4 ≤ length line
  pub few : length line ≤ 516

-- one of the tests: a wrong character, odd digits, fewer than 4, more than 516
abbrev any : Bool → Bool → Bool → Bool → Bool
any a b c d = a || (b || ((c || d) || false))

-- the first three of them together, then the last
pub any_by : (a b c d u : Bool) → u ≡ ((a || b) || c) → (u || d) ≡ any a b c d
any_by a b c d u e = ap (λ (x : Bool). x || d) e ∙ go a b c d
  where
    go : (a b c d : Bool) → (((a || b) || c) || d) ≡ any a b c d
    go true b c d = refl
    go false true c d = refl
    go false false true d = refl
    go false false false true = refl
    go false false false false = refl

-- one test, and another where it does not hold
pub or_yes : (p q v : Bool) → p ≡ true → v ≡ true → v ≡ (p || q)
or_yes p q v e f = f ∙ sym (ap (λ (x : Bool). x || q) e)

pub or_next : (p q v : Bool) → p ≡ false → v ≡ q → v ≡ (p || q)
or_next p q v e f = f ∙ sym (ap (λ (x : Bool). x || q) e)

module _ (line : List ℕ) where
  pub digits_by : (a b c d : Bool) → some_of is_wrong line ≡ a → eqb (length line % 2) 1 ≡ b → ltb (length line) 4 ≡ c → ltb 516 (length line) ≡ d
      → any a b c d ≡ digits_refused line
  unfolding digits_refused
  digits_by a b c d e f g h = sym (λ i. any (e i) (f i) (g i) (h i))

  pub digits_good : digits_refused line ≡ false → Digits line
  unfolding digits_refused
  digits_good e = go (some_of is_wrong line) (eqb (length line % 2) 1) (ltb (length line) 4) (ltb 516 (length line)) refl refl refl refl e
    where
      go : (a b c d : Bool) → some_of is_wrong line ≡ a → eqb (length line % 2) 1 ≡ b → ltb (length line) 4 ≡ c → ltb 516 (length line) ≡ d → any a b c d ≡ false → Digits line
      go true b c d p q r s e = absurd (true≢false e)
      go false true c d p q r s e = absurd (true≢false e)
      go false false true d p q r s e = absurd (true≢false e)
      go false false false true p q r s e = absurd (true≢false e)
      go false false false false p q r s e =
          record {
            clean = p;
            even = let o = eqb-false (length line % 2) 1 q in omega arith;
            enough = ltb-false (length line) 4 r;
            few = ltb-false 516 (length line) s;
          }

-- ---- all checks

-- the refusal by the tests
abbrev verdict : Bool → Bool → Bool → Bool → Bool → Bool → Bool → Option Refusal
verdict a b c s o n p =
    first_given (
    record { given = a; refusal = frame }
    ∷ record { given = b; refusal = frame }
    ∷ record { given = c; refusal = frame }
    ∷ record { given = s; refusal = shape }
    ∷ record { given = o; refusal = size_over }
    ∷ record { given = n; refusal = frame }
    ∷ record { given = p; refusal = frame }
    ∷ []
    )

-- the line's first two bytes
abbrev pub rows_byte : List ℕ → ℕ
rows_byte line = get_or (bytes_of line) 0 0

abbrev pub columns_byte : List ℕ → ℕ
columns_byte line = get_or (bytes_of line) 1 0

abbrev pub cells_of : List ℕ → ℕ
cells_of line = rows_byte line * columns_byte line

abbrev pub padding_set : List ℕ → Bool
padding_set line = bit_between (bytes_of line) (cells_of line) (8 * bit_bytes (cells_of line))

pub digits_frame : (line : List ℕ) → digits_refused line ≡ true → some frame ≡ line_refusal line
unfolding digits_refused line_refusal grid_of_bytes
digits_frame line e = go (some_of is_wrong line) (eqb (length line % 2) 1) (ltb (length line) 4) (ltb 516 (length line))
    (side_out (rows_byte line) || side_out (columns_byte line)) (ltb 2048 (cells_of line)) (not (eqb (length (bytes_of line)) (2 + bit_bytes (cells_of line)))) (padding_set line) e
  where
    go : (a b c d s o n p : Bool) → any a b c d ≡ true → some frame ≡ verdict a b (c || d) s o n p
    go true b c d s o n p e = refl
    go false true c d s o n p e = refl
    go false false true d s o n p e = refl
    go false false false true s o n p e = refl
    go false false false false s o n p e = absurd (true≢false (sym e))

pub padding_by : (line : List ℕ) (a b : ℕ) (r : Bool) → r ≡ bit_between (bytes_of line) a b → a ≡ cells_of line → b ≡ 8 * bit_bytes (cells_of line) → r ≡ padding_set line
padding_by line a b r e f g = e ∙ (λ i. bit_between (bytes_of line) (f i) (g i))

pub side_none : (n : ℕ) → n ≡ 0 → side_out n ≡ true
side_none n e = ap (λ (t : Bool). t || ltb 255 n) (eq-eqb n 0 e)

pub side_fine : (n : ℕ) → (n ≡ 0 → ⊥) → n < 256 → side_out n ≡ false
side_fine n h k = λ i. ne_eqb n 0 h i || le-ltb 255 n (omega arith) i

module _ (line : List ℕ) (digits : digits_refused line ≡ false) where
  by : (s o n p : Bool) → (side_out (rows_byte line) || side_out (columns_byte line)) ≡ s → ltb 2048 (cells_of line) ≡ o → not (eqb (length (bytes_of line)) (2 + bit_bytes (cells_of line))) ≡ n → padding_set line ≡ p
      → verdict false false false s o n p ≡ line_refusal line
  unfolding line_refusal grid_of_bytes
  by s o n p e f g h =
      let d = digits_good line digits in
      sym (λ i. verdict (d.clean i) (ne_eqb (length line % 2) 1 (λ q. omega arith) i) (le-ltb (length line) 4 d.enough i || le-ltb 516 (length line) d.few i) (e i) (f i) (g i) (h i))

  pub no_rows : rows_byte line ≡ 0 → some shape ≡ line_refusal line
  no_rows h = by true _ _ _ (ap (λ (t : Bool). t || side_out (columns_byte line)) (side_none (rows_byte line) h)) refl refl refl

  module _ (rows : rows_byte line ≡ 0 → ⊥) (few_rows : rows_byte line < 256) where
    pub no_columns : columns_byte line ≡ 0 → some shape ≡ line_refusal line
    no_columns h = by true _ _ _ (λ i. side_fine (rows_byte line) rows few_rows i || side_none (columns_byte line) h i) refl refl refl

    module _ (columns : columns_byte line ≡ 0 → ⊥) (few_columns : columns_byte line < 256) where
      shaped : (side_out (rows_byte line) || side_out (columns_byte line)) ≡ false
      shaped = λ i. side_fine (rows_byte line) rows few_rows i || side_fine (columns_byte line) columns few_columns i

      pub many_cells : 2048 < cells_of line → some size_over ≡ line_refusal line
      many_cells h = by false true _ _ (shaped) (lt-ltb 2048 (cells_of line) h) refl refl

      module _ (few : cells_of line ≤ 2048) where
        pub other_bytes : (length line ≡ 4 + 2 * bit_bytes (cells_of line) → ⊥) → some frame ≡ line_refusal line
        other_bytes h =
            let d = digits_good line digits in
            let l = length_bytes line in
            by false false true _ (shaped) (le-ltb 2048 (cells_of line) few) (ap not (ne_eqb (length (bytes_of line)) (2 + bit_bytes (cells_of line)) (λ e. h (omega arith)))) refl

        module _ (bytes : length line ≡ 4 + 2 * bit_bytes (cells_of line)) where
          as_many : not (eqb (length (bytes_of line)) (2 + bit_bytes (cells_of line))) ≡ false
          as_many = let l = length_bytes line in ap not (eq-eqb (length (bytes_of line)) (2 + bit_bytes (cells_of line)) (omega arith))

          pub padding-set : padding_set line ≡ true → some frame ≡ line_refusal line
          padding-set h = by false false false true (shaped) (le-ltb 2048 (cells_of line) few) (as_many) h

          pub all_fine : padding_set line ≡ false → none ≡ line_refusal line
          all_fine h = by false false false false (shaped) (le-ltb 2048 (cells_of line) few) (as_many) h

-- ---- where nothing is refused

-- a board line that passes every check
pub record Passed (line : List ℕ) : Type 0 where
  pub digits : Digits line
  pub some_rows : 1 ≤ (line_grid line).rows
  pub few_rows : (line_grid line).rows ≤ 255
  pub some_columns : 1 ≤ (line_grid line).columns
  pub few_columns : (line_grid line).columns ≤ 255
  pub few : size (line_grid line) ≤ 2048
  pub bytes : length line ≡ 4 + 2 * bit_bytes (size (line_grid line))

-- none of the tests
none_given : (a b c s o n p : Bool) → verdict a b c s o n p ≡ none → ((a || (b || (c || false))) ≡ false) × (s ≡ false) × (o ≡ false) × (n ≡ false)
none_given true b c s o n p e = absurd (some-ne-none _ e)
none_given false true c s o n p e = absurd (some-ne-none _ e)
none_given false false true s o n p e = absurd (some-ne-none _ e)
none_given false false false true o n p e = absurd (some-ne-none _ e)
none_given false false false false true n p e = absurd (some-ne-none _ e)
none_given false false false false false true p e = absurd (some-ne-none _ e)
none_given false false false false false false true e = absurd (some-ne-none _ e)
none_given false false false false false false false e = (refl, refl, refl, refl)

pub passed : (line : List ℕ) → line_refusal line ≡ none → Passed line
unfolding line_refusal grid_of_bytes digits_refused
passed line e =
    let q = none_given (some_of is_wrong line) (eqb (length line % 2) 1) (ltb (length line) 4 || ltb 516 (length line)) (side_out (rows_byte line) || side_out (columns_byte line))
    (ltb 2048 (cells_of line)) (not (eqb (length (bytes_of line)) (2 + bit_bytes (cells_of line)))) (padding_set line) e in
    let d = digits_good line q.0 in
    let r = or_no (side_out (rows_byte line)) (side_out (columns_byte line)) q.1 in
    let l = length_bytes line in
    let n = eqb-true (length (bytes_of line)) (2 + bit_bytes (cells_of line)) (not-false _ q.3) in
    record {
      digits = d;
      some_rows = (side_in (rows_byte line) r.0).0;
      few_rows = (side_in (rows_byte line) r.0).1;
      some_columns = (side_in (columns_byte line) r.1).0;
      few_columns = (side_in (columns_byte line) r.1).1;
      few = ltb-false 2048 (cells_of line) q.2;
      bytes = omega arith;
    }

-- a refusal's number, 0 for none
abbrev pub number_if : Option Refusal → ℕ
number_if none = 0
number_if (some f) = number_of f

-- a line's refusals have the numbers to 9
pub line_numbers : (line : List ℕ) → number_if (line_refusal line) ≤ 9
unfolding line_refusal grid_of_bytes
line_numbers line =
    go (some_of is_wrong line) (eqb (length line % 2) 1) (ltb (length line) 4 || ltb 516 (length line)) (side_out (rows_byte line) || side_out (columns_byte line))
    (ltb 2048 (cells_of line)) (not (eqb (length (bytes_of line)) (2 + bit_bytes (cells_of line)))) (padding_set line)
  where
    go : (a b c s o n p : Bool) → number_if (verdict a b c s o n p) ≤ 9
    go true b c s o n p = omega arith
    go false true c s o n p = omega arith
    go false false true s o n p = omega arith
    go false false false true o n p = omega arith
    go false false false false true n p = omega arith
    go false false false false false true p = omega arith
    go false false false false false false true = omega arith
    go false false false false false false false = omega arith

-- a grid's values are as many as its cells
pub length_values : (line : List ℕ) → length (line_grid line).values ≡ size (line_grid line)
unfolding grid_of_bytes
length_values line = length_cells (λ k. value_of (mine_bit (bytes_of line) k)) (cells_of line)

-- ---- a product of two bytes

pub product_small : (a b : ℕ) → a < 256 → b < 256 → a * b ≤ 65025
product_small a b h k = omega (arith, mul-le-mul_left {m = b} {n = 255} a (omega arith))

-- ---- lines that are too long

pub long_refused : (line : List ℕ) → 516 < length line → line_refusal line ≡ some frame
long_refused line h = sym (digits_frame line (sym (digits_by line _ _ _ true refl refl refl (lt-ltb 516 (length line) h)) ∙ long (some_of is_wrong line) (eqb (length line % 2) 1) (ltb (length line) 4)))
  where
    long : (a b c : Bool) → any a b c true ≡ true
    long true b c = refl
    long false true c = refl
    long false false true = refl
    long false false false = refl

-- what is past 517 digits changes nothing
pub line_refusal_kept : (line : List ℕ) → line_refusal (take 517 line) ≡ line_refusal line
line_refusal_kept line =
    elim (dec_le (length line) 517) [
      | yes h ↦ ap line_refusal (take_all 517 line h)
      | no h ↦ long_refused (take 517 line) (omega (arith, length-take 517 line)) ∙ sym (long_refused line (omega arith))
    ]
