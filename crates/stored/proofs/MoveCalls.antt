-- The checks of stored lines by their tests, and what reading and writing come to. Assumes nothing.
use Prim.Native.Nat.{ℕ, ◌+◌, ◌*◌, ◌%◌, ◌<◌, ◌≤◌}
use mathlib.Core.Path.{◌≡◌, ap, refl, sym}
use mathlib.Core.Bool.{Bool, true, false, not, ◌||◌}
use mathlib.Core.List.{List, [], ◌∷◌}
use mathlib.Core.Option.{Option, some-ne-none, none, some}
use lib.Dec.{eqb, ltb}
use lib.ListN.{length, take}
use borrow.Author.Tests.{eq-eqb, eqb-true, le-ltb, lt-ltb, ltb-false, ne_eqb, not-false}
use Rattle.game.specs.Lists.{some_of}
use Rattle.game.specs.Area.{begun}
use Rattle.game.specs.Calls.{Refusal, first_given, frame, gives, refuses, shape, side_out, trace}
use Rattle.hex_digits.specs.Hex.{is_wrong}
use Rattle.lines.specs.Outputs.{KeepsRun}
use Rattle.stored.specs.MoveLine.{move_line, move_line_checks, read_moves_call, stored_of, write_checks, write_moves_call}
use Rattle.game.proofs.Checks.{side_in}
use Rattle.game.proofs.Truth.{or_no}
use Rattle.lines.proofs.Outputs.{run_else, run_refused}
use Rattle.lines.proofs.Verdict.{columns_byte, rows_byte, side_fine, side_none}
use Rattle.stored.proofs.Words.{words_in}

second_holds : (a b : Bool) → b ≡ true → (a || b) ≡ true
second_holds true b e = refl
second_holds false b e = e

pub side_many : (n : ℕ) → 255 < n → side_out n ≡ true
side_many n h = second_holds (eqb n 0) (ltb 255 n) (lt-ltb 255 n h)

-- ---- a stored line read

-- the refusal by the tests
abbrev read_verdict : Bool → Bool → Bool → Bool → Option Refusal
read_verdict a b s t =
    first_given (
    record { given = a; refusal = frame }
    ∷ record { given = b; refusal = frame }
    ∷ record { given = s; refusal = shape }
    ∷ record { given = t; refusal = trace }
    ∷ []
    )

module _ (line lent : List ℕ) where
  by : (a b s t : Bool) → some_of is_wrong line ≡ a → (ltb (length line) 4 || not (eqb (length line % 8) 4)) ≡ b → (side_out (rows_byte line) || side_out (columns_byte line)) ≡ s → ltb (length lent) (length (words_in line)) ≡ t
      → read_verdict a b s t ≡ first_given (move_line_checks line lent)
  unfolding stored_of
  by a b s t e f g h = sym (λ i. read_verdict (e i) (f i) (g i) (h i))

  pub wrong_byte : some_of is_wrong line ≡ true → some frame ≡ first_given (move_line_checks line lent)
  wrong_byte e = by true _ _ _ e refl refl refl

  module _ (clean : some_of is_wrong line ≡ false) where
    pub few_digits : length line < 4 → some frame ≡ first_given (move_line_checks line lent)
    few_digits h = by false true _ _ clean (ap (λ (t : Bool). t || not (eqb (length line % 8) 4)) (lt-ltb (length line) 4 h)) refl refl

    pub part_move : (length line % 8 ≡ 4 → ⊥) → some frame ≡ first_given (move_line_checks line lent)
    part_move h = by false true _ _ clean (second_holds (ltb (length line) 4) _ (ap not (ne_eqb (length line % 8) 4 h))) refl refl

    module _ (enough : 4 ≤ length line) (whole : length line % 8 ≡ 4) where
      framed : (ltb (length line) 4 || not (eqb (length line % 8) 4)) ≡ false
      framed = λ i. le-ltb (length line) 4 enough i || not (eq-eqb (length line % 8) 4 whole i)

      pub no_rows : rows_byte line ≡ 0 → some shape ≡ first_given (move_line_checks line lent)
      no_rows h = by false false true _ clean (framed) (ap (λ (t : Bool). t || side_out (columns_byte line)) (side_none (rows_byte line) h)) refl

      pub no_columns : columns_byte line ≡ 0 → some shape ≡ first_given (move_line_checks line lent)
      no_columns h = by false false true _ clean (framed) (second_holds (side_out (rows_byte line)) _ (side_none (columns_byte line) h)) refl

      module _ (rows : rows_byte line ≡ 0 → ⊥) (few_rows : rows_byte line < 256) (columns : columns_byte line ≡ 0 → ⊥) (few_columns : columns_byte line < 256) where
        shaped : (side_out (rows_byte line) || side_out (columns_byte line)) ≡ false
        shaped = λ i. side_fine (rows_byte line) rows few_rows i || side_fine (columns_byte line) columns few_columns i

        pub no_room : length lent < length (words_in line) → some trace ≡ first_given (move_line_checks line lent)
        no_room h = by false false false true clean (framed) (shaped) (lt-ltb (length lent) (length (words_in line)) h)

        pub all_fine : length (words_in line) ≤ length lent → none ≡ first_given (move_line_checks line lent)
        all_fine h = by false false false false clean (framed) (shaped) (le-ltb (length lent) (length (words_in line)) h)

-- a stored line that only room can refuse
pub but_room : (line lent : List ℕ) → some_of is_wrong line ≡ false → 4 ≤ length line → length line % 8 ≡ 4 → (rows_byte line ≡ 0 → ⊥) → rows_byte line < 256 → (columns_byte line ≡ 0 → ⊥) → columns_byte line < 256
    → first_given (move_line_checks line lent) ≡ first_given (record { given = ltb (length lent) (length (words_in line)); refusal = trace } ∷ [])
but_room line lent clean enough whole rows few_rows columns few_columns =
    sym (by line lent false false false (ltb (length lent) (length (words_in line))) clean (framed line lent clean enough whole) (shaped line lent clean enough whole rows few_rows columns few_columns) refl)

-- a stored line that passes every check
pub record PassedMoves (line lent : List ℕ) : Type 0 where
  pub clean : some_of is_wrong line ≡ false
  pub enough : 4 ≤ length line
  pub whole : length line % 8 ≡ 4
  pub some_rows : 1 ≤ rows_byte line
  pub few_rows : rows_byte line ≤ 255
  pub some_columns : 1 ≤ columns_byte line
  pub few_columns : columns_byte line ≤ 255
  pub room : length (words_in line) ≤ length lent

none_given : (a b s t : Bool) → read_verdict a b s t ≡ none → (a ≡ false) × (b ≡ false) × (s ≡ false) × (t ≡ false)
none_given true b s t e = absurd (some-ne-none _ e)
none_given false true s t e = absurd (some-ne-none _ e)
none_given false false true t e = absurd (some-ne-none _ e)
none_given false false false true e = absurd (some-ne-none _ e)
none_given false false false false e = (refl, refl, refl, refl)

pub passed_moves : (line lent : List ℕ) → first_given (move_line_checks line lent) ≡ none → PassedMoves line lent
unfolding stored_of
passed_moves line lent e =
    let q = none_given (some_of is_wrong line) (ltb (length line) 4 || not (eqb (length line % 8) 4)) (side_out (rows_byte line) || side_out (columns_byte line)) (ltb (length lent) (length (words_in line))) e in
    let f = or_no (ltb (length line) 4) (not (eqb (length line % 8) 4)) q.1 in
    let s = or_no (side_out (rows_byte line)) (side_out (columns_byte line)) q.2 in
    record {
      clean = q.0;
      enough = ltb-false (length line) 4 f.0;
      whole = eqb-true (length line % 8) 4 (not-false _ f.1);
      some_rows = (side_in (rows_byte line) s.0).0;
      few_rows = (side_in (rows_byte line) s.0).1;
      some_columns = (side_in (columns_byte line) s.1).0;
      few_columns = (side_in (columns_byte line) s.1).1;
      room = ltb-false (length lent) (length (words_in line)) q.3;
    }

-- ---- a line written

abbrev write_verdict : Bool → Bool → Bool → Option Refusal
write_verdict s t f =
    first_given (
    record { given = s; refusal = shape }
    ∷ record { given = t; refusal = trace }
    ∷ record { given = f; refusal = trace }
    ∷ []
    )

module _ (rows columns : ℕ) (list : List ℕ) (n : ℕ) (lent : List ℕ) where
  written-by : (s t f : Bool) → (side_out rows || side_out columns) ≡ s → ltb (length list) n ≡ t → ltb (length lent) (4 + 8 * n) ≡ f
      → write_verdict s t f ≡ first_given (write_checks rows columns list n lent)
  written-by s t f e g h = sym (λ i. write_verdict (e i) (g i) (h i))

  pub rows_out : side_out rows ≡ true → some shape ≡ first_given (write_checks rows columns list n lent)
  rows_out e = written-by true _ _ (ap (λ (t : Bool). t || side_out columns) e) refl refl

  pub columns_out : side_out columns ≡ true → some shape ≡ first_given (write_checks rows columns list n lent)
  columns_out e = written-by true _ _ (second_holds (side_out rows) (side_out columns) e) refl refl

  module _ (r : side_out rows ≡ false) (c : side_out columns ≡ false) where
    sides : (side_out rows || side_out columns) ≡ false
    sides = λ i. r i || c i

    pub many_moves : length list < n → some trace ≡ first_given (write_checks rows columns list n lent)
    many_moves h = written-by false true _ (sides) (lt-ltb (length list) n h) refl

    pub short_line : n ≤ length list → length lent < 4 + 8 * n → some trace ≡ first_given (write_checks rows columns list n lent)
    short_line h k = written-by false false true (sides) (le-ltb (length list) n h) (lt-ltb (length lent) (4 + 8 * n) k)

    pub line_fits : n ≤ length list → 4 + 8 * n ≤ length lent → none ≡ first_given (write_checks rows columns list n lent)
    line_fits h k = written-by false false false (sides) (le-ltb (length list) n h) (le-ltb (length lent) (4 + 8 * n) k)

-- what may be written
pub record PassedWrite (rows columns : ℕ) (list : List ℕ) (n : ℕ) (lent : List ℕ) : Type 0 where
  pub some_rows : 1 ≤ rows
  pub few_rows : rows ≤ 255
  pub some_columns : 1 ≤ columns
  pub few_columns : columns ≤ 255
  pub moves : n ≤ length list
  pub room : 4 + 8 * n ≤ length lent

none_written : (s t f : Bool) → write_verdict s t f ≡ none → (s ≡ false) × (t ≡ false) × (f ≡ false)
none_written true t f e = absurd (some-ne-none _ e)
none_written false true f e = absurd (some-ne-none _ e)
none_written false false true e = absurd (some-ne-none _ e)
none_written false false false e = (refl, refl, refl)

pub passed_write : (rows columns : ℕ) (list : List ℕ) (n : ℕ) (lent : List ℕ) → first_given (write_checks rows columns list n lent) ≡ none → PassedWrite rows columns list n lent
passed_write rows columns list n lent e =
    let q = none_written (side_out rows || side_out columns) (ltb (length list) n) (ltb (length lent) (4 + 8 * n)) e in
    let s = or_no (side_out rows) (side_out columns) q.0 in
    record {
      some_rows = (side_in rows s.0).0;
      few_rows = (side_in rows s.0).1;
      some_columns = (side_in columns s.1).0;
      few_columns = (side_in columns s.1).1;
      moves = ltb-false (length list) n q.1;
      room = ltb-false (length lent) (4 + 8 * n) q.2;
    }

-- ---- what a call comes to

module _ (line lent : List ℕ) where
  pub read_refused : (f : Refusal) → some f ≡ first_given (move_line_checks line lent) → KeepsRun (read_moves_call line lent) (refuses f) lent
  unfolding read_moves_call
  read_refused f e = run_refused (first_given (move_line_checks line lent)) lent _ f e

  pub read_kept : (rows columns n : ℕ) (run : List ℕ) → none ≡ first_given (move_line_checks line lent) → rows ≡ rows_byte line → columns ≡ columns_byte line → n ≡ length (words_in line) → run ≡ begun (words_in line) lent
      → KeepsRun (read_moves_call line lent) (gives (rows ∷ columns ∷ n ∷ [])) run
  unfolding read_moves_call stored_of
  read_kept rows columns n run e r c k w = run_else (first_given (move_line_checks line lent)) lent _ (gives (rows ∷ columns ∷ n ∷ [])) run e (λ i. gives (r i ∷ c i ∷ k i ∷ [])) w

module _ (rows columns : ℕ) (list : List ℕ) (n : ℕ) (lent : List ℕ) where
  pub write_refused : (f : Refusal) → some f ≡ first_given (write_checks rows columns list n lent) → KeepsRun (write_moves_call rows columns list n lent) (refuses f) lent
  unfolding write_moves_call
  write_refused f e = run_refused (first_given (write_checks rows columns list n lent)) lent _ f e

  pub write_kept : (digits : ℕ) (run : List ℕ) → none ≡ first_given (write_checks rows columns list n lent) → digits ≡ 4 + 8 * n → run ≡ begun (move_line rows columns (take n list)) lent
      → KeepsRun (write_moves_call rows columns list n lent) (gives (digits ∷ [])) run
  unfolding write_moves_call
  write_kept digits run e d w = run_else (first_given (write_checks rows columns list n lent)) lent _ (gives (digits ∷ [])) run e (λ i. gives (d i ∷ [])) w
