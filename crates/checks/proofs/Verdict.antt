-- The checks of every call by their tests: the first that is given, and what holds where none is. Assumes nothing.
use Prim.Native.Nat.{ℕ, ◌*◌, ◌<◌, ◌≤◌}
use native.Mathlib.Omega.{arith}
use native.Mathlib.Decide.{dec_le, ℕ_discrete}
use mathlib.Core.Path.{◌≡◌, refl, sym, ◌∙◌}
use mathlib.Core.Bool.{Bool, true, false, not, ◌||◌}
use mathlib.Core.List.{List, [], ◌∷◌, ◌++◌}
use mathlib.Core.Option.{Option, some-ne-none, none, some}
use lib.Dec.{eqb, ltb}
use lib.IntN.{ℤ}
use lib.ListN.{length}
use borrow.Author.Tests.{eq-eqb, eqb-false, le-ltb, lt-ltb, ltb-false, ne_eqb}
use Rattle.game.specs.Grid.{Grid, size}
use Rattle.game.specs.Keys.{Key}
use Rattle.game.proofs.Checks.{each_fails}
use Rattle.game.proofs.Truth.{or_no}
use Rattle.area.specs.Stages.{Shape}
use Rattle.game.specs.Calls.{Refusal, board, board_checks, first_given, grid_checks, key_check, keyed_rounds_check, most_rounds, shape, work, work_check}
use Rattle.checks.proofs.More.{enough, first_none, reached, reaches}

-- ---- the board

-- the refusal by the five tests
abbrev verdict : Bool → Bool → Bool → Bool → Bool → Option Refusal
verdict a b c d e = first_given (record { given = (a || b) || (c || d); refusal = shape } ∷ record { given = not e; refusal = board } ∷ [])

module _ (g : Grid) where
  by : (a b c d e : Bool) → eqb g.rows 0 ≡ a → ltb 255 g.rows ≡ b → eqb g.columns 0 ≡ c → ltb 255 g.columns ≡ d
      → eqb (length g.values) (size g) ≡ e → verdict a b c d e ≡ first_given (board_checks g)
  by a b c d e p q r s t = sym (λ i. verdict (p i) (q i) (r i) (s i) (t i))

  -- rows 0, rows over 255, columns 0, columns over 255
  pub no_rows : g.rows ≡ 0 → some shape ≡ first_given (board_checks g)
  no_rows h = by true (ltb 255 g.rows) (eqb g.columns 0) (ltb 255 g.columns) (eqb (length g.values) (size g)) (eq-eqb g.rows 0 h) refl refl refl refl

  module _ (rows : g.rows ≡ 0 → ⊥) where
    pub many_rows : 255 < g.rows → some shape ≡ first_given (board_checks g)
    many_rows h = by false true (eqb g.columns 0) (ltb 255 g.columns) (eqb (length g.values) (size g)) (ne_eqb g.rows 0 rows) (lt-ltb 255 g.rows h) refl refl refl

    module _ (few_rows : g.rows ≤ 255) where
      pub no_columns : g.columns ≡ 0 → some shape ≡ first_given (board_checks g)
      no_columns h = by false false true (ltb 255 g.columns) (eqb (length g.values) (size g)) (ne_eqb g.rows 0 rows) (le-ltb 255 g.rows few_rows) (eq-eqb g.columns 0 h) refl refl

      module _ (columns : g.columns ≡ 0 → ⊥) where
        pub many_columns : 255 < g.columns → some shape ≡ first_given (board_checks g)
        many_columns h = by false false false true (eqb (length g.values) (size g)) (ne_eqb g.rows 0 rows) (le-ltb 255 g.rows few_rows) (ne_eqb g.columns 0 columns) (lt-ltb 255 g.columns h) refl

        module _ (few_columns : g.columns ≤ 255) where
          pub other_board : (length g.values ≡ size g → ⊥) → some board ≡ first_given (board_checks g)
          other_board h = by false false false false false (ne_eqb g.rows 0 rows) (le-ltb 255 g.rows few_rows) (ne_eqb g.columns 0 columns) (le-ltb 255 g.columns few_columns) (ne_eqb (length g.values) (size g) h)

          pub whole_board : length g.values ≡ size g → none ≡ first_given (board_checks g)
          whole_board e = by false false false false true (ne_eqb g.rows 0 rows) (le-ltb 255 g.rows few_rows) (ne_eqb g.columns 0 columns) (le-ltb 255 g.columns few_columns) (eq-eqb (length g.values) (size g) e)

-- ---- nothing is refused

-- the grid is as every call needs it
pub record PassedBoard (g : Grid) : Type 0 where
  pub shaped : Shape g.rows g.columns
  pub whole : length g.values ≡ size g

pub passed_board : (g : Grid) → first_given (board_checks g) ≡ none → PassedBoard g
passed_board g e =
    elim (ℕ_discrete g.rows 0) [
      | yes h ↦ absurd (some-ne-none _ (no_rows g h ∙ e))
      | no rows ↦ elim (dec_le g.rows 255) [
        | no h ↦ absurd (some-ne-none _ (many_rows g rows (omega arith) ∙ e))
        | yes few_rows ↦ elim (ℕ_discrete g.columns 0) [
          | yes h ↦ absurd (some-ne-none _ (no_columns g rows few_rows h ∙ e))
          | no columns ↦ elim (dec_le g.columns 255) [
            | no h ↦ absurd (some-ne-none _ (many_columns g rows few_rows columns (omega arith) ∙ e))
            | yes few_columns ↦ elim (ℕ_discrete (length g.values) (size g)) [
              | no h ↦ absurd (some-ne-none _ (other_board g rows few_rows columns few_columns h ∙ e))
              | yes whole ↦ record { shaped = record { some_rows = omega arith; few_rows = few_rows; some_columns = omega arith; few_columns = few_columns }; whole = whole }
            ]
          ]
        ]
      ]
    ]

-- the grid and the work area are as every call needs them
pub record Passed (g : Grid) (w : List ℤ) : Type 0 where
  pub shaped : Shape g.rows g.columns
  pub whole : length g.values ≡ size g
  pub room : 5 * size g ≤ length w

pub passed : (g : Grid) (w : List ℤ) → first_given (grid_checks g w) ≡ none → Passed g w
passed g w e =
    let p = passed_board g (first_none (board_checks g) (work_check g w ∷ []) e) in
    record { shaped = p.shaped; whole = p.whole; room = reached (board_checks g) (length w) (5 * size g) work e }

pub all_fine : (g : Grid) (w : List ℤ) → Passed g w → none ≡ first_given (grid_checks g w)
all_fine g w p =
    let s = p.shaped in
    enough (board_checks g) (length w) (5 * size g) work (whole_board g (λ e. omega arith) s.few_rows (λ e. omega arith) s.few_columns p.whole) p.room

-- where a call's checks refuse nothing: the first of them passed, and the value reaches its least
pub all_passed : (g : Grid) (w : List ℤ) (a b : ℕ) (f : Refusal) → first_given (grid_checks g w ++ reaches a b f) ≡ none → Passed g w × (b ≤ a)
all_passed g w a b f e = (passed g w (first_none (grid_checks g w) (reaches a b f) e), reached (grid_checks g w) a b f e)

-- where a keyed search is not refused: the first checks passed, there is a round, and at most 1,000,000 are
pub keyed_passed : (g : Grid) (w : List ℤ) (n : ℕ) (k : Key) → first_given (grid_checks g w ++ keyed_rounds_check n ∷ key_check k ∷ []) ≡ none → Passed g w × (1 ≤ n) × (n ≤ most_rounds)
keyed_passed g w n k e =
    let fails = (each_fails (grid_checks g w ++ keyed_rounds_check n ∷ key_check k ∷ []) e).1.1.1.0 in
    let tests = or_no (eqb n 0) (ltb most_rounds n) fails in
    let some_round = eqb-false n 0 tests.0 in
    (passed g w (first_none (grid_checks g w) (keyed_rounds_check n ∷ key_check k ∷ []) e), omega (arith, some_round), ltb-false most_rounds n tests.1)
