-- The checks of a file by their tests: the first that is given, and what holds where none is. Assumes nothing.
use Prim.Native.Nat.{ℕ, ◌+◌, ◌*◌, ◌<◌, ◌≤◌}
use Rattle.std.specs.Prelude.{Err, Ok}
use mathlib.Core.Path.{◌≡◌, ap, refl, sym, ◌∙◌}
use mathlib.Core.Bool.{Bool, true, false, not, true≢false, ◌||◌}
use mathlib.Core.List.{List, [], ◌∷◌}
use mathlib.Core.Option.{Option, some-ne-none, none, some}
use lib.Dec.{eqb, ltb}
use lib.ListN.{length}
use borrow.Author.Tests.{eq-eqb, le-ltb, lt-ltb, ne_eqb, not-false, not-true}
use Rattle.game.specs.Lists.{range, some_of}
use Rattle.game.specs.Calls.{Refusal, file_wrong, first_given, shape, side_out}
use Rattle.lines.proofs.Verdict.{side_fine, side_none}
use Rattle.mbf_form.specs.Form.{file_columns, file_rows, mine_count, mine_places, past_edge, twice}
use Rattle.mbf_form.specs.Calls.{mine_checks, side_checks}
use Rattle.refusals.specs.declared.Refusal.TheVariants.{File}
use Rattle.mbf_checks.specs.Marks.{CheckedMines, MarkedAll}

-- ---- the sides

-- the verdict by the tests: under two bytes, rows, columns
abbrev sides : Bool → Bool → Bool → Option Refusal
sides a r c = first_given (record { given = a; refusal = file_wrong } ∷ record { given = r || c; refusal = shape } ∷ [])

module _ (file : List ℕ) where
  sides_by : (a r c : Bool) → ltb (length file) 2 ≡ a → side_out (file_rows file) ≡ r → side_out (file_columns file) ≡ c → sides a r c ≡ first_given (side_checks file)
  sides_by a r c e f g = sym (λ i. sides (e i) (f i) (g i))

  pub under_two : length file < 2 → some file_wrong ≡ first_given (side_checks file)
  under_two h = sides_by true _ _ (lt-ltb (length file) 2 h) refl refl

  module _ (two : 2 ≤ length file) where
    pub no_width : file_columns file ≡ 0 → some shape ≡ first_given (side_checks file)
    no_width e = second (side_out (file_rows file)) (side_out (file_columns file)) (side_none (file_columns file) e) ∙ sides_by false _ _ (le-ltb (length file) 2 two) refl refl
      where
        second : (r c : Bool) → c ≡ true → some shape ≡ sides false r c
        second true c e = refl
        second false true e = refl
        second false false e = absurd (true≢false (sym e))

    pub no_height : file_rows file ≡ 0 → some shape ≡ first_given (side_checks file)
    no_height e = sides_by false true _ (le-ltb (length file) 2 two) (side_none (file_rows file) e) refl

    pub sides_fine : (file_columns file ≡ 0 → ⊥) → file_columns file < 256 → (file_rows file ≡ 0 → ⊥) → file_rows file < 256 → none ≡ first_given (side_checks file)
    sides_fine c few_columns r few_rows = sides_by false false false (le-ltb (length file) 2 two) (side_fine (file_rows file) r few_rows) (side_fine (file_columns file) c few_columns)

-- ---- the count and the mines

-- the verdict by the tests: another length, a mine past the edge, one listed twice
abbrev mines : Bool → Bool → Bool → Option Refusal
mines a b c = first_given (record { given = a; refusal = file_wrong } ∷ record { given = b; refusal = file_wrong } ∷ record { given = c; refusal = file_wrong } ∷ [])

module _ (file : List ℕ) where
  -- a mine is past the edge or listed twice
  abbrev mine_wrong : Bool
  mine_wrong = some_of (past_edge file) (range 0 (mine_count file)) || twice (mine_places file)

  mines_by : (a : Bool) → not (eqb (length file) (4 + 2 * mine_count file)) ≡ a → mines a (some_of (past_edge file) (range 0 (mine_count file))) (twice (mine_places file)) ≡ first_given (mine_checks file)
  mines_by a e = sym (λ i. mines (e i) (some_of (past_edge file) (range 0 (mine_count file))) (twice (mine_places file)))

  other_length : (length file ≡ 4 + 2 * mine_count file → ⊥) → some file_wrong ≡ first_given (mine_checks file)
  other_length h = mines_by true (ap not (ne_eqb (length file) (4 + 2 * mine_count file) h))

  module _ (long : length file ≡ 4 + 2 * mine_count file) where
    mine-wrong : mine_wrong ≡ true → some file_wrong ≡ first_given (mine_checks file)
    mine-wrong e = go (some_of (past_edge file) (range 0 (mine_count file))) (twice (mine_places file)) e ∙ mines_by false (ap not (eq-eqb (length file) (4 + 2 * mine_count file) long))
      where
        go : (b c : Bool) → (b || c) ≡ true → some file_wrong ≡ mines false b c
        go true c e = refl
        go false true e = refl
        go false false e = absurd (true≢false (sym e))

    mines_fine : mine_wrong ≡ false → none ≡ first_given (mine_checks file)
    mines_fine e = go (some_of (past_edge file) (range 0 (mine_count file))) (twice (mine_places file)) e ∙ mines_by false (ap not (eq-eqb (length file) (4 + 2 * mine_count file) long))
      where
        go : (b c : Bool) → (b || c) ≡ false → none ≡ mines false b c
        go true c e = absurd (true≢false e)
        go false true e = absurd (true≢false e)
        go false false e = refl

-- ---- what check_mines comes to

module _ (file bits : List ℕ) where
  -- refused for its length
  pub length_refused : (length file ≡ 4 + 2 * mine_count file → ⊥) → CheckedMines file (Err File) bits
  length_refused h = record { verdict = other_length file h; marks = λ e. absurd (some-ne-none _ e) }

  module _ (long : length file ≡ 4 + 2 * mine_count file) (taken : Bool) (all : MarkedAll file taken bits) where
    -- refused for a mine
    pub mine_refused : taken ≡ false → CheckedMines file (Err File) bits
    mine_refused e = record { verdict = mine-wrong file long (not-false _ (sym all.answers ∙ e)); marks = λ q. absurd (some-ne-none _ q) }

    -- not refused
    pub mines_taken : taken ≡ true → CheckedMines file (Ok tt) bits
    mines_taken e = record { verdict = mines_fine file long (not-true _ (sym all.answers ∙ e)); marks = λ q. all.marks e }
