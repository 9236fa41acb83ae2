-- The first 4,101 bytes of a file decide its line, since a file that long is refused; the first line feed, or 517 bytes, decide a line's file. Assumes nothing.
use Prim.Native.Nat.{ℕ, ◌*◌, ◌≤◌}
use native.Mathlib.Omega.{arith}
use mathlib.Core.Path.{◌≡◌, ap, refl, subst, sym, ◌∙◌}
use mathlib.Core.Bool.{Bool, ◌||◌, cond, false, true}
use mathlib.Core.List.{List, [], ◌∷◌, ◌++◌, append-nil}
use mathlib.Core.Option.{Option, none, some}
use lib.Dec.{T, ltb}
use lib.ListN.{get_or-append, length, length-append}
use borrow.Author.Tests.{le-ltb, ltb-false, ltb-true}
use Rattle.game.specs.Lists.{has}
use Rattle.game.specs.Calls.{Refusal, file_wrong, first_given, frame, shape, side_out, size_over}
use Rattle.game.proofs.Checks.{given_each}
use Rattle.game.proofs.Draws.{IfSome}
use Rattle.lines.specs.BoardLine.{line_grid, line_refusal}
use Rattle.lines.proofs.Verdict.{long_refused}
use Rattle.mbf_form.specs.Form.{file_columns, file_rows}
use Rattle.mbf_form.specs.Calls.{mine_checks, side_checks}
use Rattle.mbf_form.proofs.Accepted.{few_mines}
use Rattle.mbf_lines.specs.Conversions.{file_line, file_unless, first_line, line_file, refusal_line, small_file_refusal}
use Rattle.mbf_lines.proofs.Firsts.{by_first_line, feed_there, no_feed}
use Rattle.mbf_lines.proofs.Verdict.{many_cells, mines_decide, refusal_printed, sides_refused, small}

-- ---- a file that is too long

-- the refusal of a file that is too long, by its sides
abbrev long_refusal : ℕ → ℕ → Refusal
long_refusal rows columns = cond (side_out rows || side_out columns) shape (cond (ltb 2048 (rows * columns)) size_over file_wrong)

-- the checks of the mines give no other refusal than FILE
mines_wrong : (file : List ℕ) → (first_given (mine_checks file) ≡ none → ⊥) → first_given (mine_checks file) ≡ some file_wrong
mines_wrong file n = go (first_given (mine_checks file)) refl (given_each (λ f. f ≡ file_wrong) (mine_checks file) (refl, (refl, (refl, tt))))
  where
    go : (o : Option Refusal) → first_given (mine_checks file) ≡ o → IfSome (λ f. f ≡ file_wrong) o → o ≡ some file_wrong
    go none e h = absurd (n e)
    go (some f) e h = ap some h

module _ (file : List ℕ) (long : 4101 ≤ length file) where
  -- it lists more mines than 2,048 cells have room for
  not_none : small_file_refusal file ≡ none → ⊥
  not_none e = let s = small file e in omega (arith, s.few, few_mines file s.taken, s.taken.long)

  sides_by : (t : Bool) → (side_out (file_rows file) || side_out (file_columns file)) ≡ t → first_given (side_checks file) ≡ first_given (record { given = t; refusal = shape } ∷ [])
  sides_by t e = λ i. first_given (record { given = le-ltb (length file) 2 (omega arith) i; refusal = file_wrong } ∷ record { given = e i; refusal = shape } ∷ [])

  long_file : small_file_refusal file ≡ some (long_refusal (file_rows file) (file_columns file))
  long_file = go (side_out (file_rows file) || side_out (file_columns file)) (ltb 2048 (file_rows file * file_columns file)) refl refl
    where
      go : (a b : Bool) → (side_out (file_rows file) || side_out (file_columns file)) ≡ a → ltb 2048 (file_rows file * file_columns file) ≡ b → small_file_refusal file ≡ some (cond a shape (cond b size_over file_wrong))
      go true b e f = sym (sides_refused file shape (sym (sides_by true e)))
      go false true e f = sym (many_cells file (sides_by false e) (ltb-true 2048 (file_rows file * file_columns file) f))
      go false false e f =
          let m = mines_decide file (sides_by false e) (ltb-false 2048 (file_rows file * file_columns file) f) in
          sym m ∙ mines_wrong file (λ z. not_none (sym m ∙ z))

  long_line : file_line file ≡ refusal_line (long_refusal (file_rows file) (file_columns file))
  long_line = sym (refusal_printed file (long_refusal (file_rows file) (file_columns file)) (sym long_file))

-- 4,101 bytes of a file decide what is printed
pub file_decided : (file rest : List ℕ) → 4101 ≤ length file → file_line (file ++ rest) ≡ file_line file
file_decided file rest h =
    long_line (file ++ rest) (omega (arith, length-append file rest))
    ∙ (λ i. refusal_line (long_refusal (get_or-append file rest 0 1 (omega arith) i) (get_or-append file rest 0 0 (omega arith) i)))
    ∙ sym (long_line file h)

-- ---- a line and more

-- a line feed among the bytes decides
pub line_feed_decides : (input rest : List ℕ) → T (has 10 input) → line_file (input ++ rest) ≡ line_file input
line_feed_decides input rest t = sym (by_first_line (input ++ rest) (first_line input) (sym (feed_there input rest t))) ∙ by_first_line input (first_line input) refl

-- 517 bytes without one are FRAME, whatever follows
long_input : (input rest : List ℕ) → 517 ≤ length input → has 10 input ≡ false → line_file (input ++ rest) ≡ refusal_line frame
long_input input rest h e =
    let line = input ++ first_line rest in
    sym (by_first_line (input ++ rest) line (sym (no_feed input rest (λ t. subst T e t))))
    ∙ ap (λ (o : Option Refusal). file_unless o (line_grid line)) (long_refused line (omega (arith, length-append input (first_line rest))))

-- and so do 517 bytes
pub line_decided : (input rest : List ℕ) → 517 ≤ length input → line_file (input ++ rest) ≡ line_file input
line_decided input rest h = go (has 10 input) refl
  where
    go : (t : Bool) → has 10 input ≡ t → line_file (input ++ rest) ≡ line_file input
    go true e = line_feed_decides input rest (subst T (sym e) tt)
    go false e = long_input input rest h e ∙ sym (long_input input [] h e) ∙ ap line_file (append-nil input)

-- no line at all is FRAME
pub no_line : line_file [] ≡ refusal_line frame
unfolding line_file line_refusal
no_line = refl
