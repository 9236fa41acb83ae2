-- A board line that was read is written as its file, which has room in 4,100 bytes; a refused one is printed as its refusal. Assumes nothing.
use Prim.Native.Nat.{ℕ, ◌*◌, ◌≤◌}
use native.Mathlib.Omega.{arith}
use mathlib.Core.Path.{◌≡◌, ap, subst, sym, ◌∙◌}
use mathlib.Core.Bool.{◌||◌, not}
use mathlib.Core.List.{List, [], ◌∷◌, ◌++◌}
use mathlib.Core.Option.{Option, none}
use lib.IntN.{ℤ}
use lib.ListN.{length, take}
use borrow.Author.Tests.{eq-eqb}
use Rattle.std.specs.Prelude.{Result}
use Rattle.std.specs.Result.{result_unwrap_or}
use Rattle.refusals.specs.declared.Refusal as Refused
use Rattle.mbf_write.specs.Answers.{file_written_answer}
use Rattle.game.specs.Grid.{Grid, cells, mine, size}
use Rattle.game.specs.Area.{begun}
use Rattle.game.specs.Calls.{Refusal, board_checks, first_given, gives, refuses}
use Rattle.game.proofs.Checks.{none_given}
use Rattle.game.proofs.Counts.{count_le}
use Rattle.game.proofs.Squares.{length_cells}
use Rattle.area.specs.Numbers.{grid_of}
use Rattle.hex_digits.specs.Hex.{byte_digits}
use Rattle.lines.specs.Answers.{KeepsGrid}
use Rattle.lines.specs.BoardLine.{board_line_call, line_grid, line_refusal}
use Rattle.lines.specs.Outputs.{KeepsRun, RunOutcome}
use Rattle.lines.proofs.LineRead.{accepted, enough_values, given_one, no_refusal, refused_so, same-grid}
use Rattle.lines.proofs.Verdict.{length_values, passed, side_fine}
use Rattle.mbf_form.specs.Form.{file_of}
use Rattle.mbf_form.specs.Calls.{write_file_call}
use Rattle.mbf_form.proofs.Round.{write_whole}
use Rattle.mbf_form.proofs.Written.{file_length}
use Rattle.mbf_lines.specs.Conversions.{Printed, file_unless, refusal_line}
use Rattle.mbf_lines.proofs.Firsts.{file_of_line}

-- ---- a grid written

module _ (g : Grid) (lent : List ℕ) (passes : first_given (board_checks g) ≡ none) (few : size g ≤ 2048) (room : 4100 ≤ length lent) where
  writes : write_file_call g lent ≡ record { answer = gives (length (file_of g) ∷ []); run = begun (file_of g) lent }
  writes = write_whole g lent passes (omega (arith, file_length g, count_le (mine g) (cells g), length_cells g))

  pub file_printed : (r : Result ℕ Refused.Refusal) (run : List ℕ) → KeepsRun (write_file_call g lent) (file_written_answer r) run → Printed (file_of g) (result_unwrap_or r 0) lent run
  file_printed r run k =
      record {
        counts = ap (λ (x : Result ℕ Refused.Refusal). result_unwrap_or x 0) (given_one r (length (file_of g)) (k.answers ∙ ap (λ (o : RunOutcome). o.answer) writes));
        leaves = k.leaves ∙ ap (λ (o : RunOutcome). o.run) writes;
      }

  -- and is not refused
  pub file_not_refused : (f : Refusal) (run : List ℕ) → KeepsRun (write_file_call g lent) (refuses f) run → ⊥
  file_not_refused f run k = no_refusal f (length (file_of g)) [] (k.answers ∙ ap (λ (o : RunOutcome). o.answer) writes)

-- ---- a line read

-- the grid of an accepted line passes the board's checks
pub line_passes : (line : List ℕ) → line_refusal line ≡ none → first_given (board_checks (line_grid line)) ≡ none
line_passes line e =
    let p = passed line e in
    none_given (board_checks (line_grid line)) (
      (λ i. side_fine (line_grid line).rows (λ z. omega (arith, p.some_rows)) (omega (arith, p.few_rows)) i || side_fine (line_grid line).columns (λ z. omega (arith, p.some_columns)) (omega (arith, p.few_columns)) i),
      (ap not (eq-eqb (length (line_grid line).values) (size (line_grid line)) (length_values line)), tt),
    )

-- a grid passes, has at most 2,048 cells and a value for each
pub record Taken (g : Grid) : Type 0 where
  pub passes : first_given (board_checks g) ≡ none
  pub few : size g ≤ 2048
  pub whole : length g.values ≡ size g

-- a line was read: the grid at the start of the values is taken, and its file is the line's
pub record Read (rows columns : ℕ) (line : List ℕ) (values : List ℤ) : Type 0 where
  pub taken : Taken (grid_of rows columns (take (rows * columns) values))
  pub enough : rows * columns ≤ length values
  pub filed : file_of (grid_of rows columns (take (rows * columns) values)) ≡ file_of_line line

module _ (line : List ℕ) (lent : List ℤ) (room : 2048 ≤ length lent) where
  pub line_refused : (f : Refusal) → refuses f ≡ (board_line_call line lent).answer → refusal_line f ≡ file_of_line line
  line_refused f a =
      refused_so line lent room (λ (o : Option Refusal). refusal_line f ≡ file_unless o (line_grid line)) f a
      (λ f' e. ap (λ (n : ℕ). byte_digits n ++ 10 ∷ []) e)

  module _ (rows columns : ℕ) (values : List ℤ) (k : KeepsGrid (board_line_call line lent) (gives (rows ∷ columns ∷ [])) values) where
    pub line_read : Read rows columns line values
    line_read =
        let e = accepted line lent room rows columns values k in
        let same = same-grid line lent room rows columns values k in
        record {
          taken = subst Taken (sym same) (record { passes = line_passes line e; few = (passed line e).few; whole = length_values line });
          enough = enough_values line lent room rows columns values k;
          filed = ap file_of same ∙ ap (λ (o : Option Refusal). file_unless o (line_grid line)) (sym e);
        }
