-- The file of a grid: how long it is, and what writing it comes to by the checks and the room. Assumes nothing.
use Prim.Native.Nat.{ℕ, ◌+◌, ◌*◌, ◌/◌, ◌%◌, ◌<◌, ◌≤◌}
use native.Mathlib.Omega.{arith}
use mathlib.Core.Path.{◌≡◌, ap, ◌∙◌}
use mathlib.Core.List.{List, [], ◌∷◌}
use mathlib.Core.Option.{none, some}
use lib.IntN.{ℤ}
use lib.ListN.{length}
use lib.Seq.{sets}
use Rattle.game.specs.Grid.{Grid, size}
use Rattle.game.specs.Area.{begun}
use Rattle.game.specs.Calls.{Refusal, board, board_checks, first_given, gives, refuses}
use Rattle.area.specs.Numbers.{grid_of}
use Rattle.area.specs.Stages.{Shape}
use Rattle.area.proofs.Cells.{cells_few}
use Rattle.hex_digits.proofs.Bytes.{sets_begun, sets_more}
use Rattle.checks.proofs.More.{enough, first_stands, too_low}
use Rattle.lines.specs.Outputs.{KeepsRun}
use Rattle.lines.proofs.Outputs.{run_else, run_refused}
use Rattle.mbf_form.specs.Form.{file_of, head_bytes}
use Rattle.mbf_form.specs.Calls.{output_check, write_file_call}
use Rattle.mbf_write.specs.Mines.{bytes_from, mines_from}
use Rattle.mbf_write.proofs.Mines.{mines_few, two_each}

-- how many mines a grid has
abbrev pub mines : Grid → ℕ
mines g = length (mines_from g 0 (size g))

-- no more than 65025
pub mines_fit : (rows columns : ℕ) (vs : List ℤ) → Shape rows columns → mines (grid_of rows columns vs) ≤ 65025
mines_fit rows columns vs s = omega (arith, mines_few (grid_of rows columns vs) 0 (rows * columns), cells_few rows columns s)

length_file : (g : Grid) → length (file_of g) ≡ 4 + 2 * mines g
unfolding file_of mines_from
length_file g = omega (arith, two_each g (mines_from g 0 (size g)))

-- the head and the mines put one after the other
pub file_there : (g : Grid) (n : ℕ) (old new : List ℕ) → n ≡ mines g → n ≤ 65025 → 4 + 2 * n ≤ length old → new ≡ sets (sets old 0 (g.columns ∷ g.rows ∷ n / 256 ∷ n % 256 ∷ [])) 4 (bytes_from g 0 (size g))
    → new ≡ begun (file_of g) old
unfolding file_of mines_from
file_there g n old new e h room f =
    let high : n / 256 ≡ n / 256 % 256 = omega arith in
    f
    ∙ ap (λ (b : ℕ). sets (sets old 0 (g.columns ∷ g.rows ∷ b ∷ n % 256 ∷ [])) 4 (bytes_from g 0 (size g))) high
    ∙ ap (λ (m : ℕ). sets (sets old 0 (g.columns ∷ g.rows ∷ m / 256 % 256 ∷ m % 256 ∷ [])) 4 (bytes_from g 0 (size g))) e
    ∙ sets_more old 0 4 (head_bytes g) (bytes_from g 0 (size g)) (omega arith)
    ∙ sets_begun (file_of g) old (omega (arith, length_file g))

-- ---- what writing comes to

module _ (g : Grid) (lent : List ℕ) where
  pub file_refused : (f : Refusal) → some f ≡ first_given (board_checks g) → KeepsRun (write_file_call g lent) (refuses f) lent
  unfolding write_file_call
  file_refused f e = run_refused _ lent _ f (first_stands (board_checks g) (output_check g lent ∷ []) f e)

  module _ (fine : none ≡ first_given (board_checks g)) (n : ℕ) (counted : n ≡ mines g) where
    pub file_short : length lent < 4 + 2 * n → KeepsRun (write_file_call g lent) (refuses board) lent
    unfolding write_file_call
    file_short h = run_refused _ lent _ board (too_low (board_checks g) (length lent) (length (file_of g)) board fine (omega (arith, length_file g)))

    pub file_kept : (run : List ℕ) → 4 + 2 * n ≤ length lent → run ≡ begun (file_of g) lent → KeepsRun (write_file_call g lent) (gives ((4 + 2 * n) ∷ [])) run
    unfolding write_file_call
    file_kept run h w =
        let e : 4 + 2 * n ≡ length (file_of g) = omega (arith, length_file g) in
        run_else _ lent _ (gives ((4 + 2 * n) ∷ [])) run (enough (board_checks g) (length lent) (length (file_of g)) board fine (omega arith)) (λ i. gives (e i ∷ [])) w
