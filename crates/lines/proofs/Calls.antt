-- What reading a board line comes to, by the refusal of its checks and the room in the lent run. Assumes nothing.
use Prim.Native.Nat.{ℕ, ◌<◌, ◌≤◌}
use mathlib.Core.Path.{◌≡◌, sym, ◌∙◌}
use mathlib.Core.Bool.{Bool, true, false}
use mathlib.Core.List.{List, [], ◌∷◌, ◌++◌}
use mathlib.Core.Option.{Option, none, some}
use lib.Dec.{ltb}
use lib.IntN.{ℤ}
use lib.ListN.{length}
use borrow.Author.Tests.{le-ltb, lt-ltb}
use Rattle.game.specs.Grid.{size}
use Rattle.game.specs.Area.{begun}
use Rattle.game.specs.Calls.{Refusal, board, first_given, gives, refuses}
use Rattle.game.proofs.Checks.{given_append, or_else}
use Rattle.lines.specs.BoardLine.{board_line_call, board_line_checks, line_grid, line_refusal, cells_check}
use Rattle.lines.specs.Answers.{KeepsGrid}
use Rattle.lines.proofs.Outputs.{grid_else, grid_refused}

-- the verdict of one check by its test
abbrev alone : Refusal → Bool → Option Refusal
alone f b = first_given (record { given = b; refusal = f } ∷ [])

module _ (line : List ℕ) (lent : List ℤ) where
  -- the checks of the line, then the room
  by : (o : Option Refusal) (b : Bool) → o ≡ line_refusal line → b ≡ ltb (length lent) (size (line_grid line))
      → or_else o (alone board b) ≡ first_given (board_line_checks line ++ cells_check (line_grid line) lent ∷ [])
  unfolding line_refusal
  by o b e f = (λ i. or_else (e i) (alone board (f i))) ∙ sym (given_append (board_line_checks line) (cells_check (line_grid line) lent ∷ []))

  pub board_refused : (f : Refusal) → some f ≡ line_refusal line → KeepsGrid (board_line_call line lent) (refuses f) lent
  unfolding board_line_call or_else
  board_refused f e = grid_refused _ lent _ f (by (some f) _ e (λ i. ltb (length lent) (size (line_grid line))))

  pub board_short : line_refusal line ≡ none → length lent < size (line_grid line) → KeepsGrid (board_line_call line lent) (refuses board) lent
  unfolding board_line_call or_else
  board_short e h = grid_refused _ lent _ board (by none true (sym e) (sym (lt-ltb (length lent) (size (line_grid line)) h)))

  pub board_read : (new : List ℤ) (rows columns : ℕ) → line_refusal line ≡ none → size (line_grid line) ≤ length lent → rows ≡ (line_grid line).rows → columns ≡ (line_grid line).columns
      → new ≡ begun (line_grid line).values lent → KeepsGrid (board_line_call line lent) (gives (rows ∷ columns ∷ [])) new
  unfolding board_line_call or_else
  board_read new rows columns e h r c q =
      grid_else _ lent _ (gives (rows ∷ columns ∷ [])) new (by none false (sym e) (sym (le-ltb (length lent) (size (line_grid line)) h))) (λ i. gives (r i ∷ c i ∷ [])) q
