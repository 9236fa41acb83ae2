-- Each answer of a public call on lines by its number and values (RULES 8, 9). Assumes nothing.
use Rattle.std.specs.Prelude.{◌≡◌, List, [], ◌∷◌, ℤ, Result}
use Rattle.game.specs.Calls.{Answer}
use Rattle.refusals.specs.Names.{answer_of}
use Rattle.refusals.specs.declared.Refusal.{Refusal}
use Rattle.lines.specs.BoardLine.{GridOutcome}
use Rattle.lines.specs.declared.board.Board as Boards

-- a board line: 0, rows and columns, or the refusal's number alone
abbrev pub board_answer : Result Boards.Board Refusal → Answer
board_answer = answer_of (λ (b : Boards.Board). b.rows ∷ b.columns ∷ [])

-- reading a board line keeps its promise
pub record KeepsGrid (promise : GridOutcome) (answer : Answer) (values : List ℤ) : Type 0 where
  pub answers : answer ≡ promise.answer
  pub leaves : values ≡ promise.values
