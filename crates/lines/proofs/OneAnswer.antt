-- There is only one answer and one end content of each lent run for the calls on board lines: the promises are functions, and what is given is read back from its values. Assumes nothing.
use mathlib.Core.Path.{◌≡◌, refl, sym, ◌∙◌}
use mathlib.Core.List.{List, [], ◌∷◌}
use lib.IntN.{ℤ}
use lib.ListN.{get_or}
use Rattle.std.specs.Prelude.{Result}
use Rattle.refusals.proofs.ReadBack.{answer_same}
use Rattle.refusals.specs.declared.Refusal.{Refusal}
use Rattle.lines.specs.BoardLine.{GridOutcome}
use Rattle.lines.specs.Answers.{KeepsGrid, board_answer}
use Rattle.lines.specs.declared.board.Board as Boards

board_same : (r r' : Result Boards.Board Refusal) → board_answer r ≡ board_answer r' → r ≡ r'
board_same = answer_same (λ (b : Boards.Board). b.rows ∷ b.columns ∷ []) (λ vs. record { rows = get_or vs 0 0; columns = get_or vs 1 0 }) (λ b. refl)

-- a board line read
pub board_once : (p : GridOutcome) (r r' : Result Boards.Board Refusal) (v v' : List ℤ) → KeepsGrid p (board_answer r) v → KeepsGrid p (board_answer r') v' → (r ≡ r') × (v ≡ v')
board_once p r r' v v' k k' = (board_same r r' (k.answers ∙ sym k'.answers), k.leaves ∙ sym k'.leaves)
