-- There is only one answer and one end of each lent run, the reader's too, for the random calls with a reader: the promises are functions. Assumes nothing.
use Prim.Native.Nat.{ℕ}
use mathlib.Core.Path.{◌≡◌, ap, sym, ◌∙◌}
use mathlib.Core.List.{List}
use Rattle.std.specs.Prelude.{Result}
use lib.IntN.{ℤ}
use Rattle.game.specs.Calls.{ListOutcome, Outcome}
use Rattle.draw_reader.specs.declared.DrawReader.{DrawReader}
use Rattle.answers.specs.Answers.{Keeps, KeepsList, rolled_answer}
use Rattle.answers.specs.declared.Roll.{Roll}
use Rattle.refusals.specs.declared.Refusal.{Refusal}
use Rattle.answers.proofs.OneAnswer.{rolled_once, searched_once}
use Rattle.reader_calls.specs.Stands.{read_on}

-- the reader stands by the answer
stands_once : (before after after' : DrawReader) (r r' : Result Roll Refusal) → after ≡ read_on before r → after' ≡ read_on before r' → r ≡ r' → after ≡ after'
stands_once before after after' r r' e e' same = e ∙ ap (read_on before) same ∙ sym e'

-- a single random round by a reader
pub round_once : (p : ListOutcome) (before : DrawReader) (r r' : Result Roll Refusal) (w w' : List ℤ) (l l' : List ℕ) (after after' : DrawReader)
    → KeepsList p (rolled_answer r) w l × (after ≡ read_on before r) → KeepsList p (rolled_answer r') w' l' × (after' ≡ read_on before r') → (r ≡ r') × (w ≡ w') × (l ≡ l') × (after ≡ after')
round_once p before r r' w w' l l' after after' k k' =
    let e = rolled_once p r r' w w' l l' k.0 k'.0 in
    (e.0, e.1, e.2, stands_once before after after' r r' k.1 k'.1 e.0)

-- random search by a reader
pub search_once : (p : Outcome) (before : DrawReader) (r r' : Result Roll Refusal) (w w' : List ℤ) (after after' : DrawReader)
    → Keeps p (rolled_answer r) w × (after ≡ read_on before r) → Keeps p (rolled_answer r') w' × (after' ≡ read_on before r') → (r ≡ r') × (w ≡ w') × (after ≡ after')
search_once p before r r' w w' after after' k k' =
    let e = searched_once p r r' w w' k.0 k'.0 in
    (e.0, e.1, stands_once before after after' r r' k.1 k'.1 e.0)
