-- There is only one answer and one end content of each lent run for the board reader's calls: the promises are functions, and what is given is read back from its values. Assumes nothing.
use Prim.Native.Nat.{ℕ}
use mathlib.Core.Path.{◌≡◌, refl, sym, ◌∙◌}
use mathlib.Core.List.{List, [], ◌∷◌}
use lib.ListN.{get_or}
use Rattle.std.specs.Prelude.{Result}
use Rattle.refusals.proofs.ReadBack.{answer_same}
use Rattle.refusals.specs.declared.Refusal.{Refusal}
use Rattle.line_prices.specs.Blocks.{DeskOutcome}
use Rattle.line_prices.specs.Answers.{KeepsDesk, answered_answer}
use Rattle.line_prices.specs.declared.block.Place.{Place}

answered_same : (r r' : Result Place Refusal) → answered_answer r ≡ answered_answer r' → r ≡ r'
answered_same = answer_same (λ (p : Place). p.count ∷ p.written ∷ []) (λ vs. record { count = get_or vs 0 0; written = get_or vs 1 0 }) (λ p. refl)

-- a block, and the end of input
pub block_once : (p : DeskOutcome) (r r' : Result Place Refusal) (held held' out out' : List ℕ) → KeepsDesk p (answered_answer r) held out → KeepsDesk p (answered_answer r') held' out' → (r ≡ r') × (held ≡ held') × (out ≡ out')
block_once p r r' held held' out out' k k' = (answered_same r r' (k.answers ∙ sym k'.answers), k.keeps ∙ sym k'.keeps, k.prints ∙ sym k'.prints)
