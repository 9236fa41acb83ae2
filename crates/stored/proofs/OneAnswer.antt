-- There is only one answer and one end content of the lent run for the calls on stored move lists: the promises are functions, and what is given is read back from its values. Assumes nothing.
use Prim.Native.Nat.{ℕ}
use mathlib.Core.Path.{◌≡◌, refl, sym, ◌∙◌}
use mathlib.Core.List.{List, [], ◌∷◌}
use lib.ListN.{get_or}
use Rattle.std.specs.Prelude.{Result}
use Rattle.refusals.proofs.ReadBack.{answer_same}
use Rattle.refusals.specs.declared.Refusal.{Refusal}
use Rattle.lines.specs.Outputs.{KeepsRun, RunOutcome}
use Rattle.stored.specs.Answers.{read_answer, written_answer}
use Rattle.stored.specs.declared.Moves.{Moves}

-- ---- what is given is read back

read_same : (r r' : Result Moves Refusal) → read_answer r ≡ read_answer r' → r ≡ r'
read_same = answer_same (λ (m : Moves). m.rows ∷ m.columns ∷ m.count ∷ []) (λ vs. record { rows = get_or vs 0 0; columns = get_or vs 1 0; count = get_or vs 2 0 }) (λ m. refl)

written_same : (r r' : Result ℕ Refusal) → written_answer r ≡ written_answer r' → r ≡ r'
written_same = answer_same (λ (n : ℕ). n ∷ []) (λ vs. get_or vs 0 0) (λ n. refl)

-- ---- one answer and one end of the lent run

-- a stored line read
pub read_once : (p : RunOutcome) (r r' : Result Moves Refusal) (l l' : List ℕ) → KeepsRun p (read_answer r) l → KeepsRun p (read_answer r') l' → (r ≡ r') × (l ≡ l')
read_once p r r' l l' k k' = (read_same r r' (k.answers ∙ sym k'.answers), k.leaves ∙ sym k'.leaves)

-- a line written
pub written_once : (p : RunOutcome) (r r' : Result ℕ Refusal) (l l' : List ℕ) → KeepsRun p (written_answer r) l → KeepsRun p (written_answer r') l' → (r ≡ r') × (l ≡ l')
written_once p r r' l l' k k' = (written_same r r' (k.answers ∙ sym k'.answers), k.leaves ∙ sym k'.leaves)
