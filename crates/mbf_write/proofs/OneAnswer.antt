-- There is only one answer and one end content of the lent run when an MBF file is written: the promise is a function, and what is given is read back from its values. Assumes nothing.
use Prim.Native.Nat.{ℕ}
use mathlib.Core.Path.{◌≡◌, refl, sym, ◌∙◌}
use mathlib.Core.List.{List, [], ◌∷◌}
use lib.ListN.{get_or}
use Rattle.std.specs.Prelude.{Result}
use Rattle.refusals.proofs.ReadBack.{answer_same}
use Rattle.refusals.specs.declared.Refusal.{Refusal}
use Rattle.lines.specs.Outputs.{KeepsRun, RunOutcome}
use Rattle.mbf_write.specs.Answers.{file_written_answer}

-- what is given is read back
file_written_same : (r r' : Result ℕ Refusal) → file_written_answer r ≡ file_written_answer r' → r ≡ r'
file_written_same = answer_same (λ (n : ℕ). n ∷ []) (λ vs. get_or vs 0 0) (λ n. refl)

-- one answer and one end of the lent run
pub file_written_once : (p : RunOutcome) (r r' : Result ℕ Refusal) (l l' : List ℕ) → KeepsRun p (file_written_answer r) l → KeepsRun p (file_written_answer r') l' → (r ≡ r') × (l ≡ l')
file_written_once p r r' l l' k k' = (file_written_same r r' (k.answers ∙ sym k'.answers), k.leaves ∙ sym k'.leaves)
