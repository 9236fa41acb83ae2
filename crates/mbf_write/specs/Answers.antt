-- The answer of writing an MBF file by its number and values (RULES 13). Assumes nothing.
use Rattle.std.specs.Prelude.{ℕ, [], ◌∷◌, Result}
use Rattle.game.specs.Calls.{Answer}
use Rattle.refusals.specs.Names.{answer_of}
use Rattle.refusals.specs.declared.Refusal.{Refusal}

-- a file written: 0 and how many bytes, or the refusal's number alone
abbrev pub file_written_answer : Result ℕ Refusal → Answer
file_written_answer = answer_of (λ (n : ℕ). n ∷ [])
