-- Each answer of a call on stored move lists by its number and values (RULES 9.4, 9.5). Assumes nothing.
use Rattle.std.specs.Prelude.{ℕ, [], ◌∷◌, Result}
use Rattle.game.specs.Calls.{Answer}
use Rattle.refusals.specs.Names.{answer_of}
use Rattle.refusals.specs.declared.Refusal.{Refusal}
use Rattle.stored.specs.declared.Moves.{Moves}

-- a stored line read: 0, rows, columns and how many moves, or the refusal's number alone
abbrev pub read_answer : Result Moves Refusal → Answer
read_answer = answer_of (λ (m : Moves). m.rows ∷ m.columns ∷ m.count ∷ [])

-- a line written: 0 and how many digits, or the refusal's number alone
abbrev pub written_answer : Result ℕ Refusal → Answer
written_answer = answer_of (λ (n : ℕ). n ∷ [])
