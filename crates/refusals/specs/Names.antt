-- The refusals of the code by the rules' names. Assumes nothing.
use Rattle.std.specs.Prelude.{ℕ, List, Result, Ok, Err}
use Rattle.std.proofs.Math.Option.{Option, none, some}
use Rattle.game.specs.Calls.{Answer, board, draws, file_wrong, frame, gives, key_blank, move, number_wrong, refuses, rounds, shape, size_over, trace, work}
use Rattle.game.specs.Calls as Game
use Rattle.refusals.specs.declared.Refusal.{Refusal}
use Rattle.refusals.specs.declared.Refusal.TheVariants.{Shape, Board, Work, Trace, Rounds, Draws, Move, Frame, Size, File, Number, Key}

-- the refusal of that name
abbrev pub named : Refusal → Game.Refusal
named Shape = shape
named Board = board
named Work = work
named Trace = trace
named Rounds = rounds
named Draws = draws
named Move = move
named Frame = frame
named Size = size_over
named File = file_wrong
named (Number cell) = number_wrong cell
named Key = key_blank

-- the refusal that is given, if any
abbrev pub refusal_of : {A : Type 0} → Result A Refusal → Option Game.Refusal
refusal_of (Ok x) = none
refusal_of (Err f) = some (named f)

-- a call's answer: 0 and the values of what it gives, or the refusal's number and what it names
abbrev pub answer_of : {A : Type 0} → (A → List ℕ) → Result A Refusal → Answer
answer_of values (Ok x) = gives (values x)
answer_of values (Err f) = refuses (named f)
