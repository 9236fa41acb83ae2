-- A replay by what it comes to. Assumes nothing.
use Prim.Native.Nat.{ℕ}
use mathlib.Core.Path.{◌≡◌, ◌∙◌, ap}
use mathlib.Core.List.{List, [], ◌∷◌}
use lib.IntN.{ℤ}
use Rattle.game.specs.Grid.{Grid}
use Rattle.game.specs.Position.{Position}
use Rattle.game.specs.Moves.{Replayed, whole, stopped}
use Rattle.game.specs.Area.{area_of}
use Rattle.game.specs.Calls.{gives, replayed}
use Rattle.area.specs.Stages.{Moving}
use Rattle.replay.specs.Replays.{Replaying}
use Rattle.std.specs.Prelude.{Result}
use Rattle.replay.specs.declared.runs.Stopped.{Stopped}
use Rattle.replay.specs.declared.runs.Whole.{Whole}
use Rattle.answers.specs.Answers.{Keeps, replayed_answer}
use Rattle.replay_call.specs.Answered.{answered}

pub replay_kept : (rows columns : ℕ) (g : Grid) (old w w' : List ℤ) (n : ℕ) (o : Replayed) (r : Result Whole Stopped) → Replaying rows columns g old o r w
    → ((s : Position) → Moving rows columns g s old w → w' ≡ area_of g s old) → Keeps (replayed g n o old) (replayed_answer (answered n r)) w'
replay_kept rows columns g old w w' n (whole t) r k f =
    record { answers = ap (λ (x : Result Whole Stopped). replayed_answer (answered n x)) k.answer ∙ (λ i. gives (n ∷ k.closed_are i ∷ k.ending_is i ∷ [])); leaves = f t k.moving }
replay_kept rows columns g old w w' n (stopped p t) r k f =
    record { answers = ap (λ (x : Result Whole Stopped). replayed_answer (answered n x)) k.answer; leaves = f t k.moving }
