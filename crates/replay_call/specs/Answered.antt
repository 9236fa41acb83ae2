-- What a replay that was played answers. Assumes nothing.
use Rattle.std.specs.Prelude.{ℕ, Result, Ok, Err}
use Rattle.replay.specs.declared.runs.Stopped.{Stopped}
use Rattle.replay.specs.declared.runs.Whole.{Whole}
use Rattle.answers.specs.declared.Played.{Played}
use Rattle.answers.specs.declared.Unplayed.{Unplayed}
use Rattle.answers.specs.declared.Unplayed.TheVariants as Unplays

-- what a replay of count moves answers
abbrev pub answered : ℕ → Result Whole Stopped → Result Played Unplayed
answered count (Ok played) = Ok (record { made = count; closed = played.closed; ending = played.ending })
answered count (Err bad) = Err (Unplays.Move bad.place)
