-- Where a reader of draw bytes stands after a random call (RULES 5.4). Assumes nothing.
use Rattle.std.specs.Prelude.{ℕ, ◌+◌, ◌≤◌, ◌≡◌, ◌⊎◌, Result, Ok, Err}
use Rattle.draw_reader.specs.declared.DrawReader.{DrawReader}
use Rattle.answers.specs.declared.Roll.{Roll}
use Rattle.refusals.specs.declared.Refusal.{Refusal}

-- where in so many bytes a place is: a place past the end is the end
pub record Starts (place length start : ℕ) : Type 0 where
  pub inside : start ≤ length
  pub place_or_end : (start ≡ place) ⊎ ((start ≡ length) × (length ≤ place))

-- on by the bytes used, or where it was after a refusal
abbrev pub stands_at : Result Roll Refusal → ℕ → ℕ
stands_at (Ok roll) place = place + roll.used
stands_at (Err f) place = place

-- the reader after a call: the same bytes, at the place where it stands
abbrev pub read_on : DrawReader → Result Roll Refusal → DrawReader
read_on reader r = record { bytes = reader.bytes; place = stands_at r reader.place }
