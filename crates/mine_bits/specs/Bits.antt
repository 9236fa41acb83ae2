-- A bit that is not set is set: its weight is added to its byte; one that is set stays. Assumes nothing.
use Rattle.std.specs.Prelude.{ℕ, ◌+◌, ◌-◌, ◌/◌, ◌%◌, ◌^◌, ◌≡◌, Bool, cond, not, List, get_or, set}
use Rattle.lines.specs.BoardLine.{bit_at}

-- the bits with the one at a place set, which was not
unfoldable pub with_bit : List ℕ → ℕ → List ℕ
with_bit bits at = set bits (at / 8) (get_or bits (at / 8) 0 + 2 ^ (7 - at % 8))

-- a bit is set where it was not; else nothing changes, and that is answered
pub record SetNew (before : List ℕ) (at : ℕ) (new : Bool) (after : List ℕ) : Type 0 where
  pub answers : new ≡ not (bit_at before at)
  pub leaves : after ≡ cond new (with_bit before at) before
