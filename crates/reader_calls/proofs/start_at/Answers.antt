-- `reader_calls::start_at`: the fewer of the two is the place, or the end where the place is past it. Assumes nothing.
use Rattle.std.proofs.Common.{ℕ, ◌≡◌, min, inl, inr, arith}
use native.Mathlib.Decide.{dec_le}
use Rattle.reader_calls.specs.Stands.{Starts}
use Rattle.reader_calls.proofs.start_at.Goals as goal

fewer_starts : (place length r : ℕ) → r ≡ min place length → Starts place length r
fewer_starts place length r e =
    record {
      inside = omega (arith, e);
      place_or_end = elim (dec_le place length) [ yes l ↦ inl (omega (arith, e, l)) | no n ↦ inr (omega (arith, e), omega arith) ];
    }

pub returns : goal.returns
returns c = fewer_starts _ _ _ c.min.ensures
