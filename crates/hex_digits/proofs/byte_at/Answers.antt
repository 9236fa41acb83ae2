-- `hex_digits::byte_at`: sixteen times the high digit and the low one. Assumes nothing.
use native.Mathlib.Omega.{arith}
use Rattle.hex_digits.proofs.Bytes.{byte_here}
use Rattle.hex_digits.proofs.byte_at.Goals as goal

pub returns : goal.returns
returns c =
    let a = c.args in
    let e = byte_here a.line.now a.at (omega arith) in
    let h = c.value_of-high.ensures in
    let l = c.value_of-low.ensures in
    (omega arith, omega arith)
