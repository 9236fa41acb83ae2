-- `hex_digits::put_two`: the high byte's digits, then the low one's. Assumes nothing.
use native.Mathlib.Omega.{arith}
use Rattle.hex_digits.proofs.Bytes.{two_there}
use Rattle.hex_digits.proofs.put_two.Goals as goal

pub returns : goal.returns
returns c =
    let a = c.args in
    two_there a.out.now _ _ a.at a.number _ _ c.put_byte.ensures c.put_byte-2.ensures (omega arith) (omega arith)
