-- `trials::fields::number_from`: each digit adds to the number, and another byte ends it. Assumes nothing.
use Rattle.std.proofs.Common.{◌≡◌, drop}
use Rattle.trials.specs.Text.{digits_on}
use Rattle.trials.proofs.fields.number_from.Given as goal

abbrev pub invariant-loop-byte : goal.invariant-loop-byte
invariant-loop-byte l = digits_on l.value (drop l.byte-index l.text) ≡ digits_on 0 l.text
