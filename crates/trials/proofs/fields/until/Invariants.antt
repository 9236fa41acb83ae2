-- `trials::fields::until`: no byte passed is the mark. Assumes nothing.
use Rattle.std.proofs.Common.{◌≡◌, ◌+◌, drop}
use Rattle.trials.specs.Text.{before}
use Rattle.trials.proofs.fields.until.Given as goal

abbrev pub invariant-loop-ahead : goal.invariant-loop-ahead
invariant-loop-ahead l = l.ahead + before l.mark (drop l.ahead l.rest) ≡ before l.mark l.rest
