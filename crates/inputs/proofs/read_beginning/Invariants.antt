-- `inputs::read_beginning`: the bytes that stand have no line feed that was asked for. Assumes nothing.
use Rattle.std.proofs.Common.{length, ◌≤◌, ◌≡◌, take, false}
use Rattle.inputs.specs.Beginnings.{line_ends}
use Rattle.inputs.proofs.read_beginning.Given as goal

abbrev pub invariant-loop : goal.invariant-loop
invariant-loop l = record { in_range : l.count ≤ length l.held; none : line_ends l.line (take l.count l.held) ≡ false }
