-- `early::looks::zero_near`: no cell passed is a 0-cell. Assumes nothing.
use mathlib.Core.Path.{◌≡◌}
use mathlib.Core.Bool.{false}
use Rattle.game.specs.Lists.{some_of}
use Rattle.squares.proofs.Going.{Going}
use Rattle.early.specs.Looks.{zero_at}
use Rattle.early.proofs.looks.zero_near.Given as goal

abbrev pub invariant-loop-near : goal.invariant-loop-near
invariant-loop-near l = Going l.rows l.columns l.index l.yielded l.near-iterator × (some_of (zero_at l.work) l.yielded ≡ false)
