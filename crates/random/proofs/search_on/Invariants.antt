-- `random::search_on`: so far the rounds are those of the definition; one fewer is left after each, no more are played than can be, and a key has room for them. Assumes nothing.
use Prim.Native.Nat.{◌*◌, ◌+◌, ◌-◌, ◌≤◌, ◌^◌}
use mathlib.Core.Path.{◌≡◌}
use lib.ListN.{length}
use Rattle.draws.specs.Answers.{mode_of}
use Rattle.supplies.specs.Origins.{KeyRoom}
use Rattle.random.proofs.Searches.{SearchMidway}
use Rattle.random.proofs.Turns.{turns_of}
use Rattle.random.proofs.search_on.Given as goal

abbrev pub invariant-loop : goal.invariant-loop
invariant-loop l =
    (length l.work ≡ length l.initial.work) × SearchMidway l.rows l.columns l.initial.work (mode_of l.mode) l.draws l.units l.initial.best l.more l.work l.best (l.more - l.counter)
    × KeyRoom (2 ^ 24 * (l.more - l.counter)) l.best.supply
    × (turns_of (length l.draws) l.best.supply (l.more - l.counter) + l.counter ≤ turns_of (length l.draws) l.initial.best.supply l.more)
