-- `stored::fill_list`: the moves passed stand in the list. Assumes nothing.
use Prim.Native.Nat.{◌-◌, ◌≤◌}
use mathlib.Core.Path.{◌≡◌}
use lib.ListN.{length, take}
use Rattle.game.specs.Area.{begun}
use Rattle.stored.proofs.Words.{words_in}
use Rattle.stored.proofs.fill_list.Given as goal

abbrev pub invariant-loop-k : goal.invariant-loop-k
invariant-loop-k l = (l.k ≤ l.count) × (length l.list ≡ length l.initial.list) × (l.list ≡ begun (take l.k (words_in l.line)) l.initial.list)

abbrev pub decreases-loop-k : goal.decreases-loop-k
decreases-loop-k l = l.count - l.k
