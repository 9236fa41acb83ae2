-- `stored::put_words`: the moves passed have their digits. Assumes nothing.
use Prim.Native.Nat.{◌-◌, ◌≤◌}
use mathlib.Core.Path.{◌≡◌}
use lib.ListN.{length, take}
use lib.Seq.{sets}
use Rattle.stored.specs.MoveLine.{word_digits}
use Rattle.stored.proofs.put_words.Given as goal

abbrev pub invariant-loop-k : goal.invariant-loop-k
invariant-loop-k l = (l.k ≤ l.count) × (length l.line ≡ length l.initial.line) × (l.line ≡ sets l.initial.line 4 (word_digits (take l.k l.list)))

abbrev pub decreases-loop-k : goal.decreases-loop-k
decreases-loop-k l = l.count - l.k
