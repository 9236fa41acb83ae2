-- `replay::runs::run`: so far the list was played as its replay goes; a refused move stops both. Assumes nothing.
use mathlib.Core.Path.{◌≡◌}
use lib.ListN.{length, take}
use Rattle.replay.proofs.Running.{ReplayMidway}
use Rattle.replay.proofs.runs.run.Given as goal

abbrev pub invariant-loop-place : goal.invariant-loop-place
invariant-loop-place l =
    (length l.work ≡ length l.initial.work) × ReplayMidway l.rows l.columns l.initial.work (take l.count l.list) l.safe l.place l.left l.work
