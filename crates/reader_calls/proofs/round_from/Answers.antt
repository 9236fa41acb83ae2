-- `reader_calls::round_from`: the covered round on the part from the place on. Assumes nothing.
use mathlib.Core.Path.{subst}
use mathlib.Core.List.{List}
use Prim.Native.Nat.{ℕ, ◌<◌, ◌^◌}
use native.Mathlib.Omega.{arith}
use lib.ListN.{length}
use Rattle.game.specs.Calls.{random_round_call}
use Rattle.draws.specs.Answers.{mode_of}
use Rattle.area.specs.Numbers.{grid_of}
use Rattle.answers.specs.Answers.{KeepsList, rolled_answer}
use Rattle.reader_calls.proofs.Within.{from_place, round_fits}
use Rattle.reader_calls.proofs.round_from.Goals as goal

pub returns : goal.returns
returns c =
    let a = c.args in
    let start = c.start_at-start in
    let rolled = c.random_round in
    let g = grid_of a.rows a.columns a.grid.now in
    let k = subst (λ (l : List ℕ). KeepsList (random_round_call (mode_of a.mode) g a.work.now a.list.now l) (rolled_answer rolled.result) rolled.new.work rolled.new.list)
    (from_place a.bytes.now a.place start.result start.ensures) rolled.ensures in
    let fits : length a.bytes.now < 2 ^ 64 = omega arith in
    (k, round_fits rolled.result a.place a.bytes.now c.ranges.place.fits fits (mode_of a.mode) g a.work.now a.list.now k.answers)
