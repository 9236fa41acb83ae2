-- `reader_calls::search_from`: the covered search on the part from the place on. Assumes nothing.
use mathlib.Core.Path.{subst}
use mathlib.Core.List.{List}
use Prim.Native.Nat.{ℕ, ◌<◌, ◌^◌}
use native.Mathlib.Omega.{arith}
use lib.ListN.{length}
use Rattle.game.specs.Calls.{random_search_call}
use Rattle.draws.specs.Answers.{mode_of}
use Rattle.area.specs.Numbers.{grid_of}
use Rattle.answers.specs.Answers.{Keeps, rolled_answer}
use Rattle.reader_calls.proofs.Within.{from_place, search_fits}
use Rattle.reader_calls.proofs.search_from.Goals as goal

pub returns : goal.returns
returns c =
    let a = c.args in
    let start = c.start_at-start in
    let rolled = c.random_search in
    let g = grid_of a.rows a.columns a.grid.now in
    let k = subst (λ (l : List ℕ). Keeps (random_search_call (mode_of a.mode) g a.work.now l a.rounds) (rolled_answer rolled.result) rolled.new.work)
    (from_place a.bytes.now a.place start.result start.ensures) rolled.ensures in
    let fits : length a.bytes.now < 2 ^ 64 = omega arith in
    (k, search_fits rolled.result a.place a.bytes.now c.ranges.place.fits fits (mode_of a.mode) g a.work.now a.rounds k.answers)
