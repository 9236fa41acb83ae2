-- `mbf_read::numbers::put_number`: a mine's value stays, a number is stored as itself. Assumes nothing.
use native.Mathlib.Omega.{arith}
use mathlib.Core.Path.{ap, sym, ◌∙◌}
use mathlib.Core.Bool.{Bool, cond}
use lib.IntN.{pos}
use lib.ListN.{set}
use Rattle.mbf_read.proofs.Filling.{number_stored}
use Rattle.mbf_read.proofs.numbers.put_number.Goals as goal

pub returns : goal.returns
returns c =
    let a = c.args in
    let put = set a.grid.now a.at (pos a.number) in
    ap (set a.grid.now a.at) (number_stored a.number (omega arith)) ∙ ap (λ (b : Bool). cond b a.grid.now put) (sym c.if-mine.false)
