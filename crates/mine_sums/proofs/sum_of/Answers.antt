-- `mine_sums::sum_of`: what is above, here and below. Assumes nothing.
use native.Mathlib.Omega.{arith}
use Rattle.area.specs.Numbers.{grid_of}
use Rattle.mine_sums.proofs.Columns.{column_three}
use Rattle.mine_sums.proofs.sum_of.Goals as goal

pub returns : goal.returns
returns c =
    let a = c.args in
    column_three (grid_of a.rows a.columns a.grid.now) a.row a.column c.mine_above-above.result c.mine_below-below.result a.own (omega arith)
    c.mine_above-above.ensures.0 c.requires.own_value c.mine_below-below.ensures.0
