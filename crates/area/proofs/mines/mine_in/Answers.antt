-- `area::mines::mine_in`: the value at a row and a column is that of their cell. Assumes nothing.
use mathlib.Core.Path.{◌∙◌}
use Rattle.area.proofs.Cells.{mine_here}
use Rattle.area.proofs.mines.mine_in.Goals.{Start}
use Rattle.area.proofs.mines.mine_in.Goals as goal

pub returns : goal.returns
returns c =
    let a = c.args in
    c.mine_at.ensures ∙ mine_here a.rows a.columns a.grid.now a.row a.column c.requires.columns_in_bounds.1
