-- `Square::around`: nothing has been given yet. Assumes nothing.
use Rattle.squares.proofs.Cells.{whole_square}
use Rattle.squares.proofs.Square.around.Goals as goal

pub returns : goal.returns
returns c = let a = c.args in
    rw c.saturating_sub.ensures (rw c.min.ensures (rw c.saturating_sub-from.ensures (rw c.min-2.ensures (whole_square a.rows a.columns a.index c.requires.index_bound))))
