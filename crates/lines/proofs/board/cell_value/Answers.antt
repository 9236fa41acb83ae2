-- `lines::board::cell_value`: -1 for a mine bit, 0 for another. Assumes nothing.
use mathlib.Core.Path.{ap, sym, ◌∙◌}
use Rattle.lines.specs.BoardLine.{value_of}
use Rattle.lines.proofs.board.cell_value.Goals as goal

pub returns-then-mine_bit : goal.returns-then-mine_bit
returns-then-mine_bit c = ap value_of (sym c.if-mine_bit.true ∙ c.mine_bit.ensures)

pub returns-else-mine_bit : goal.returns-else-mine_bit
returns-else-mine_bit c = ap value_of (sym c.if-mine_bit.false ∙ c.mine_bit.ensures)
