-- `mbf_read::numbers::mine_value`: -1 where the bit is set, 0 where it is not. Assumes nothing.
use mathlib.Core.Path.{ap, sym, ◌∙◌}
use Rattle.lines.specs.BoardLine.{value_of}
use Rattle.mbf_read.proofs.numbers.mine_value.Goals as goal

pub returns-then-is_set : goal.returns-then-is_set
returns-then-is_set c = ap value_of (sym c.if-is_set.true ∙ c.is_set.ensures)

pub returns : goal.returns
returns c = ap value_of (sym c.if-is_set.false ∙ c.is_set.ensures)
