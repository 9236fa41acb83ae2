-- `moves::single::flag_mine`: a safe cell and a flagged mine are left; any other mine is flagged, noted as F. Assumes nothing.
use Rattle.moves.proofs.Flags.{flag_noted, flag_safe, flag_there}
use Rattle.moves.proofs.single.flag_mine.Goals as goal

pub returns-then-content-ne0-clause-over : goal.returns-then-content-ne0-clause-over
returns-then-content-ne0-clause-over c =
    let a = c.args in
    flag_safe a.rows a.columns a.work.now a.list.now a.state a.index c.requires.has_cells.1 c.content.result c.content.ensures.0 c.if-content-ne0.true

pub returns-then-state-eq2-clause-over : goal.returns-then-state-eq2-clause-over
returns-then-state-eq2-clause-over c =
    let a = c.args in
    flag_there a.rows a.columns a.work.now a.list.now a.state a.index c.requires.has_cells.1 c.state.result c.state.ensures.0 c.if-state-eq2.true

pub returns-clause-over : goal.returns-clause-over
returns-clause-over c =
    let a = c.args in
    flag_noted a.rows a.columns a.work.now a.list.now a.state a.index c.requires.has_cells.1 c.content.result c.state.result c.flag.new.work c.carry_on.new.list
    c.carry_on.result c.content.ensures.0 c.if-content-ne0.false c.state.ensures.0 c.if-state-eq2.false c.flag.ensures (rw c.from.ensures at c.carry_on.ensures)
