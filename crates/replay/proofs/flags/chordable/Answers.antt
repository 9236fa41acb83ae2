-- `replay::flags::chordable`: the cell is opened and no 0-cell, so the flags and its number decide. Assumes nothing.
use Rattle.replay.proofs.Chording.{flags_decide, not_opened, zero_opened}
use Rattle.replay.proofs.flags.chordable.Goals as goal

pub returns-then-state-ne1 : goal.returns-then-state-ne1
returns-then-state-ne1 c = let a = c.args in
    λ g s old t f. not_opened a.rows a.columns g s old a.work.now a.index c.requires.has_cells.1 t c.state.result c.state.ensures.0 c.if-state-ne1.true

pub returns-then-content-eq1 : goal.returns-then-content-eq1
returns-then-content-eq1 c = let a = c.args in
    λ g s old t f. zero_opened a.rows a.columns g s old a.work.now a.index c.requires.has_cells.1 t c.state.result c.state.ensures.0
    c.content-content.result c.content-content.ensures.0 c.if-content-eq1.true

pub returns : goal.returns
returns c = let a = c.args in
    λ g s old t f. flags_decide a.rows a.columns g s old a.work.now a.index c.requires.has_cells.1 t c.state.result c.state.ensures.0 f c.if-state-ne1.false
    c.content-content.result c.saturating_sub-number.result c.flags_square-flags.result c.content-content.ensures.0 c.if-content-eq1.false c.saturating_sub-number.ensures c.flags_square-flags.ensures
