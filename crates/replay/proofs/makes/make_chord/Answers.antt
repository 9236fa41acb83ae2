-- `replay::makes::make_chord`: a chord that may not be played is refused; else the cells of the square are clicked. Assumes nothing.
use Rattle.replay.proofs.Making.{chord_played}
use Rattle.replay.proofs.makes.make_chord.Goals as goal

pub returns : goal.returns
returns c = let a = c.args in
    let n = c.chordable in
    let q = c.click_square-shown in
    let p = c.click_square-chorded in
    λ g s old t f k. chord_played a.rows a.columns g s old a.work.now a.index c.requires.has_cells.1 t n.result a.left q.result p.result q.new.work p.new.work
    (n.ensures g s old t f) c.if-not-chordable.false q.ensures p.ensures k
