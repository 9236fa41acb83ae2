-- `draws::draw`: without a choice no word is read; otherwise the words left decide, of which there are none past the end. Assumes nothing.
use native.Mathlib.Omega.{arith}
use mathlib.Core.Path.{sym, ◌∙◌}
use borrow.Author.Tests.{le-leb}
use Rattle.game.specs.Draws.{draw}
use Rattle.game.proofs.Draws.{draw_short, draw_words}
use Rattle.draws.specs.Answers.{mode_of}
use Rattle.draws.proofs.draw.Goals as goal

pub returns-then-n-le1 : goal.returns-then-n-le1
unfolding draw
returns-then-n-le1 c = simp (le-leb c.args.n 1 (omega arith))

pub returns-then-len-at : goal.returns-then-len-at
returns-then-len-at c =
    let a = c.args in
    sym (draw_short (mode_of a.mode) a.bytes.now a.at a.n (omega arith) (omega arith))

pub returns : goal.returns
returns c =
    let a = c.args in
    c.first_taken.ensures (mode_of a.mode) c.bound.ensures ∙ sym (draw_words (mode_of a.mode) a.bytes.now a.at a.n (omega arith))
