-- `moves::single::act`: L, F around and C one after the other, each on what the one before left. Assumes nothing.
use Rattle.play.proofs.Reveals.{inside}
use Rattle.moves.proofs.Acted.{acted}
use Rattle.moves.proofs.single.act.Goals as goal

pub returns : goal.returns
returns c =
    let a = c.args in
    let x = c.click_closed-clicked in
    let y = c.flag_around-flagged in
    let z = c.chord_on in
    λ g s old st f t n e. acted a.rows a.columns g s old a.index a.list.now a.state x.new.work x.new.list x.result
    y.new.work y.new.list y.result z.new.work z.new.list z.result f (inside a.rows a.columns g s old a.work.now a.index c.requires.has_cells.1 st) t n
    (x.ensures.made g s old st f t e) (λ p. y.ensures.made g p old) (λ p. z.ensures g p old)
