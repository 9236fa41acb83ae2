-- `play::flag`: the mine is marked, and its square's premiums go up. Assumes nothing.
use Rattle.play.proofs.Reveals.{flag_stands}
use Rattle.play.proofs.flag.Goals as goal

pub returns : goal.returns
returns c = let a = c.args in
    λ g s old t m u. flag_stands a.rows a.columns g s old a.work.now a.index c.requires.has_cells.1 t c.put_state.new.work c.shift_square.new.work
    c.put_state.ensures c.shift_square.ensures m u
