-- `random::again`: once reset, the area stands for the position before any move. Assumes nothing.
use Rattle.random.proofs.Searches.{reset_fresh, reset_stands}
use borrow.Author.Rules.{rules}
use Rattle.random.proofs.again.Goals as goal

pub unlisted-requires : goal.unlisted-requires
unlisted-requires c =
    let x = c.reset in
    let a = c.args in
    record { shape = c.requires.shape; has_cells = search rules; fresh = reset_fresh a.rows a.columns a.work.now x.new.work a.units c.requires.counts_units x.ensures; key_room = c.requires.key_room }

pub returns : goal.returns
returns c =
    let x = c.reset in
    let a = c.args in record { round_grows = c.unlisted.ensures.round_grows; searching = λ g s old origin at st n d. c.unlisted.ensures.searching g old origin at (reset_stands a.rows a.columns g s old a.work.now x.new.work st (x.ensures g s old st)) n d }
