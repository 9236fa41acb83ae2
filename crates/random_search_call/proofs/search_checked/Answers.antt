-- `random_search_call::search_checked`: from the lent bytes. Assumes nothing.
use Rattle.answers.proofs.Promises.{keeps_as}
use Rattle.supplies.specs.Origins.{bytes_lent}
use Rattle.supplies.proofs.Standing.{bytes_room, somewhere}
use Rattle.random_search_call.proofs.search_checked.Goals as goal

pub search-finish-requires : goal.search-finish-requires
search-finish-requires c =
    let y = c.of_bytes-supply in
    record { shape = c.requires.shape; grid_len = c.requires.grid_len; key_room = (bytes_room _ y.result y.ensures, somewhere bytes_lent 0 y.result y.ensures) }

pub returns : goal.returns
returns c =
    let u = c.of_bytes-supply in
    keeps_as _ _ _ _ c.rolled.ensures (c.search-finish.ensures bytes_lent u.ensures).1
