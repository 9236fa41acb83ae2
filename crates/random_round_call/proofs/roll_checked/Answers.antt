-- `random_round_call::roll_checked`: from the lent bytes. Assumes nothing.
use Rattle.answers.proofs.Promises.{list_as}
use Rattle.supplies.specs.Origins.{bytes_lent}
use Rattle.supplies.proofs.Standing.{bytes_room, somewhere}
use Rattle.random_round_call.proofs.roll_checked.Goals as goal

pub roll-finish-requires : goal.roll-finish-requires
roll-finish-requires c =
    let y = c.of_bytes-supply in
    record { shape = c.requires.shape; grid_len = c.requires.grid_len; key_room = (bytes_room _ y.result y.ensures, somewhere bytes_lent 0 y.result y.ensures) }

pub returns : goal.returns
returns c =
    let u = c.of_bytes-supply in
    list_as _ _ _ _ _ c.rolled.ensures (c.roll-finish.ensures bytes_lent u.ensures).1
