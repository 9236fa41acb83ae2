-- `random_round_call::roll_keyed`: from the key. Assumes nothing.
use native.Mathlib.Omega.{arith}
use mathlib.Core.Path.{◌∙◌}
use Rattle.keys.specs.Stands.{key_of}
use Rattle.answers.proofs.Promises.{list_handed}
use Rattle.random.proofs.Finishes.{key_handed}
use Rattle.supplies.specs.Origins.{key_given}
use Rattle.supplies.proofs.Standing.{key_room, somewhere}
use Rattle.random_round_call.proofs.roll_keyed.Goals as goal

pub roll-finish-requires : goal.roll-finish-requires
roll-finish-requires c =
    let k = key_of c.args.key in
    let y = c.of_key-supply in
    record { shape = c.requires.shape; grid_len = c.requires.grid_len; key_room = (key_room _ k y.result (omega arith) y.ensures, somewhere (key_given k) 0 y.result y.ensures) }

pub returns : goal.returns
returns c =
    let k = key_of c.args.key in
    let t = c.roll-finish.ensures (key_given k) c.of_key-supply.ensures in
    list_handed k _ _ _ _ _ (c.key_rolled.ensures ∙ key_handed k k _ t.0) t.1
