-- `random_search_call::search_keyed`: from the key, of which 1,000,000 rounds leave enough. Assumes nothing.
use native.Mathlib.Omega.{arith}
use mathlib.Core.Path.{◌∙◌}
use Rattle.keys.specs.Stands.{key_of}
use Rattle.answers.proofs.Promises.{keeps_handed}
use Rattle.random.proofs.Finishes.{key_handed}
use Rattle.supplies.specs.Origins.{key_given}
use Rattle.supplies.proofs.Standing.{key_room, somewhere}
use Rattle.random_search_call.proofs.search_keyed.Goals as goal

pub search-finish-requires : goal.search-finish-requires
search-finish-requires c =
    let k = key_of c.args.key in
    let y = c.of_key-supply in
    record { shape = c.requires.shape; grid_len = (c.requires.grid_len.0, c.requires.grid_len.1, c.requires.grid_len.2); key_room = (key_room _ k y.result (omega (arith, c.requires.grid_len.3)) y.ensures, somewhere (key_given k) 0 y.result y.ensures) }

pub returns : goal.returns
returns c =
    let k = key_of c.args.key in
    let t = c.search-finish.ensures (key_given k) c.of_key-supply.ensures in
    keeps_handed k _ _ _ _ (c.key_rolled.ensures ∙ key_handed k k _ t.0) t.1
