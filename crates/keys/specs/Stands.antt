-- A key of the code as the rules' key. Assumes nothing.
use Rattle.game.specs.Keys as Game
use Rattle.keys.specs.declared.Key.{Key}

-- the same words and counter
abbrev pub key_of : Key → Game.Key
key_of k = record { x = k.x; y = k.y; z = k.z; w = k.w; v = k.v; counter = k.counter }
