-- What a random round or search came to, told apart by its answer; by a key, the supply's key is the one after the bytes used. Assumes nothing.
use mathlib.Core.Path.{◌≡◌, ap, refl}
use mathlib.Core.List.{◌∷◌}
use mathlib.Core.Option as Rules
use Rattle.std.specs.Prelude.{None, Option, Some}
use Rattle.game.specs.Calls.{gives, hands_key}
use Rattle.game.specs.Keys.{Key, key_numbers}
use Rattle.keys.specs.declared.Key as Code
use Rattle.supplies.specs.Origins.{key_drawn, key_given}
use Rattle.random.specs.Promises.{HandsOn, finish_answer, key_finish_answer, key_left}
use Rattle.random.specs.declared.Finish.{Finish}

-- the key of a supply that draws from one
drawn_left : (key : Option Code.Key) (beside k : Key) → key_drawn key ≡ Rules.some k → key_left key beside ≡ k
drawn_left (Some key) beside k e = cc e
drawn_left None beside k e = cc e

-- one that hands a key on answers the key after the bytes used
pub key_handed : (k beside : Key) (r : Option Finish) → HandsOn (key_given k) r → key_finish_answer r beside ≡ hands_key k (finish_answer r)
key_handed k beside (Some f) h = ap (λ (key : Key). gives (f.clicks ∷ f.supply.used ∷ key_numbers key)) (drawn_left f.supply.key beside _ (h.ended f refl).from)
key_handed k beside None h = refl
