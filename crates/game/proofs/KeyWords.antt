-- The first words of the key that Marsaglia's paper begins with. Assumes nothing.
use mathlib.Core.Bool.{◌&&◌}
use lib.Dec.{T, eqb}
use Rattle.game.specs.Keys.{Key, given_by, key_word, next_key}

-- the key of the paper, and its counter
abbrev pub published : Key
published = record { x = 123456789; y = 362436069; z = 521288629; w = 88675123; v = 5783321; counter = 6615241 }

-- its first five words
pub first_words : T (eqb (key_word published 0) 246875399 && eqb (key_word published 1) 3690007200 && eqb (key_word published 2) 1264581005
    && eqb (key_word published 3) 3906711041 && eqb (key_word published 4) 1866187943)
unfolding next_key given_by
first_words = tt
