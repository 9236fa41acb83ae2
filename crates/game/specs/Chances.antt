-- The chances of a place: how many of the words are taken for it (RULES 5.5). Assumes nothing.
use Rattle.std.specs.Prelude.{ℕ, ◌%◌, ◌+◌, Bool, ◌&&◌, List, [], ◌∷◌, eqb}
use Rattle.game.specs.Draws.{Mode, all_words, taken}
use Rattle.game.specs.Lists.{count, range}

-- whether a word is taken for a place among n
abbrev pub taken_for : Mode → ℕ → ℕ → ℕ → Bool
taken_for mode n place word = taken mode n word && eqb (word % n) place

-- how many of the words below m are taken for a place among n
unfoldable pub chances_below : ℕ → Mode → ℕ → ℕ → ℕ
chances_below m mode n place = count (taken_for mode n place) (range 0 m)

-- how many of the 4,294,967,296 words are taken for a place among n
abbrev pub chances : Mode → ℕ → ℕ → ℕ
chances mode n place = chances_below all_words mode n place

-- the chances of each of these places together
abbrev pub together : Mode → ℕ → List ℕ → ℕ
together mode n [] = 0
together mode n (place ∷ places) = chances mode n place + together mode n places
