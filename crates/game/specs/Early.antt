-- Counting units until it is certain whether there are so many: a walk over the cells in index order (RULES 2.6). Assumes nothing.
use Rattle.std.specs.Prelude.{ℕ, ◌+◌, ◌-◌, ◌<◌, Bool, ◌||◌, List, [], T, leb, ltb, length}
use Rattle.game.specs.Lists.{count, fold, range}
use Rattle.game.specs.Grid.{Grid, size}
use Rattle.game.specs.Openings.{gather, unlabelled}

-- the openings met once the cells below i have been looked at: those whose lowest 0-cell is one of them
abbrev pub met : Grid → ℕ → List (List ℕ)
met g i = fold (gather g) [] (range 0 i)

-- the units found by then: the openings met, and the safe cells without label that have been looked at
unfoldable pub found : Grid → ℕ → ℕ
found g i = length (met g i) + count (unlabelled g) (range 0 i)

-- the cells not yet looked at then
abbrev pub ahead : Grid → ℕ → ℕ
ahead g i = size g - i

-- it is certain then: so many units are found, or these and the cells not yet looked at are fewer
abbrev pub certain : Grid → ℕ → ℕ → Bool
certain g units i = leb units (found g i) || ltb (found g i + ahead g i) units

-- the walk stops at the cell i, or past the last: the first at which it is certain
pub record StopsAt (g : Grid) (units i : ℕ) : Type 0 where
  pub is_certain : T (certain g units i)
  pub none_before : (j : ℕ) → j < i → T (certain g units j) → ⊥
