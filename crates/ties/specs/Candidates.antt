-- The cells that a random step draws among. Assumes nothing.
use Rattle.std.specs.Prelude.{ℕ, ◌-◌, Bool, true, false, cond, not, ◌&&◌, List, eqb, ltb, ℤ, get_or}
use Rattle.game.specs.Rounds.{Choice, chords, clicks}
use Rattle.area.specs.Numbers.{premium_at}
use Rattle.choices.specs.Tests.{unit_at}

-- a cell that a random step may take: of the highest raised premium if that is 10 or more, else a closed unit
abbrev pub candidate_at : ℕ → List ℤ → ℕ → Bool
candidate_at top w i = cond (ltb top 10) (unit_at w i) (eqb (premium_at w i) top)

-- the cells that a choice is among
abbrev pub candidates_of : Choice → List ℕ
candidates_of (chords is) = is
candidates_of (clicks is) = is

-- a choice for one L
abbrev pub for_click : Choice → Bool
for_click (chords is) = false
for_click (clicks is) = true

-- a column that a random step passes over: a lower premium is kept of it
abbrev pub skipped_at : ℕ → List ℕ → ℕ → Bool
skipped_at top tops column = not (eqb (get_or tops column 0) 0) && ltb (get_or tops column 0 - 1) top
