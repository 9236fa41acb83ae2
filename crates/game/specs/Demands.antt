-- Demand 3 (RULES 10.3) as definitions: what holds of a round's steps. Assumes nothing.
use Rattle.std.specs.Prelude.{ℕ, ◌<◌, ◌≤◌, min, suc, zero, ◌≡◌, cond, List, [], ◌++◌, ◌∷◌, ◌+ℤ◌, pos, ℤ, length, T, eqb}
use Rattle.std.proofs.Math.Option.{none, some}
use Rattle.game.specs.Draws.{Source}
use Rattle.game.specs.Grid.{Grid, safe, size}
use Rattle.game.specs.Lists.{Each}
use Rattle.game.specs.Moves.{AllLegal, Move, after}
use Rattle.game.specs.Openings.{three_bv}
use Rattle.game.specs.Position.{Position, closed_units, opened, premium, untouched, won}
use Rattle.game.specs.Rounds.{Round, Searched, Step, after_step, moves_of, random_round}

-- the premium of the cell that a step chose, just before it; a single L has none
abbrev pub worth : Grid → Position → Step → ℤ
worth g s t = elim t.chosen [ none ↦ pos 0 | some i ↦ premium g s i ]

-- the premiums of the cells that steps chose, one step after the other
abbrev pub earned : Grid → Position → List Step → ℤ
earned g s [] = pos 0
earned g s (t ∷ ts) = worth g s t +ℤ earned g (after_step g s t) ts

-- the position after steps that begin with the untouched one
abbrev pub standing : Grid → List Step → Position
standing g ts = after g (untouched g) (moves_of ts)

-- clicks paid + closed units + premiums of the chosen cells, once these steps are done
abbrev pub balance : Grid → List Step → ℤ
balance g ts = pos (length (moves_of ts)) +ℤ pos (closed_units g (standing g ts)) +ℤ earned g (untouched g) ts

-- Demand 3 of a whole round, by its steps
pub record Sound (g : Grid) (ts : List Step) : Type 0 where
  -- after each step: clicks paid + closed units + premiums of the chosen cells = 3BV
  pub ledger : (done left : List Step) → ts ≡ done ++ left → balance g done ≡ pos (three_bv g)
  -- each step takes a unit
  pub takes : (done left : List Step) (t : Step) → ts ≡ done ++ t ∷ left
      → closed_units g (after_step g (standing g done) t) < closed_units g (standing g done)
  -- the listed moves are legal where they stand
  pub legal_moves : AllLegal g (untouched g) (moves_of ts)
  -- they open exactly the safe cells
  pub opens : (i : ℕ) → i < size g → opened (standing g ts) i ≡ safe g i
  -- and the game is won
  pub wins : T (won g (standing g ts))
  -- no unit is left closed
  pub finished : closed_units g (standing g ts) ≡ 0
  -- a round costs at most 3BV, and 3BV is at most the cells
  pub at_most_units : length (moves_of ts) ≤ three_bv g
  pub units_at_most : three_bv g ≤ size g

-- ---- the rounds of a search

-- rounds one after another through the same draws: each reads on where the one before it ended
abbrev pub InTurn : Grid → Source → ℕ → List Round → ℕ → Type 0
InTurn g source at [] next = at ≡ next
InTurn g source at (e ∷ es) next = (random_round g source at ≡ some e) × InTurn g source e.next es next

-- the least clicks of rounds, and of a number before them
abbrev pub least_of : ℕ → List Round → ℕ
least_of m [] = m
least_of m (e ∷ es) = least_of (min m (length (moves_of e.steps))) es

-- the moves of the last of rounds, or those before them
abbrev pub last_of : List Move → List Round → List Move
last_of ms [] = ms
last_of ms (e ∷ es) = last_of (moves_of e.steps) es

-- Demand 3 of a search of n rounds: each of its rounds is sound; it answers the least of their clicks and leaves the last
pub record SoundSearch (g : Grid) (source : Source) (n : ℕ) (r : Searched) : Type 0 where
  pub first : Round
  pub later : List Round
  pub as_many : suc (length later) ≡ n
  pub in-turn : InTurn g source 0 (first ∷ later) r.next
  pub each_sound : Each (λ (e : Round). Sound g e.steps) (first ∷ later)
  pub least_clicks : r.least ≡ least_of (length (moves_of first.steps)) later
  pub last_left : r.moves ≡ last_of (moves_of first.steps) later

-- how many of n rounds are played from a place of the draws on: none after one that stayed at its place, since each later one is the same
abbrev pub played_from : ℕ → Grid → Source → ℕ → ℕ
played_from zero g source at = 0
played_from (suc n) g source at =
    elim (random_round g source at) [
      | none ↦ 1
      | some e ↦ suc (cond (eqb e.next at) 0 (played_from n g source e.next))
    ]
