-- One step and one round: greedy, openings-first and random; random search (RULES 4, 5.2). Assumes nothing.
use Rattle.std.specs.Prelude.{ℕ, ◌-◌, min, suc, zero, Bool, ◌&&◌, ◌||◌, cond, false, not, true, List, [], ◌++◌, ◌∷◌, map, negsuc, pos, ℤ, get_or, length}
use Rattle.std.proofs.Math.Option.{Option, none, some}
use Rattle.std.specs.Int.Signed.{le_z}
use Rattle.game.specs.Draws.{Source}
use Rattle.game.specs.Grid.{Grid, cells, safe, same, square, zero_cell}
use Rattle.game.specs.Lists.{concat_map, keep}
use Rattle.game.specs.Moves.{Move, after, chord, flag, left}
use Rattle.game.specs.Openings.{three_bv, unlabelled}
use Rattle.game.specs.Position.{Position, closed, closed_safe, closed_units, opened, premium, unflagged, untouched}

-- the cells that a step looks at: the safe cells; openings-first: the opened safe cells only
abbrev pub looked : Bool → Grid → Position → List ℕ
looked openedOnly g s = keep (λ i. safe g i && (opened s i || not openedOnly)) (cells g)

-- the highest of the numbers, -1 where none is above that
abbrev pub highest : List ℤ → ℤ
highest [] = negsuc 0
highest (p ∷ ps) = let m = highest ps in cond (le_z p m) m p

-- the least premium that is chosen
abbrev pub least_chosen : ℤ
least_chosen = pos 0

-- those of highest premium, if that is 0 or more
unfoldable pub top_cells : Bool → Grid → Position → List ℕ
top_cells openedOnly g s =
    let m = highest (map (premium g s) (looked openedOnly g s)) in
    keep (λ i. le_z least_chosen m && same (premium g s i) m) (looked openedOnly g s)

-- a closed safe cell of number 0 or without label
abbrev pub closed_unit_cell : Grid → Position → ℕ → Bool
closed_unit_cell g s i = safe g i && closed s i && (zero_cell g i || unlabelled g i)

-- the closed safe cells of number 0 or without label
unfoldable pub unit_cells : Grid → Position → List ℕ
unit_cells g s = keep (closed_unit_cell g s) (cells g)

-- a step: the cell of highest premium that it chose, if one reached 0, and its moves
pub record Step : Type 0 where
  pub chosen : Option ℕ
  pub moves : List Move

-- at a chosen cell: L if it is closed, F on each unflagged mine of its square, then C
unfoldable pub moves_at : Grid → Position → ℕ → List Move
moves_at g s i =
    cond (closed s i) (left i ∷ []) [] ++ map flag (keep (unflagged g s) (square g i)) ++ (chord i ∷ [])

-- the step at a chosen cell
abbrev pub chord_step : Grid → Position → ℕ → Step
chord_step g s i = record { chosen = some i; moves = moves_at g s i }

-- the step that is one L
abbrev pub click_step : ℕ → Step
click_step i = record { chosen = none; moves = left i ∷ [] }

-- what a step chooses among: the cells of highest premium, or, if no premium reaches 0, closed cells for one L
pub data Choice : Type 0 where
  chords : List ℕ → Choice
  clicks : List ℕ → Choice

-- the choice at a position
unfoldable pub choice : Bool → Grid → Position → Choice
choice openedOnly g s = elim (top_cells openedOnly g s) [ [] ↦ clicks (unit_cells g s) | x ∷ xs ↦ chords (x ∷ xs) ]

-- how many a choice is among
abbrev pub width : Choice → ℕ
width (chords is) = length is
width (clicks is) = length is

-- the step that takes the place k of a choice, in index order
abbrev pub step_of : Grid → Position → Choice → ℕ → Step
step_of g s (chords is) k = chord_step g s (get_or is k 0)
step_of g s (clicks is) k = click_step (get_or is k 0)

-- the moves of steps, in order
abbrev pub moves_of : List Step → List Move
moves_of ts = concat_map (λ (t : Step). t.moves) ts

-- the position after a step
abbrev pub after_step : Grid → Position → Step → Position
after_step g s t = after g s t.moves

-- Steps by the lowest index until all safe cells are open. Each takes a unit, so as many as there are units are enough.
abbrev pub steps_from : ℕ → Bool → Grid → Position → List Step
steps_from zero openedOnly g s = []
steps_from (suc n) openedOnly g s =
    elim (closed_safe g s) [
      | zero ↦ []
      | suc k ↦ let t = step_of g s (choice openedOnly g s) 0 in t ∷ steps_from n openedOnly g (after_step g s t)
    ]

-- the greedy round
unfoldable pub greedy_steps : Grid → List Step
greedy_steps g = steps_from (three_bv g) false g (untouched g)

-- L on each closed 0-cell of is, in order; each such L is a step
abbrev pub opening_clicks : Grid → Position → List ℕ → List Step
opening_clicks g s [] = []
opening_clicks g s (i ∷ is) =
    elim (zero_cell g i && closed s i) [
      | true ↦ click_step i ∷ opening_clicks g (after_step g s (click_step i)) is
      | false ↦ opening_clicks g s is
    ]

-- the opening clicks of an openings-first round
unfoldable pub first_clicks : Grid → List Step
first_clicks g = opening_clicks g (untouched g) (cells g)

-- the openings-first round
unfoldable pub openings_first_steps : Grid → List Step
openings_first_steps g = first_clicks g ++ steps_from (three_bv g) true g (after g (untouched g) (moves_of (first_clicks g)))

-- the steps of a greedy round, or of an openings-first round
abbrev pub round_steps : Bool → Grid → List Step
round_steps false g = greedy_steps g
round_steps true g = openings_first_steps g

-- the steps that come before those by premium, from a position on: the opening clicks of an openings-first round
abbrev pub first_steps : Bool → Grid → Position → List Step
first_steps false g s = []
first_steps true g s = opening_clicks g s (cells g)

-- a round's steps from a position on: the opening clicks if it is openings-first, then steps by premium to the end
unfoldable pub steps_on : Bool → Grid → Position → List Step
steps_on openingsFirst g s =
    let first = first_steps openingsFirst g s in first ++ steps_from (closed_units g s) openingsFirst g (after g s (moves_of first))

-- ---- random rounds

-- a round that had draws enough: its steps, and where the next draw reads on
pub record Round : Type 0 where
  pub steps : List Step
  pub next : ℕ

-- a step before the rest of its round, if the draws sufficed for that
abbrev pub before : Step → Option Round → Option Round
before t none = none
before t (some r) = some (record { steps = t ∷ r.steps; next = r.next })

-- steps by the places that a source draws until all safe cells are open; none where it runs dry
abbrev pub random_from : ℕ → Grid → Source → Position → ℕ → Option Round
random_from zero g source s at = some (record { steps = []; next = at })
random_from (suc n) g source s at =
    elim (closed_safe g s) [
      | zero ↦ some (record { steps = []; next = at })
      | suc k ↦ elim (source at (width (choice false g s))) [
        | none ↦ none
        | some d ↦ let t = step_of g s (choice false g s) d.place in
            before t (random_from n g source (after_step g s t) d.next)
      ]
    ]

-- a random round that draws from a source, from a place on
unfoldable pub random_round : Grid → Source → ℕ → Option Round
random_round g source at = random_from (three_bv g) g source (untouched g) at

-- ---- random search

-- what rounds one after another come to: the least clicks, where the next draw reads on, the last round's moves
pub record Searched : Type 0 where
  pub least : ℕ
  pub next : ℕ
  pub moves : List Move

-- n rounds more, after those that came to r
abbrev pub search_from : ℕ → Grid → Source → Searched → Option Searched
search_from zero g source r = some r
search_from (suc n) g source r =
    elim (random_round g source r.next) [
      | none ↦ none
      | some e ↦ let ms = moves_of e.steps in
          search_from n g source (record { least = min r.least (length ms); next = e.next; moves = ms })
    ]

-- so many rounds, one or more, one after another through the same draws
unfoldable pub random_search : Grid → Source → ℕ → Option Searched
random_search g source rounds =
    elim (random_round g source 0) [
      | none ↦ none
      | some e ↦ let ms = moves_of e.steps in
          search_from (rounds - 1) g source (record { least = length ms; next = e.next; moves = ms })
    ]
