-- From any tidy position on: a round's steps fit and come to the end; from the untouched position they are the rounds. Assumes nothing.
use Prim.Native.Nat.{ℕ, ◌≤◌}
use mathlib.Core.Path.{◌∙◌, ◌≡◌, ap, sym}
use mathlib.Core.Bool.{Bool, false, true}
use mathlib.Core.List.{◌++◌}
use Rattle.game.specs.Grid.{Grid, cells}
use Rattle.game.specs.Moves.{after}
use Rattle.game.specs.Position.{Position, Tidy, closed_safe, closed_units, untouched}
use Rattle.game.specs.Rounds.{first_clicks, first_steps, greedy_steps, moves_of, openings_first_steps, round_steps, steps_from, steps_on}
use Rattle.game.proofs.Rounds.{clicks_run, steps_end, steps_run}
use Rattle.game.proofs.Runs.{Run, moves_append, run_append, run_falls, run_tidy}
use Rattle.game.proofs.Squares.{cells→}
use Rattle.game.proofs.Narrow.{after_append}
use Rattle.game.proofs.Units.{units_untouched}

-- a greedy or openings-first round goes on from the untouched position
pub round_on : (first : Bool) (g : Grid) → round_steps first g ≡ steps_on first g (untouched g)
unfolding steps_on greedy_steps openings_first_steps first_clicks
round_on false g = ap (λ (n : ℕ). steps_from n false g (untouched g)) (sym (units_untouched g))
round_on true g =
    ap (λ (n : ℕ). first_clicks g ++ steps_from n true g (after g (untouched g) (moves_of (first_clicks g)))) (sym (units_untouched g))

module _ (first : Bool) (g : Grid) (s : Position) (f : Tidy g s) where
  first_run : Run g s (first_steps first g s)
  first_run = go first
    where
      go : (b : Bool) → Run g s (first_steps b g s)
      go false = tt
      go true = clicks_run g (cells g) s (cells→ g) f

  abbrev hit : Position
  hit = after g s (moves_of (first_steps first g s))

  hit_tidy : Tidy g hit
  hit_tidy = run_tidy g s (first_steps first g s) f first_run

  -- the first steps close no unit, so as many steps as there were units come to the end
  pub first_falls : closed_units g hit ≤ closed_units g s
  first_falls = run_falls g s (first_steps first g s) f first_run

  -- each step fits where it is taken
  pub on_run : Run g s (steps_on first g s)
  unfolding steps_on
  on_run =
      run_append g s (first_steps first g s) (steps_from (closed_units g s) first g hit) first_run (steps_run (closed_units g s) first g hit hit_tidy)

  -- they come to the end
  pub on_ends : closed_safe g (after g s (moves_of (steps_on first g s))) ≡ 0
  unfolding steps_on
  on_ends =
      let rest = steps_from (closed_units g s) first g hit in
      ap (closed_safe g) (ap (after g s) (moves_append (first_steps first g s) rest) ∙ after_append g (moves_of (first_steps first g s)) (moves_of rest) s)
      ∙ steps_end (closed_units g s) first g hit hit_tidy first_falls
