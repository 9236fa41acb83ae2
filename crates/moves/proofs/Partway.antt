-- Steps one after the other on a work area: each takes a unit and pays at most a click for each that it takes, so the moves stay few and the steps come to an end. Assumes nothing.
use Prim.Native.Nat.{ℕ, ◌*◌, ◌+◌, ◌<◌, ◌≤◌, suc, zero}
use native.Mathlib.Omega.{arith}
use mathlib.Core.Path.{◌≡◌, ap, ap₂}
use mathlib.Core.List.{List, [], ◌++◌}
use lib.IntN.{ℤ}
use lib.ListN.{length, length-append}
use Rattle.moves.specs.declared.State.{State}
use Rattle.area.specs.Stages.{Shape, Stands}
use Rattle.game.specs.Grid.{Grid}
use Rattle.game.specs.Moves.{Move, after}
use Rattle.game.specs.Position.{Position, Tidy, closed_units}
use Rattle.game.specs.Rounds.{Step}
use Rattle.moves.specs.Promises.{Made}
use Rattle.area.proofs.Cells.{cells_few}
use Rattle.game.proofs.Falls.{step_pays, units_most}
use Rattle.game.proofs.Runs.{Fits, fit_takes}
use Rattle.game.proofs.Narrow.{after_append}
use Rattle.game.proofs.Units.{units_at_most_cells}
use Rattle.moves.proofs.Joins.{made_both, made_none}

-- part of the way from a position on: the moves made, how many steps at most are still to come, and which, by these two
pub record Partway (rows columns : ℕ) (g : Grid) (s : Position) (old : List ℤ) (list : List ℕ) (t : State) (Rest : List Move → ℕ → Type 0) (w' : List ℤ) (list' : List ℕ) (t' : State) : Type 0 where
  pub done : List Move
  pub left_over : ℕ
  pub made : Made rows columns g s old done list t w' list' t'
  pub few : length done + closed_units g (after g s done) ≤ closed_units g s
  pub enough : closed_units g (after g s done) ≤ left_over
  pub rest : Rest done left_over

module _ (rows columns : ℕ) (g : Grid) (s : Position) (old : List ℤ) (list : List ℕ) (t : State) (Rest : List Move → ℕ → Type 0) where
  pub partway_begins : (w : List ℤ) (n : ℕ) → Stands rows columns g s old w → Tidy g s → t.units ≡ closed_units g s → closed_units g s ≤ n → Rest [] n
      → Partway rows columns g s old list t Rest w list t
  partway_begins w n st f e k r =
      record { done = []; left_over = n; made = made_none rows columns g s old w list t st f e; few = omega arith; enough = k; rest = r }

  module _ (v : List ℤ) (l : List ℕ) (u : State) (o : Partway rows columns g s old list t Rest v l u) where
    abbrev here : Position
    here = after g s o.done

    -- few moves were made
    pub partway_few : Shape rows columns → u.moves ≤ t.moves + 65025
    partway_few h =
        omega (arith, o.made.clicks, o.few, units_most g s, units_at_most_cells g, cells_few rows columns h, ap₂ ◌*◌ o.made.stands.rows_are o.made.stands.columns_are)

    -- while a unit is closed, a step is still to come
    pub partway_more : 1 ≤ closed_units g here → (k : ℕ) × Rest o.done (suc k)
    partway_more h = go o.left_over o.enough o.rest
      where
        go : (k : ℕ) → closed_units g here ≤ k → Rest o.done k → (k : ℕ) × Rest o.done (suc k)
        go zero b r = absurd (omega arith)
        go (suc k) b r = (k, r)

    module _ (x : Step) (f : Fits g here x) (w' : List ℤ) (list' : List ℕ) (t' : State) (m : Made rows columns g here old x.moves l u w' list' t') where
      -- a step leaves fewer units closed
      pub partway_falls : t'.units < u.units
      partway_falls = omega (arith, m.left_units, fit_takes g here x o.made.tidy f, o.made.left_units)

      -- and goes on the way
      pub partway_goes_on : (Next : List Move → ℕ → Type 0) → ((k : ℕ) → Rest o.done (suc k) → Next (o.done ++ x.moves) k) → Partway rows columns g s old list t Next w' list' t'
      partway_goes_on Next next = go o.left_over o.enough o.rest
        where
          go : (k : ℕ) → closed_units g here ≤ k → Rest o.done k → Partway rows columns g s old list t Next w' list' t'
          go zero b r = absurd (omega (arith, fit_takes g here x o.made.tidy f))
          go (suc k) b r =
              let c = ap (closed_units g) (after_append g o.done x.moves s) in
              record {
                done = o.done ++ x.moves;
                left_over = k;
                made = made_both rows columns g s old o.done x.moves list t v l u w' list' t' o.made m;
                few = omega (arith, o.few, step_pays g here x o.made.tidy f, c, length-append o.done x.moves);
                enough = omega (arith, c, fit_takes g here x o.made.tidy f);
                rest = next k r;
              }
