-- The position before any move in the work area. Assumes nothing.
use Rattle.std.specs.Prelude.{ℕ, ◌≡◌, List, ℤ}
use Rattle.game.specs.Grid.{Grid}
use Rattle.game.specs.Openings.{three_bv}
use Rattle.game.specs.Position.{untouched, closed_safe}
use Rattle.area.specs.Stages.{Moving, held}

-- the units are counted, and the work area stands for the untouched grid
pub record Setting (g : Grid) (old : List ℤ) (r : ℕ) (w : List ℤ) : Type 0 where
  pub units : r ≡ three_bv g
  pub work : w ≡ held g (untouched g) old

-- the safe cells are counted, and the work area has the states of the untouched grid, for a replay
pub record SetOut (rows columns : ℕ) (g : Grid) (old : List ℤ) (r : ℕ) (w : List ℤ) : Type 0 where
  pub safe : r ≡ closed_safe g (untouched g)
  pub moving : Moving rows columns g (untouched g) old w
