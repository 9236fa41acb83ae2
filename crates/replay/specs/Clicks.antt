-- Flags as they are read, and what L on cells one after the other comes to on a work area. Assumes nothing.
use Rattle.std.specs.Prelude.{ℕ, ◌≡◌, Bool, false, true, List, eqb, ℤ}
use Rattle.area.specs.Numbers.{state_at}
use Rattle.area.specs.Stages.{Moving}
use Rattle.game.specs.Grid.{Grid}
use Rattle.game.specs.Lists.{fold}
use Rattle.game.specs.Moves.{blow, reveal}
use Rattle.game.specs.Position.{Position, closed_safe, lost}
use Rattle.replay.specs.declared.clicks.Remains.{Remains}

-- the cell's state is that of a flagged one
abbrev pub flagged_at : List ℤ → ℕ → Bool
flagged_at w i = eqb (state_at w i) 2

-- what is left is that of the position s: its closed safe cells, and whether it is lost
pub record Counts (g : Grid) (s : Position) (q : Remains) : Type 0 where
  pub closed_are : q.closed ≡ closed_safe g s
  pub lost_is : q.lost ≡ lost g s

-- L on one cell: mines are opened, or safe cells
abbrev pub click_one : Bool → Grid → Position → ℕ → Position
click_one true g s i = blow g s i
click_one false g s i = reveal g s i

-- from the position s on the position t was come to: v has its states, and what is left of it is r, if q is what was left of s
pub record Comes (rows columns : ℕ) (g : Grid) (s t : Position) (old : List ℤ) (q r : Remains) (v : List ℤ) : Type 0 where
  pub moving : Moving rows columns g t old v
  pub counts : Counts g s q → Counts g t r

-- L on each of some cells, whatever position w has the states of
pub record Clicked (rows columns : ℕ) (mines : Bool) (w : List ℤ) (xs : List ℕ) (q r : Remains) (v : List ℤ) : Type 0 where
  pub comes : (g : Grid) (s : Position) (old : List ℤ) → Moving rows columns g s old w → Comes rows columns g s (fold (click_one mines g) s xs) old q r v
