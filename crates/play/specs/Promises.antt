-- What L and C promise of a work area that stands for a position. Assumes nothing.
use Rattle.std.specs.Prelude.{ℕ, ◌+◌, ◌≡◌, List, ℤ, T}
use Rattle.game.specs.Lists.{fold, has}
use Rattle.game.specs.Grid.{Grid, mine, square}
use Rattle.game.specs.Position.{Position, Tidy, closed_units, flagged}
use Rattle.game.specs.Moves.{reveal, play, chord}
use Rattle.area.specs.Stages.{Stands}
use Rattle.play.specs.declared.Opened.{Opened}

-- what two moves opened
abbrev pub together : Opened → Opened → Opened
together a b = record { units = a.units + b.units }

-- r was taken, and w stands for the position after a reveal, which is tidy again
pub record Revealing (rows columns : ℕ) (g : Grid) (s : Position) (old : List ℤ) (index : ℕ) (r : Opened) (w : List ℤ) : Type 0 where
  pub stands : Stands rows columns g (reveal g s index) old w
  pub tidy : Tidy g (reveal g s index)
  pub taken_units : r.units + closed_units g (reveal g s index) ≡ closed_units g s

-- r was taken, and w stands for the position after reveals one after the other, which is tidy again
pub record RevealingAll (rows columns : ℕ) (g : Grid) (s : Position) (old : List ℤ) (cells : List ℕ) (r : Opened) (w : List ℤ) : Type 0 where
  pub stands : Stands rows columns g (fold (reveal g) s cells) old w
  pub tidy : Tidy g (fold (reveal g) s cells)
  pub taken_units : r.units + closed_units g (fold (reveal g) s cells) ≡ closed_units g s

-- the cells were revealed one after the other, whatever tidy position w stood for
pub record Opens (rows columns : ℕ) (w : List ℤ) (cells : List ℕ) (r : Opened) (v : List ℤ) : Type 0 where
  pub revealing : (g : Grid) (s : Position) (old : List ℤ) → Stands rows columns g s old w → Tidy g s → RevealingAll rows columns g s old cells r v

-- the mines of the cell's square are all flagged, as they are when a round plays C there
abbrev pub MinesFlagged : Grid → Position → ℕ → Type 0
MinesFlagged g s i = (j : ℕ) → T (has j (square g i)) → T (mine g j) → T (flagged s j)

-- r was taken, and w stands for the position after C, which is tidy again
pub record Chording (rows columns : ℕ) (g : Grid) (s : Position) (old : List ℤ) (index : ℕ) (r : Opened) (w : List ℤ) : Type 0 where
  pub stands : Stands rows columns g (play g s (chord index)) old w
  pub tidy : Tidy g (play g s (chord index))
  pub taken_units : r.units + closed_units g (play g s (chord index)) ≡ closed_units g s
