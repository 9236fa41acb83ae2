-- A step's moves made, and what is kept of the columns right again; a whole round. Assumes nothing.
use Rattle.std.specs.Prelude.{ℕ, ◌≡◌, Bool, List, ℤ, get_or, length}
use Rattle.game.specs.Grid.{Grid, column_of}
use Rattle.game.specs.Openings.{three_bv}
use Rattle.game.specs.Position.{Position, Tidy, untouched, closed_units}
use Rattle.game.specs.Moves.{Move, after}
use Rattle.game.specs.Area.{list_of}
use Rattle.game.specs.Rounds.{Choice, choice, chords, clicks, step_of}
use Rattle.area.specs.Stages.{Stands}
use Rattle.choices.specs.Tops.{TopsKnown, UnitsKnown}
use Rattle.moves.specs.Promises.{Made}
use Rattle.moves.specs.declared.State.{State}
use Rattle.rounds.specs.declared.Stepped.{Stepped}

-- the moves ms were made from position s on, and what is kept of the columns is right again; so is what was kept of their closed units, but for those now marked
pub record MadeKnown (openedOnly : Bool) (rows columns : ℕ) (g : Grid) (s : Position) (old : List ℤ) (ms : List Move) (list : List ℕ) (w : List ℤ) (tops : List ℕ) (t : State) (w' : List ℤ) (list' tops' : List ℕ) (t' : State) : Type 0 where
  pub made : Made rows columns g s old ms list t w' list' t'
  pub kept : TopsKnown openedOnly w rows columns tops → TopsKnown openedOnly w' rows columns tops'
  pub units_kept : (units : List ℕ) → UnitsKnown w rows columns units units → UnitsKnown w' rows columns tops' units

-- the column at which the next search for the lowest closed unit begins: that of the cell of one L, else as before the step
abbrev pub column_after : Grid → Choice → ℕ → ℕ
column_after g (chords is) from = from
column_after g (clicks is) from = column_of g (get_or is 0 0)

-- a step by the lowest index was made, what is kept of the columns is right again, and the column is handed on
pub record StepKnown (openedOnly : Bool) (rows columns : ℕ) (g : Grid) (s : Position) (old : List ℤ) (list : List ℕ) (t : State) (from : ℕ) (w' : List ℤ) (list' tops' : List ℕ) (r : Stepped) : Type 0 where
  pub made : Made rows columns g s old (step_of g s (choice openedOnly g s) 0).moves list t w' list' r.state
  pub kept : TopsKnown openedOnly w' rows columns tops'
  pub column : r.from ≡ column_after g (choice openedOnly g s) from

-- a state that keeps the closed units of a tidy position that the area stands for
pub record Going (rows columns : ℕ) (w : List ℤ) (t : State) : Type 0 where
  pub grid : Grid
  pub position : Position
  pub old : List ℤ
  pub stands : Stands rows columns grid position old w
  pub tidy : Tidy grid position
  pub counts : t.units ≡ closed_units grid position

-- the area stands for an untouched grid of so many units
pub record Fresh (rows columns : ℕ) (w : List ℤ) (units : ℕ) : Type 0 where
  pub grid : Grid
  pub old : List ℤ
  pub stands : Stands rows columns grid (untouched grid) old w
  pub counts : units ≡ three_bv grid

-- a round of the moves ms: its clicks, the area at its end, where no unit is left closed, and the list with its moves
pub record RoundPlayed (rows columns : ℕ) (g : Grid) (old : List ℤ) (ms : List Move) (list : List ℕ) (r : ℕ) (w' : List ℤ) (list' : List ℕ) : Type 0 where
  pub clicks : r ≡ length ms
  pub stands : Stands rows columns g (after g (untouched g) ms) old w'
  pub none_left : closed_units g (after g (untouched g) ms) ≡ 0
  pub listed : list' ≡ list_of ms list
