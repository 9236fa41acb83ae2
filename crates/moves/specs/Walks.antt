-- Moves made over cells in turn, each where it is called for. Assumes nothing.
use Rattle.std.specs.Prelude.{ℕ, ◌≡◌, true, false, List, [], ◌∷◌, ℤ}
use Rattle.game.specs.Grid.{Grid}
use Rattle.game.specs.Position.{Position, Tidy, closed_units, unflagged}
use Rattle.game.specs.Moves.{Move, flag, play}
use Rattle.game.specs.Rounds.{moves_of, opening_clicks}
use Rattle.area.specs.Stages.{Stands}
use Rattle.moves.specs.Promises.{Made}
use Rattle.moves.specs.declared.State.{State}

-- F on each of some cells that is an unflagged mine, in turn
abbrev pub flags_from : Grid → Position → List ℕ → List Move
flags_from g s [] = []
flags_from g s (i ∷ is) =
    elim (unflagged g s i) [
      | true ↦ flag i ∷ flags_from g (play g s (flag i)) is
      | false ↦ flags_from g s is
    ]

-- L on each of some cells that is a closed 0-cell, in turn
abbrev pub hits_from : Grid → Position → List ℕ → List Move
hits_from g s is = moves_of (opening_clicks g s is)

-- the moves that many gives for some cells were made, whatever tidy position the area stood for
pub record Over (many : Grid → Position → List ℕ → List Move) (cells : List ℕ) (rows columns : ℕ) (w : List ℤ) (list : List ℕ) (t : State) (w' : List ℤ) (list' : List ℕ) (t' : State) : Type 0 where
  pub made : (g : Grid) (s : Position) (old : List ℤ) → Stands rows columns g s old w → Tidy g s → t.units ≡ closed_units g s
      → Made rows columns g s old (many g s cells) list t w' list' t'
