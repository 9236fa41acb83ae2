-- Moves made on a work area that stands for a position, and noted in a list. Assumes nothing.
use Rattle.std.specs.Prelude.{ℕ, ◌+◌, ◌-◌, ◌*◌, ◌≡◌, List, map, ℤ, length, set}
use Rattle.std.proofs.lemmas.List.Edits.{sets}
use Rattle.game.specs.Grid.{Grid}
use Rattle.game.specs.Position.{Position, Tidy, closed_units}
use Rattle.game.specs.Moves.{Move, after, word}
use Rattle.area.specs.Stages.{Stands}
use Rattle.play.specs.declared.Opened.{Opened}
use Rattle.moves.specs.declared.State.{State}

-- a move of a kind was noted, and the state carried on: one move more, the units taken fewer closed
pub record Carried (kind index : ℕ) (opened : Opened) (list : List ℕ) (t : State) (list' : List ℕ) (t' : State) : Type 0 where
  pub written : list' ≡ set list t.moves (kind * 65536 + index)
  pub one_more : t'.moves ≡ t.moves + 1
  pub fewer : t'.units ≡ t.units - opened.units

-- the moves ms were made from position s on: the area stands for the position after them, which is tidy again, they are noted in the list, and the state is carried on: it keeps the closed units left
pub record Made (rows columns : ℕ) (g : Grid) (s : Position) (old : List ℤ) (ms : List Move) (list : List ℕ) (t : State) (w' : List ℤ) (list' : List ℕ) (t' : State) : Type 0 where
  pub stands : Stands rows columns g (after g s ms) old w'
  pub tidy : Tidy g (after g s ms)
  pub noted : list' ≡ sets list t.moves (map word ms)
  pub clicks : t'.moves ≡ t.moves + length ms
  pub left_units : t'.units ≡ closed_units g (after g s ms)
