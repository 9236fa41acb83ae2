-- The twelve boards of RULES 11.1 as one table. Assumes nothing.
use Rattle.std.specs.Prelude.{ℕ, List, [], ◌∷◌, negsuc, pos, ℤ, length}
use Rattle.game.specs.Grid.{Grid}
use Rattle.game.specs.Moves.{Move, chord, flag, left}
use Rattle.game.specs.Openings.{three_bv}
use Rattle.game.specs.Rounds.{greedy_steps, moves_of, openings_first_steps}

-- a line of the table: a grid, its 3BV, greedy clicks, openings-first clicks, greedy moves
pub record Line : Type 0 where
  pub grid : Grid
  pub units : ℕ
  pub clicks : ℕ
  pub first_clicks : ℕ
  pub moves : List Move

-- the line that the definitions give for a grid
abbrev pub priced : Grid → Line
priced g =
    record {
      grid = g;
      units = three_bv g;
      clicks = length (moves_of (greedy_steps g));
      first_clicks = length (moves_of (openings_first_steps g));
      moves = moves_of (greedy_steps g);
    }

-- a safe cell
abbrev o : ℤ
o = pos 0

-- a mine
abbrev m : ℤ
m = negsuc 0

-- a line, by rows and columns
abbrev line : ℕ → ℕ → List ℤ → ℕ → ℕ → ℕ → List Move → Line
line r c vs u k h ms =
    record { grid = record { rows = r; columns = c; values = vs }; units = u; clicks = k; first_clicks = h; moves = ms }

-- P1 to P12
unfoldable pub twelve : List Line
twelve =
    line 1 1 (o ∷ []) 1 1 1 (left 0 ∷ [])
    ∷ line 1 1 (m ∷ []) 0 0 0 []
    ∷ line 1 1 (pos 5 ∷ []) 1 1 1 (left 0 ∷ [])
    ∷ line 1 2 (m ∷ o ∷ []) 1 1 1 (left 1 ∷ [])
    ∷ line 1 3 (o ∷ m ∷ o ∷ []) 2 2 2 (left 0 ∷ left 2 ∷ [])
    ∷ line 1 5 (o ∷ o ∷ m ∷ o ∷ o ∷ []) 2 2 2 (left 0 ∷ left 4 ∷ [])
    ∷ line 2 2 (m ∷ o ∷ o ∷ o ∷ []) 3 3 3 (left 1 ∷ flag 0 ∷ chord 1 ∷ [])
    ∷ line 2 2 (m ∷ o ∷ m ∷ o ∷ []) 2 2 2 (left 2 ∷ left 3 ∷ [])
    ∷ line 3 3 (o ∷ o ∷ o ∷ o ∷ o ∷ o ∷ o ∷ o ∷ o ∷ []) 1 1 1 (left 0 ∷ [])
    ∷ line 3 3 (m ∷ o ∷ o ∷ o ∷ o ∷ o ∷ o ∷ o ∷ o ∷ []) 1 1 1 (left 2 ∷ [])
    ∷ line 3 3 (o ∷ o ∷ o ∷ o ∷ m ∷ o ∷ o ∷ o ∷ o ∷ []) 8 5 6 (left 1 ∷ flag 4 ∷ chord 1 ∷ chord 3 ∷ chord 5 ∷ [])
    ∷ line 3 3 (o ∷ o ∷ m ∷ o ∷ o ∷ o ∷ m ∷ o ∷ o ∷ []) 2 2 2 (left 0 ∷ left 8 ∷ [])
    ∷ []
