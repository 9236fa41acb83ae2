-- A position: states, closed units, the premium (RULES 2.5, 3.1, 4.1), how a game ends (3.7), tidy and sane positions (3.8). Assumes nothing.
use Rattle.std.specs.Prelude.{ℕ, ◌+◌, ◌<◌, ◌≤◌, ◌≡◌, Bool, false, not, ◌&&◌, cond, List, ℤ, pos, ◌-ℤ◌, get_or, length, replicate, T, eqb}
use Rattle.game.specs.Lists.{bit, count, some_of, has}
use Rattle.game.specs.Grid.{Grid, size, cells, mine, safe, square, zero_cell}
use Rattle.game.specs.Openings.{Joined, openings, holds, unlabelled}

-- each cell's state by its index: 0 closed, 1 opened, 2 flagged, 3 an opened mine
abbrev pub Position : Type 0
Position = List ℕ

-- the position before any move
abbrev pub untouched : Grid → Position
untouched g = replicate (size g) 0

-- the cell is closed and not flagged
abbrev pub closed : Position → ℕ → Bool
closed s i = eqb (get_or s i 0) 0

-- the cell is opened
abbrev pub opened : Position → ℕ → Bool
opened s i = eqb (get_or s i 0) 1

-- the cell is flagged
abbrev pub flagged : Position → ℕ → Bool
flagged s i = eqb (get_or s i 0) 2

-- the cell is an opened mine
abbrev pub blown : Position → ℕ → Bool
blown s i = eqb (get_or s i 0) 3

-- a safe cell is not opened: for units, premiums and the safe cells left a flagged one is closed too
abbrev pub unopened : Position → ℕ → Bool
unopened s i = not (opened s i)

-- an opening is closed while any of its 0-cells is
abbrev pub opening_closed : Position → List ℕ → Bool
opening_closed s o = some_of (unopened s) o

-- a unit that is an unlabelled cell, still closed
abbrev pub cell_unit : Grid → Position → ℕ → Bool
cell_unit g s i = unlabelled g i && unopened s i

-- the closed units, counted from the mines and the opened cells
unfoldable pub closed_units : Grid → Position → ℕ
closed_units g s = count (opening_closed s) (openings g) + count (cell_unit g s) (cells g)

-- the safe cells still closed
unfoldable pub closed_safe : Grid → Position → ℕ
closed_safe g s = count (λ i. safe g i && unopened s i) (cells g)

-- a mine without flag; an opened mine is one
abbrev pub unflagged : Grid → Position → ℕ → Bool
unflagged g s i = mine g i && not (flagged s i)

-- the closed units at a cell: the openings among its labels, and the unlabelled cells in its square
unfoldable pub gain : Grid → Position → ℕ → ℕ
gain g s i = count (λ o. holds g i o && opening_closed s o) (openings g) + count (cell_unit g s) (square g i)

-- what a chord there takes: unflagged mines in its square, 1, and 1 more if the cell is closed
unfoldable pub cost : Grid → Position → ℕ → ℕ
cost g s i = count (unflagged g s) (square g i) + 1 + bit (unopened s i)

-- the premium of a safe cell
unfoldable pub premium : Grid → Position → ℕ → ℤ
premium g s i = pos (gain g s i) -ℤ pos (cost g s i)

-- the game is lost: a mine is open
unfoldable pub lost : Grid → Position → Bool
lost g s = some_of (blown s) (cells g)

-- the game is won: all safe cells are open and no mine
abbrev pub won : Grid → Position → Bool
won g s = eqb (closed_safe g s) 0 && not (lost g s)

-- how the game ends: 0 unfinished, 1 won, 2 lost
unfoldable pub ending : Grid → Position → ℕ
ending g s = cond (lost g s) 2 (bit (won g s))

-- the game is neither won nor lost
abbrev pub unfinished : Grid → Position → Bool
unfinished g s = eqb (ending g s) 0

-- a tidy position, such as the rounds meet: only mines are flagged, no mine is open, and an opening is open or closed as a whole
pub record Tidy (g : Grid) (s : Position) : Type 0 where
  -- each cell has a state
  pub long : length s ≡ size g
  -- 0-cells that are joined are closed together
  pub even : (a b : ℕ) → Joined g a b → closed s a ≡ closed s b
  -- what stands around an opened 0-cell is open
  pub around : (z j : ℕ) → j < size g → T (zero_cell g z) → T (has z (square g j)) → T (closed s j) → T (closed s z)
  -- a safe cell is closed or opened
  pub safes : (j : ℕ) → j < size g → T (safe g j) → opened s j ≡ not (closed s j)
  -- a mine is closed or flagged
  pub mines : (j : ℕ) → j < size g → T (mine g j) → flagged s j ≡ not (closed s j)

-- a sane position, such as legal play comes to: each cell has a state, a safe cell 0, 1 or 2, a mine 0, 2 or 3
pub record Sane (g : Grid) (s : Position) : Type 0 where
  pub long : length s ≡ size g
  pub states : (j : ℕ) → j < size g → get_or s j 0 ≤ 3
  pub safes : (j : ℕ) → j < size g → T (safe g j) → blown s j ≡ false
  pub mines : (j : ℕ) → j < size g → T (mine g j) → opened s j ≡ false
