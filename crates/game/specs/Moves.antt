-- Legal play: the moves L, F, C and the taking away of a flag, what each does, and the replay of a list (RULES 3, 6.3). Assumes nothing.
use Rattle.std.specs.Prelude.{ℕ, ◌%◌, ◌*◌, ◌+◌, ◌/◌, suc, ◌≡◌, Bool, ◌&&◌, cond, false, not, true, List, [], ◌∷◌, map, T, eqb, ltb, get_or, set}
use Rattle.std.proofs.Math.Option.{Option, none, some}
use Rattle.game.specs.Grid.{Grid, cells, mine, number, safe, size, square, zero_cell}
use Rattle.game.specs.Lists.{count, fold}
use Rattle.game.specs.Openings.{chained_to, holds}
use Rattle.game.specs.Position.{Position, closed, flagged, opened, unfinished, untouched}

-- L, F, C and the taking away of a flag, each on the cell of an index
pub data Move : Type 0 where
  left flag chord unflag : ℕ → Move

-- the cell that a move is on
abbrev pub cell_of : Move → ℕ
cell_of (left i) = i
cell_of (flag i) = i
cell_of (chord i) = i
cell_of (unflag i) = i

-- C may be played: the cell is opened, of number 1 or more, and the flags in its square are as many as its number
unfoldable pub chordable : Grid → Position → ℕ → Bool
chordable g s i = opened s i && not (zero_cell g i) && eqb (count (flagged s) (square g i)) (number g i)

-- what a move asks of its cell: L and F that it is closed and not flagged, C that it may be played, the taking away of a flag that there is one
abbrev pub allowed : Grid → Position → Move → Bool
allowed g s (left i) = closed s i
allowed g s (flag i) = closed s i
allowed g s (chord i) = chordable g s i
allowed g s (unflag i) = flagged s i

-- a move is legal: the game is neither won nor lost, the cell is on the grid and is as the move asks
unfoldable pub legal : Grid → Position → Move → Bool
legal g s m = unfinished g s && ltb (cell_of m) (size g) && allowed g s m

-- the 0-cells that L on a closed 0-cell opens: chains of closed unflagged 0-cells join them to it
abbrev pub spread : Grid → Position → ℕ → List ℕ
spread g s z = chained_to g (λ k. zero_cell g k && closed s k) z

-- the position after L on a closed 0-cell: the closed unflagged cells in the squares of those 0-cells are opened
unfoldable pub sweep : Grid → Position → ℕ → Position
sweep g s z = map (λ j. cond (closed s j && holds g j (spread g s z)) 1 (get_or s j 0)) (cells g)

-- a closed unflagged safe cell is opened, and if its number is 0, what spreads from it; any other cell stays as it is
unfoldable pub reveal : Grid → Position → ℕ → Position
reveal g s i =
    elim (safe g i && closed s i) [
      | true ↦ elim (zero_cell g i) [ true ↦ sweep g s i | false ↦ set s i 1 ]
      | false ↦ s
    ]

-- a closed unflagged mine is opened; any other cell stays as it is
unfoldable pub blow : Grid → Position → ℕ → Position
blow g s i = elim (mine g i && closed s i) [ true ↦ set s i 3 | false ↦ s ]

-- L on each of some cells: the safe ones are opened first, then the mines
abbrev pub click_each : Grid → Position → List ℕ → Position
click_each g s js = fold (blow g) (fold (reveal g) s js) js

-- what a move does: C acts as L on every closed unflagged cell of its square
unfoldable pub play : Grid → Position → Move → Position
play g s (left i) = click_each g s (i ∷ [])
play g s (flag i) = set s i 2
play g s (chord i) = click_each g s (square g i)
play g s (unflag i) = set s i 0

-- the position after a list of moves
abbrev pub after : Grid → Position → List Move → Position
after g s [] = s
after g s (m ∷ ms) = after g (play g s m) ms

-- each move is legal where it stands
abbrev pub AllLegal : Grid → Position → List Move → Type 0
AllLegal g s [] = Unit {0}
AllLegal g s (m ∷ ms) = T (legal g s m) × AllLegal g (play g s m) ms

-- a position that legal play comes to
pub record Reached (g : Grid) (s : Position) : Type 0 where
  pub moves : List Move
  pub all_legal : AllLegal g (untouched g) moves
  pub comes_to : after g (untouched g) moves ≡ s

-- ---- moves as numbers

-- the kind of a move: 1 for L, 2 for F, 3 for C, 4 for the taking away of a flag
abbrev pub kind_of : Move → ℕ
kind_of (left i) = 1
kind_of (flag i) = 2
kind_of (chord i) = 3
kind_of (unflag i) = 4

-- a move as a number: kind x 65536 + index
abbrev pub word : Move → ℕ
word m = kind_of m * 65536 + cell_of m

-- the move of a kind and an index, if there is such a kind
abbrev pub move_of : ℕ → ℕ → Option Move
move_of kind i =
    cond (eqb kind 1) (some (left i))
    (cond (eqb kind 2) (some (flag i)) (cond (eqb kind 3) (some (chord i)) (cond (eqb kind 4) (some (unflag i)) none)))

-- the move that a number stands for
unfoldable pub read_move : ℕ → Option Move
read_move w = move_of (w / 65536) (w % 65536)

-- a move that was read is legal: not another kind, not past the grid
abbrev pub legal_read : Grid → Position → Option Move → Bool
legal_read g s none = false
legal_read g s (some m) = legal g s m

-- the position after a move that was read
abbrev pub play_read : Grid → Position → Option Move → Position
play_read g s none = s
play_read g s (some m) = play g s m

-- ---- replay

-- a list was played to its end, or it stopped: the place of the first move that is not legal, and the position before it
pub data Replayed : Type 0 where
  whole : Position → Replayed
  stopped : ℕ → Position → Replayed

-- the moves from the place k on, played from a position
abbrev pub replay_from : Grid → ℕ → Position → List ℕ → Replayed
replay_from g k s [] = whole s
replay_from g k s (w ∷ ws) =
    elim (legal_read g s (read_move w)) [
      | true ↦ replay_from g (suc k) (play_read g s (read_move w)) ws
      | false ↦ stopped k s
    ]
