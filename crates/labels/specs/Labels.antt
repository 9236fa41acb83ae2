-- A cell's labels in the work area, and what one more label makes of them. Assumes nothing.
use Rattle.std.specs.Prelude.{ℕ, ◌*◌, ◌<◌, ◌≤◌, ◌≡◌, Bool, cond, not, ◌&&◌, List, [], ℤ, pos, set, eqb, ltb}
use Rattle.game.specs.Grid.{Grid}
use Rattle.game.specs.Lists.{count, range}
use Rattle.area.specs.Numbers.{HasCells, first_at, first_place, grid_of, content_at, second_at, second_place}
use Rattle.area.specs.Stages.{Shape}

-- a grid by its rows and columns alone: its squares are those of every grid of that shape
abbrev pub shaped : ℕ → ℕ → Grid
shaped rows columns = grid_of rows columns []

-- a 0-cell without label
abbrev pub fresh_of : List ℤ → ℕ → Bool
fresh_of w i = eqb (content_at w i) 1 && eqb (first_at w i) 0

-- a cell of n that is one
abbrev pub fresh_cell : ℕ → List ℤ → ℕ → Bool
fresh_cell n w i = ltb i n && fresh_of w i

-- a cell of n that is no 0-cell
abbrev pub numbered_of : ℕ → List ℤ → ℕ → Bool
numbered_of n w i = ltb i n && not (eqb (content_at w i) 1)

-- how many 0-cells of n have no label
unfoldable pub free_of : ℕ → List ℤ → ℕ
free_of n w = count (fresh_of w) (range 0 n)

-- the first label after op is put: op if there was none
unfoldable pub edge_first : ℕ → ℕ → ℕ
edge_first op a = cond (eqb a 0) op a

-- the second label after op is put: op if the first is another and there was none
unfoldable pub edge_second : ℕ → ℕ → ℕ → ℕ
edge_second op a b = cond (eqb a 0) b (cond (eqb a op) b (cond (eqb b 0) op b))

-- the work area once the label op is put at the cell i
unfoldable pub put_label : List ℤ → ℕ → ℕ → List ℤ
put_label w i op =
    set (set w (first_place i) (pos (edge_first op (first_at w i)))) (second_place i) (pos (edge_second op (first_at w i) (second_at w i)))

-- the work area once the label op is put at i, if that is a cell of number 1 or more
abbrev pub bordered : ℕ → List ℤ → ℕ → ℕ → List ℤ
bordered n w i op = cond (numbered_of n w i) (put_label w i op) w

-- i is a 0-cell without label, of n cells
pub record Fresh (n : ℕ) (w : List ℤ) (i : ℕ) : Type 0 where
  pub inside : i < n
  pub zero-cell : content_at w i ≡ 1
  pub unlabelled : first_at w i ≡ 0

-- what every function of the spread is called with: the shape, room for the cells, a label that fits
pub record Ready (rows columns op : ℕ) (w : List ℤ) : Type 0 where
  pub shape : Shape rows columns
  pub room : HasCells w (rows * columns)
  pub some_label : 1 ≤ op
  pub fits : op < 2147483648
