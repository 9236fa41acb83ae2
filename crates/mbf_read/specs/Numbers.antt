-- Values put into a grid: by the bits of the mines, and the right ones of a grid. Assumes nothing.
use Rattle.std.specs.Prelude.{ℕ, ◌*◌, List, map, ℤ, set}
use Rattle.game.specs.Lists.{range}
use Rattle.game.specs.Grid.{Grid, cell_at, right_value}
use Rattle.lines.specs.BoardLine.{bit_at, value_of}

-- the grid whose mines are the bits that are set
abbrev pub bit_grid : ℕ → ℕ → List ℕ → Grid
bit_grid rows columns bits =
    record { rows = rows; columns = columns; values = map (λ p. value_of (bit_at bits p)) (range 0 (rows * columns)) }

-- -1 put at a place whose bit is set, 0 at another
abbrev pub put_mine : List ℕ → List ℤ → ℕ → List ℤ
put_mine bits w p = set w p (value_of (bit_at bits p))

-- the right value of the cell at a place put there
abbrev pub put_right : Grid → List ℤ → ℕ → List ℤ
put_right g w p = set w p (right_value g (cell_at g p))
