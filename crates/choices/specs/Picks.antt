-- What a search for a cell finds. Assumes nothing.
use Rattle.std.specs.Prelude.{ℕ, List, [], ◌∷◌, Option, Some, None}
use Rattle.game.specs.Grid.{Grid, column_of}

-- the first of a list of cells, if there is one
abbrev pub found_first : List ℕ → Option ℕ
found_first [] = None
found_first (x ∷ xs) = Some x

-- the column of the cell that was found; past the last column if there is none
abbrev pub found_column : Grid → Option ℕ → ℕ
found_column g (Some i) = column_of g i
found_column g None = g.columns
