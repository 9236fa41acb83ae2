-- What lent memory holds: the work area, the move list, numbers and room past the end (RULES 6). Assumes nothing.
use Rattle.std.specs.Prelude.{ℕ, ◌*◌, cond, List, [], ◌∷◌, ◌++◌, map, ℤ, pos, get_or, length, replicate, drop}
use Rattle.game.specs.Lists.{concat_map, range}
use Rattle.game.specs.Grid.{Grid, mine, size}
use Rattle.game.specs.Openings.{first_label, second_label}
use Rattle.game.specs.Position.{Position, premium}
use Rattle.game.specs.Moves.{Move, word}

-- the premium as it is kept: 0 for a mine
abbrev pub kept_premium : Grid → Position → ℕ → ℤ
kept_premium g s i = cond (mine g i) (pos 0) (premium g s i)

-- a cell's five numbers: first label, second label, premium, state, 0
unfoldable pub five_numbers : Grid → Position → ℕ → List ℤ
five_numbers g s i =
    pos (first_label g i) ∷ pos (second_label g i) ∷ kept_premium g s i ∷ pos (get_or s i 0) ∷ pos 0 ∷ []

-- a run that begins with other entries, and is unchanged past them
abbrev pub begun {ℓ} : {A : Type ℓ} → List A → List A → List A
begun front old = front ++ drop (length front) old

-- five numbers for each of n cells, one cell after the other, and what was there past them
unfoldable pub laid : (ℕ → List ℤ) → ℕ → List ℤ → List ℤ
laid five n old = begun (concat_map five (range 0 n)) old

-- the work area that stands for a position: each cell's five numbers, and what was there past them
unfoldable pub area_of : Grid → Position → List ℤ → List ℤ
area_of g s old = laid (five_numbers g s) (size g) old

-- the move list with moves written: room after the last is unchanged
unfoldable pub list_of : List Move → List ℕ → List ℕ
list_of ms old = begun (map word ms) old

-- the first n entries filled with 0
abbrev pub cleared {ℓ} : {A : Type ℓ} → A → ℕ → List A → List A
cleared nought n old = begun (replicate n nought) old

-- the work area after DRAWS, and after a count that stops early
unfoldable pub cleared_area : Grid → List ℤ → List ℤ
cleared_area g old = cleared (pos 0) (5 * size g) old

-- the move list after DRAWS
unfoldable pub cleared_list : Grid → List ℕ → List ℕ
cleared_list g old = cleared 0 (size g) old
