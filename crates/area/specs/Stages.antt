-- What the work area holds while a call runs. Assumes nothing.
use Rattle.std.specs.Prelude.{ℕ, ◌+◌, ◌-◌, ◌≤◌, ◌≡◌, cond, List, ℤ, get_or, length}
use Rattle.game.specs.Grid.{Grid, size, mine, number}
use Rattle.game.specs.Openings.{first_label, second_label}
use Rattle.game.specs.Position.{Position, gain, cost}
use Rattle.game.specs.Area.{laid}
use Rattle.area.specs.Numbers.{HasCells, five}

-- what tells a cell's content: 0 for a mine, 1 more than its number for a safe cell
unfoldable pub content : Grid → ℕ → ℕ
content g i = cond (mine g i) 0 (1 + number g i)

-- a safe cell's premium raised by 10, so that it is never below 0; 0 for a mine
unfoldable pub raised : Grid → Position → ℕ → ℕ
raised g s i = cond (mine g i) 0 (10 + gain g s i - cost g s i)

-- before labelling: the content alone
unfoldable pub loaded_five : Grid → ℕ → List ℤ
loaded_five g i = five 0 0 (content g i) 0 0

-- once labelled
unfoldable pub labelled_five : Grid → ℕ → List ℤ
labelled_five g i = five (first_label g i) (second_label g i) (content g i) 0 0

-- during play: labels, content, state, raised premium
unfoldable pub held_five : Grid → Position → ℕ → List ℤ
held_five g s i = five (first_label g i) (second_label g i) (content g i) (get_or s i 0) (raised g s i)

-- during a replay: labels, content, state; no premium is kept
unfoldable pub moving_five : Grid → Position → ℕ → List ℤ
moving_five g s i = five (first_label g i) (second_label g i) (content g i) (get_or s i 0) 0

-- the work area during play
abbrev pub held : Grid → Position → List ℤ → List ℤ
held g s old = laid (held_five g s) (size g) old

-- a grid of so many rows and columns, within the limits
pub record Shape (rows columns : ℕ) : Type 0 where
  pub some_rows : 1 ≤ rows
  pub few_rows : rows ≤ 255
  pub some_columns : 1 ≤ columns
  pub few_columns : columns ≤ 255

-- the work area w stands for the position s of the grid g, which has a state for each cell; it is laid over old
pub record Stands (rows columns : ℕ) (g : Grid) (s : Position) (old w : List ℤ) : Type 0 where
  pub rows_are : g.rows ≡ rows
  pub columns_are : g.columns ≡ columns
  pub shape : Shape rows columns
  pub room : HasCells old (size g)
  pub long : length s ≡ size g
  pub holds_it : w ≡ held g s old

-- the same during a replay: the work area w has the states of the position s, and no premiums
pub record Moving (rows columns : ℕ) (g : Grid) (s : Position) (old w : List ℤ) : Type 0 where
  pub rows_are : g.rows ≡ rows
  pub columns_are : g.columns ≡ columns
  pub shape : Shape rows columns
  pub room : HasCells old (size g)
  pub long : length s ≡ size g
  pub holds_it : w ≡ laid (moving_five g s) (size g) old

-- the work area stands for some position
pub record Standing (rows columns : ℕ) (w : List ℤ) : Type 0 where
  pub grid : Grid
  pub position : Position
  pub old : List ℤ
  pub stands : Stands rows columns grid position old w
