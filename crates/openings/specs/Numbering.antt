-- What labelling opening after opening does to the work area. `k` gives the contents of the cells, which stay. Assumes nothing.
use Rattle.std.specs.Prelude.{ℕ, ◌+◌, ◌*◌, ◌<◌, ◌≤◌, ◌≡◌, ◌⊎◌, List, ℤ, pos, get_or, length}
use Rattle.area.specs.Numbers.{HasCells, content_at, first_at, first_place, five}
use Rattle.area.specs.Stages.{content, labelled_five, loaded_five}
use Rattle.game.specs.Area.{laid}
use Rattle.game.specs.Early.{met}
use Rattle.game.specs.Grid.{Grid, column_of, size}
use Rattle.game.specs.Openings.{openings, places}
use Rattle.labels.specs.Spread.{OpeningLabelled}

-- after a cell was looked at as the lowest of the next opening: r openings in place of n
pub record Begun (g : Grid) (k : ℕ → ℕ) (n i : ℕ) (w : List ℤ) (r : ℕ) (w' : List ℤ) : Type 0 where
  pub fresh : k i ≡ 1 → first_at w i ≡ 0 → (r ≡ n + 1) × OpeningLabelled g k (n + 1) i w w'
  pub none : (k i ≡ 1 → first_at w i ≡ 0 → ⊥) → (r ≡ n) × (w' ≡ w)
  pub few : r ≤ n + 1
  pub long : length w' ≡ length w

-- after `label`: as many openings as the grid has, and each cell's labels
abbrev pub Labelling : ℕ → ℕ → List ℤ → ℕ → List ℤ → Type 0
Labelling rows columns w r w' =
    (g : Grid) (old : List ℤ) → g.rows ≡ rows → g.columns ≡ columns → HasCells old (size g)
    → w ≡ laid (loaded_five g) (size g) old → (r ≡ length (openings g)) × (w' ≡ laid (labelled_five g) (size g) old)

-- a cell's five numbers while the openings os are labelled
unfoldable pub part_five : Grid → List (List ℕ) → ℕ → List ℤ
part_five g os i = five (get_or (places g i 1 os) 0 0) (get_or (places g i 1 os) 1 0) (content g i) 0 0

-- the work area has so many columns of the grid: all, or only the first, and then no 0-cell of the last of them has a label, so that no labelled opening goes on past them
abbrev pub Contained : Grid → ℕ → List ℤ → Type 0
Contained g columns w =
    (columns ≡ g.columns) ⊎ ((columns < g.columns) × ((i : ℕ) → column_of g i + 1 ≡ columns → content_at w i ≡ 1 → first_at w i ≡ 0))

-- the work area w, w₀ before, once the cells below i were looked at; it has so many columns of a grid
pub record Numbered (rows columns : ℕ) (w₀ : List ℤ) (i count : ℕ) (w : List ℤ) : Type 0 where
  pub inside : i ≤ rows * columns
  pub few : count ≤ i
  pub long : length w ≡ length w₀
  pub past : (x : ℕ) → first_place (rows * columns) ≤ x → get_or w x (pos 0) ≡ get_or w₀ x (pos 0)
  pub parts : (g : Grid) (old : List ℤ) → g.rows ≡ rows → HasCells old (rows * columns) → w₀ ≡ laid (loaded_five g) (rows * columns) old → Contained g columns w
      → (count ≡ length (met g i)) × (w ≡ laid (part_five g (met g i)) (rows * columns) old)
