-- One cell of each pass over the work area. Assumes nothing.
use Rattle.std.specs.Prelude.{ℕ, cond, List, eqb, ℤ}
use Rattle.game.specs.Lists.{fold, range}
use Rattle.game.specs.Grid.{Grid, index}
use Rattle.area.specs.Numbers.{content_at, premium_at, put_first, put_content, put_lowered, put_premium, put_second, put_state}
use Rattle.area.specs.Stages.{content}

-- ---- loading

-- a cell before labelling: its content, and 0 elsewhere
abbrev pub load_at : List ℤ → ℕ → ℕ → List ℤ
load_at w i k = put_premium (put_state (put_content (put_second (put_first w i 0) i 0) i k) i 0) i 0

-- a cell of the grid is loaded
abbrev pub load_cell : Grid → List ℤ → ℕ → List ℤ
load_cell g w i = load_at w i (content g i)

-- the cells of a column are loaded
abbrev pub load_column : Grid → List ℤ → ℕ → List ℤ
load_column g w column = fold (λ u row. load_cell g u (index g row column)) w (range 0 g.rows)

-- ---- the end of a call

-- the lowered premium takes the content's place; a mine's content is 0, as its premium is
abbrev pub lower_premium : List ℤ → ℕ → List ℤ
lower_premium w i = cond (eqb (content_at w i) 0) w (put_lowered w i (premium_at w i))

-- and 0 stands for the raised premium
abbrev pub settle_cell : List ℤ → ℕ → List ℤ
settle_cell w i = put_premium (lower_premium w i) i 0
