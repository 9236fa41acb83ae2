-- A walk over cells in index order that looks for so many units. Assumes nothing.
use Rattle.std.specs.Prelude.{ℕ, ◌+◌, ◌-◌, ◌*◌, ◌<◌, ◌≤◌, ◌≡◌, ◌⊎◌, Bool, ◌&&◌, not, List, T, eqb, ℤ, pos, get_or, length}
use Rattle.game.specs.Area.{laid}
use Rattle.game.specs.Early.{StopsAt, certain, found}
use Rattle.game.specs.Grid.{Grid, size}
use Rattle.area.specs.Numbers.{HasCells, content_at, first_at, first_place}
use Rattle.area.specs.Stages.{loaded_five}
use Rattle.openings.specs.Numbering.{Contained}
use Rattle.early.specs.declared.walks.Stop.{Stop}

-- so many units lack once the cells below i have been looked at, and at none of these was it certain
pub record Counting (g : Grid) (units i lacking : ℕ) : Type 0 where
  pub counts : found g i + lacking ≡ units
  pub open_before : (j : ℕ) → j < i → T (certain g units j) → ⊥

-- the work area is unchanged past n cells
pub record Beyond (n : ℕ) (old w : List ℤ) : Type 0 where
  pub long : length w ≡ length old
  pub past : (x : ℕ) → first_place n ≤ x → get_or w x (pos 0) ≡ get_or old x (pos 0)

-- so many columns have the squares of the cells below limit: they are all the grid's, or one more than those cells stand in
abbrev pub Wide : Grid → ℕ → ℕ → Type 0
Wide g columns limit = (columns ≡ g.columns) ⊎ ((columns < g.columns) × (limit + g.rows ≤ g.rows * columns))

-- a walk over the cells below limit, on the first columns of a grid of so many cells, stopped there or where it was certain
pub record Walked (rows columns cells limit units : ℕ) (w₀ : List ℤ) (r : Stop) (w : List ℤ) : Type 0 where
  pub inside : r.cell ≤ limit
  pub beyond : Beyond (rows * columns) w₀ w
  pub ends : (r.cell ≡ limit) ⊎ ((r.lacking ≡ 0) ⊎ (cells - r.cell < r.lacking))
  pub tells : (g : Grid) (old : List ℤ) → g.rows ≡ rows → size g ≡ cells → Wide g columns limit → HasCells old (rows * columns)
      → w₀ ≡ laid (loaded_five g) (rows * columns) old → Contained g columns w → Counting g units r.cell r.lacking

-- a 0-cell with a label
abbrev pub labelled_zero : List ℤ → ℕ → Bool
labelled_zero w i = eqb (content_at w i) 1 && not (eqb (first_at w i) 0)

-- a glance at the first columns: where it is certain, so many units lack
pub record Glanced (g : Grid) (units : ℕ) (old : List ℤ) (r : Stop) (w : List ℤ) : Type 0 where
  pub inside : r.cell ≤ size g
  pub beyond : Beyond (size g) old w
  pub tells : (r.lacking ≡ 0) ⊎ (size g - r.cell < r.lacking) → Counting g units r.cell r.lacking

-- the walk stopped at the first cell where it is certain; so many units lack then
pub record Stopped (g : Grid) (units : ℕ) (old : List ℤ) (r : Stop) (w : List ℤ) : Type 0 where
  pub stops : StopsAt g units r.cell
  pub counts : found g r.cell + r.lacking ≡ units
  pub beyond : Beyond (size g) old w
