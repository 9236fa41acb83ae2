-- A board of a line that was taken. Assumes nothing.
use Rattle.std.specs.Prelude.{ℕ, ◌*◌, ◌≤◌, ◌≡◌, List, ℤ, length}
use Rattle.area.specs.Stages.{Shape}

-- rows and columns from 1 to 255, at most 2,048 cells, a value for each
pub record Taken (rows columns : ℕ) (values : List ℤ) : Type 0 where
  pub shaped : Shape rows columns
  pub few : rows * columns ≤ 2048
  pub whole : length values ≡ rows * columns
