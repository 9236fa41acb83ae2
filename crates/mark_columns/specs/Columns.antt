-- Columns that are marked, and those that are not. Assumes nothing.
use Rattle.std.specs.Prelude.{ℕ, ◌+◌, ◌<◌, ◌≤◌, ◌≡◌, ◌⊎◌, false, List, ℤ, get_or}
use Rattle.mark_tests.specs.Tests.{column_shares}

-- a column more than two from another
abbrev pub Far : ℕ → ℕ → Type 0
Far c column = (c + 2 < column) ⊎ (column + 2 < c)

-- a column is marked, or it is as it was and something holds
abbrev pub MarkedOr : Type 0 → List ℕ → List ℕ → ℕ → Type 0
MarkedOr P tops tops' c = (get_or tops' c 0 ≡ 0) ⊎ ((get_or tops' c 0 ≡ get_or tops c 0) × P)

-- of the columns from one to another one has no cell with one of two labels
pub record Parted (w : List ℤ) (rows first second low high : ℕ) : Type 0 where
  pub at : ℕ
  pub from_low : low ≤ at
  pub to_high : at ≤ high
  pub bare : column_shares w rows first second at ≡ false
