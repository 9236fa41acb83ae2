-- Along a row: after a column the three sums are the cell's number, and what is carried is what comes before the next. Assumes nothing.
use Prim.Native.Nat.{ℕ, ◌+◌, ◌-◌, ◌*◌, ◌<◌, ◌≤◌, min}
use native.Mathlib.Omega.{arith}
use mathlib.Core.Path.{◌≡◌, ap, ◌∙◌}
use Rattle.game.specs.Grid.{Grid, mine, number, square}
use Rattle.game.proofs.Carried.{number_by_columns}
use Rattle.game.proofs.Counts.{count_le}
use Rattle.game.proofs.Ranges.{length_square}
use Rattle.mine_sums.specs.Carried.{After, Before}
use Rattle.mine_sums.specs.Columns.{column_mines}
use Rattle.mine_sums.specs.declared.Sums.{Sums}

module _ (g : Grid) (row c : ℕ) (s : Sums) where
  -- the three sums are the cell's number
  pub after_number : row < g.rows → c < g.columns → After g row c s → s.left + s.here + s.right ≡ number g (c * g.rows + row)
  unfolding column_mines
  after_number h k a = number_by_columns g row c s.left s.here s.right h k a.left_is a.here_is a.right_is

  -- nine mines at most
  pub after_few : row < g.rows → c < g.columns → After g row c s → s.left + s.here + s.right ≤ 9
  unfolding number
  after_few h k a = omega (arith, after_number h k a, count_le (mine g) (square g (c * g.rows + row)), length_square g (c * g.rows + row))

  -- the next column is come to
  pub after_before : After g row c s → Before g row (c + 1) s
  after_before a =
      let e : c ≡ c + 1 - 1 = omega arith in
      let n : min (c + 2) g.columns ≡ min (c + 1 + 1) g.columns = omega arith in
      record { here_is = a.here_is ∙ ap (λ (k : ℕ). column_mines g row k (c + 1)) e; right_is = a.right_is ∙ ap (column_mines g row (c + 1)) n; next_is = a.next_is }
