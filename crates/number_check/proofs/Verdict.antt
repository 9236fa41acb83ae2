-- The strict checks where the board passes: the lowest cell at fault decides. Assumes nothing.
use Prim.Native.Nat.{ℕ, ◌<◌, ◌≤◌}
use native.Mathlib.Omega.{arith}
use mathlib.Core.Path.{◌≡◌, sym, ◌∙◌}
use mathlib.Core.List.{map}
use mathlib.Core.Option.{none, some}
use Rattle.game.specs.Grid.{Grid, cells, size}
use Rattle.game.specs.Calls.{board_checks, first_given, number_wrong, number_check, strict_checks}
use Rattle.game.proofs.Strict.{numbers_none, numbers_some}
use Rattle.checks.proofs.More.{last_decides}
use Rattle.number_check.specs.Faults.{LowestWrong}

module _ (g : Grid) (cell : ℕ) (fine : none ≡ first_given (board_checks g)) (low : LowestWrong g cell) where
  -- a cell is at fault
  pub number_given : cell < size g → some (number_wrong cell) ≡ first_given (strict_checks g)
  number_given h = sym (numbers_some g cell h (low.found h) low.lower) ∙ last_decides (board_checks g) (map (number_check g) (cells g)) fine

  -- none is
  pub all_right : size g ≤ cell → none ≡ first_given (strict_checks g)
  all_right h = sym (numbers_none g (λ i k. low.lower i (omega arith))) ∙ last_decides (board_checks g) (map (number_check g) (cells g)) fine
