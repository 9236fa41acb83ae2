-- The grid of a file has its mines exactly at the listed places. Assumes nothing.
use Prim.Native.Nat.{ℕ, ◌+◌, ◌*◌}
use native.Mathlib.Omega.{arith}
use native.Mathlib.Decide.{dec_lt}
use mathlib.Core.Path.{◌≡◌, ap, sym, ◌∙◌}
use mathlib.Core.List.{List}
use lib.IntN.{pos}
use lib.ListN.{get_or-eq_default, length}
use Rattle.game.specs.Lists.{has}
use Rattle.game.specs.Grid.{Grid, column_of, is_mine, mine, row_of, size}
use Rattle.game.proofs.Members.{get_d_range}
use Rattle.game.proofs.Truth.{no→false}
use Rattle.lines.specs.BoardLine.{place_mine, value_of}
use Rattle.lines.proofs.Runs.{length_cells}
use Rattle.lines.proofs.Written.{value_mine}
use Rattle.mbf_form.specs.Form.{listed_grid, listed_values, mine_places}
use Rattle.mbf_form.proofs.Accepted.{Accepted, place_in}

-- the place of a cell's value in the run
abbrev pub place_of : Grid → ℕ → ℕ
place_of g i = row_of g i * g.columns + column_of g i

-- ---- the mines of the grid

pub length_listed : (file : List ℕ) → length (listed_values file) ≡ size (listed_grid file)
unfolding listed_values
length_listed file = length_cells (λ p. value_of (has p (mine_places file))) (size (listed_grid file))

module _ (file : List ℕ) (a : Accepted file) where
  -- there is a mine at a place exactly if the file lists it
  pub listed_place : (p : ℕ) → place_mine (listed_grid file) p ≡ has p (mine_places file)
  unfolding listed_values
  listed_place p =
      elim (dec_lt p (size (listed_grid file))) [
        | yes h ↦ ap is_mine (get_d_range (λ q. value_of (has q (mine_places file))) (pos 0) (size (listed_grid file)) p h) ∙ value_mine (has p (mine_places file))
        | no h ↦ ap is_mine (get_or-eq_default (listed_grid file).values (pos 0) (omega (arith, length_listed file)))
            ∙ sym (no→false (has p (mine_places file)) (λ t. h (place_in file a p t)))
      ]

  pub listed_mine : (i : ℕ) → mine (listed_grid file) i ≡ has (place_of (listed_grid file) i) (mine_places file)
  unfolding mine
  listed_mine i = listed_place (place_of (listed_grid file) i)
