-- Two runs of values with the same mines: the sums look at mines alone, so what is carried along a row goes over from one grid to the other. Assumes nothing.
use Prim.Native.Nat.{ℕ, ◌+◌, ◌-◌, ◌*◌, min}
use mathlib.Core.Path.{◌≡◌, ◌∙◌}
use mathlib.Core.Bool.{◌&&◌}
use mathlib.Core.List.{List, map}
use lib.Dec.{ltb}
use lib.IntN.{pos, ℤ}
use lib.ListN.{get_or}
use Rattle.game.specs.Grid.{column_of, index, is_mine, mine, near, row_of}
use Rattle.game.specs.Lists.{concat_map, count, range}
use Rattle.area.specs.Numbers.{grid_of}
use Rattle.mine_sums.specs.Carried.{After, Before}
use Rattle.mine_sums.specs.Columns.{column_mines}
use Rattle.mine_sums.specs.declared.Sums.{Sums}

module _ (rows columns : ℕ) (vs us : List ℤ) (same : (p : ℕ) → is_mine (get_or vs p (pos 0)) ≡ is_mine (get_or us p (pos 0))) where
  -- every cell is a mine in both or in neither
  mines : mine (grid_of rows columns vs) ≡ mine (grid_of rows columns us)
  unfolding mine
  mines = λ j i. same (row_of (grid_of rows columns vs) i * columns + column_of (grid_of rows columns vs) i) j

  -- so are the mines of columns as many
  sums : column_mines (grid_of rows columns vs) ≡ column_mines (grid_of rows columns us)
  unfolding column_mines
  sums = λ j row a b. count (mines j) (concat_map (λ column. map (λ r. index (grid_of rows columns vs) r column) (near rows row)) (range a b))

  -- what is carried before a column
  pub before_alike : (row c : ℕ) (s : Sums) → Before (grid_of rows columns vs) row c s → Before (grid_of rows columns us) row c s
  before_alike row c s b =
      record {
        here_is = b.here_is ∙ (λ j. sums j row (c - 1) c);
        right_is = b.right_is ∙ (λ j. sums j row c (min (c + 1) columns));
        next_is = b.next_is ∙ (λ j. ltb c columns && mines j (c * rows + row));
      }

  -- and after it
  pub after_alike : (row c : ℕ) (s : Sums) → After (grid_of rows columns vs) row c s → After (grid_of rows columns us) row c s
  after_alike row c s a =
      record {
        left_is = a.left_is ∙ (λ j. sums j row (c - 1) c);
        here_is = a.here_is ∙ (λ j. sums j row c (c + 1));
        right_is = a.right_is ∙ (λ j. sums j row (c + 1) (min (c + 2) columns));
        mine_is = a.mine_is ∙ (λ j. mines j (c * rows + row));
        next_is = a.next_is ∙ (λ j. ltb (c + 1) columns && mines j ((c + 1) * rows + row));
      }
