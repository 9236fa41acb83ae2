-- The board line of a grid is accepted and stands for the same mines, so it is priced as the grid is. Assumes nothing.
use Prim.Native.Nat.{ℕ, ◌+◌, ◌*◌, ◌≤◌}
use native.Mathlib.Omega.{arith}
use native.Mathlib.Decide.{dec_lt}
use mathlib.Core.Path.{◌≡◌, ap, sym, ◌∙◌}
use mathlib.Core.Bool.{◌||◌, false, true}
use mathlib.Core.List.{List, map}
use mathlib.Core.Option.{none}
use lib.IntN.{ℤ, pos}
use lib.ListN.{get_or-eq_default, length}
use Rattle.game.specs.Lists.{range}
use Rattle.game.specs.Grid.{Grid, column_of, is_mine, mine, row_of, size}
use Rattle.game.specs.Rounds.{moves_of}
use Rattle.game.specs.Calls.{side_out}
use Rattle.game.proofs.Alike.{revalued, round_same, three_bv_same}
use Rattle.game.proofs.Members.{get_d_range}
use Rattle.lines.specs.BoardLine.{board_line, place_mine, value_of}
use Rattle.lines.proofs.Runs.{length_cells}
use Rattle.lines.proofs.Written.{line_accepted, line-grid, value_mine}
use Rattle.line_price.specs.Prices.{price_of, price_or}

-- the values of the grid that the board line stands for: -1 for each mine, 0 for any other cell
abbrev mine_values : Grid → List ℤ
mine_values g = map (λ p. value_of (place_mine g p)) (range 0 (size g))

-- they are mines where the grid has them
same-mines : (g : Grid) → length g.values ≡ size g → (i : ℕ) → mine g i ≡ mine (revalued g (mine_values g)) i
unfolding mine
same-mines g long i =
    let p = row_of g i * g.columns + column_of g i in
    elim (dec_lt p (size g)) [
      | yes h ↦ sym (ap is_mine (get_d_range (λ q. value_of (place_mine g q)) (pos 0) (size g) p h) ∙ value_mine (place_mine g p))
      | no h ↦
          ap is_mine (get_or-eq_default g.values (pos 0) (omega arith)
          ∙ sym (get_or-eq_default (mine_values g) (pos 0) (omega (arith, length_cells (λ q. value_of (place_mine g q)) (size g)))))
    ]

-- the board line of a grid is priced as the grid is
pub written_price : (g : Grid) → (side_out g.rows || side_out g.columns) ≡ false → size g ≤ 2048 → length g.values ≡ size g → price_of (board_line g) ≡ price_or none g
unfolding price_of
written_price g shape few long =
    let same = same-mines g long in
    (λ i. price_or (line_accepted g shape few long i) (line-grid g shape few long i))
    ∙ sym (λ i. record {
      number = 0;
      units = three_bv_same g (mine_values g) same i;
      greedy = length (moves_of (round_same g (mine_values g) same false i));
      openings-first = length (moves_of (round_same g (mine_values g) same true i));
    })
