-- A sweep cell by cell: what it does with one cell. Assumes nothing.
use Prim.Native.Nat.{ℕ, ◌-◌, ◌<◌}
use mathlib.Core.Path.{◌≡◌}
use mathlib.Core.Bool.{Bool, cond, false, true, ◌||◌}
use mathlib.Core.List.{List}
use lib.Dec.{eqb}
use lib.IntN.{ℤ}
use Rattle.area.specs.Numbers.{HasCells, put_premium, put_state}
use Rattle.area.proofs.CellByCell.{Cell, at, cell_area, priced, put-premium, put-state, read_first, read_premium, read_second, read_state, same_at, stated}
use Rattle.play.specs.Walks.{swept_cell}

abbrev pub labelled_cell : ℕ → Cell → Bool
labelled_cell label c = eqb c.first label || eqb c.second label

abbrev pub sweep_cell : ℕ → Cell → Cell
sweep_cell label c = cond (labelled_cell label c) (cond (eqb c.state 0) (stated 1 c) (priced (c.premium - 1) c)) c

pub sweep_acts : (n : ℕ) (old : List ℤ) (room : HasCells old n) (label : ℕ) (C : ℕ → Cell) (i : ℕ) → i < n
    → swept_cell label (cell_area C n old) i ≡ cell_area (at C i (sweep_cell label (C i))) n old
unfolding swept_cell
sweep_acts n old room label C i h =
    rw (read_first n old room C i h, read_second n old room C i h, read_state n old room C i h, read_premium n old room C i h)
    (go (labelled_cell label (C i)) (eqb (C i).state 0))
  where
    go : (a b : Bool) → cond a (cond b (put_state (cell_area C n old) i 1) (put_premium (cell_area C n old) i ((C i).premium - 1))) (cell_area C n old)
        ≡ cell_area (at C i (cond a (cond b (stated 1 (C i)) (priced ((C i).premium - 1) (C i))) (C i))) n old
    go true true = put-state n old room C i 1 h
    go true false = put-premium n old room C i ((C i).premium - 1) h
    go false b = same_at n old room C i
