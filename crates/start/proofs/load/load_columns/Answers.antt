-- `start::load::load_columns`: the rows passed are loaded in these columns; all rows are the columns. Assumes nothing.
use Prim.Native.Nat.{ℕ}
use native.Mathlib.Omega.{arith}
use mathlib.Core.Path.{◌≡◌, ap, sym, ◌∙◌}
use mathlib.Core.List.{List}
use lib.IntN.{ℤ}
use lib.ListN.{length}
use Rattle.game.specs.Lists.{range, fold}
use Rattle.game.proofs.Members.{fold_more}
use Rattle.area.specs.Numbers.{grid_of}
use Rattle.area.specs.Squares.{row_cells}
use Rattle.start.proofs.Loaded.{columns_by_rows, length_cells}
use Rattle.start.proofs.load.load_columns.Invariants.{in_row}
use Rattle.start.proofs.load.load_columns.Goals as goal

pub loop-row-preserved : goal.loop-row-preserved
loop-row-preserved c =
    let a = c.args in
    let l = c.loop-row in
    let e = c.load_row.ensures in
    let one = in_row a.rows a.columns a.grid.now a.from a.to in (
      omega arith,
      e ∙ ap (λ (w : List ℤ). one w l.row) l.invariant.1 ∙ sym (fold_more one a.work.now 0 l.row (omega arith)),
      ap length e ∙ length_cells (grid_of a.rows a.columns a.grid.now) l.work (row_cells a.rows l.row a.from a.to) ∙ l.invariant.2,
    )

pub returns : goal.returns
returns c =
    let a = c.args in
    let l = c.loop-row in
    let e : l.row ≡ a.rows = omega arith in
    l.invariant.1 ∙ ap (λ (k : ℕ). fold (in_row a.rows a.columns a.grid.now a.from a.to) a.work.now (range 0 k)) e
    ∙ columns_by_rows (grid_of a.rows a.columns a.grid.now) a.work.now a.from a.to
