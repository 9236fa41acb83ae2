-- `mbf_write::count_mines`: the mines counted so far are those of the columns passed. Assumes nothing.
use Prim.Native.Nat.{ℕ, ◌+◌, ◌*◌}
use native.Mathlib.Omega.{arith}
use native.Mathlib.Nat.{mul_comm}
use mathlib.Core.Path.{◌≡◌, ap, ◌∙◌}
use lib.ListN.{length}
use Rattle.game.proofs.Squares.{next_column}
use Rattle.area.specs.Numbers.{grid_of}
use Rattle.area.proofs.Cells.{cells_few}
use Rattle.mbf_write.specs.Mines.{mines_from}
use Rattle.mbf_write.proofs.Mines.{column_inside, count_join, mines_few, none_counted}
use Rattle.mbf_write.proofs.count_mines.Goals.{After-count_column-mines}
use Rattle.mbf_write.proofs.count_mines.Goals as goal

pub loop-column-init : goal.loop-column-init
loop-column-init c =
    let a = c.args in
    (omega arith, none_counted (grid_of a.rows a.columns a.grid.now) 0 (0 * a.rows) (omega arith))

-- the mines of one column more
more : (c : After-count_column-mines)
    → c.loop-column.mines + c.count_column-mines.result ≡ length (mines_from (grid_of c.args.rows c.args.columns c.args.grid.now) 0 (c.loop-column.column * c.args.rows + c.args.rows))
more c =
    let l = c.loop-column in
    let a = c.args in
    let b = l.column * a.rows in
    omega (arith, l.invariant.1, c.count_column-mines.ensures, count_join (grid_of a.rows a.columns a.grid.now) 0 b (b + a.rows) (omega arith) (omega arith))

pub overflow_add-mines : goal.overflow_add-mines
overflow_add-mines c =
    let l = c.loop-column in
    let a = c.args in
    omega (arith, more (goal.at.overflow_add-mines c).After-count_column-mines, mines_few (grid_of a.rows a.columns a.grid.now) 0 (l.column * a.rows + a.rows), column_inside a.rows a.columns l.column (omega arith), cells_few a.rows a.columns c.requires.shape)

pub overflow_step-column : goal.overflow_step-column
overflow_step-column c = omega arith

pub loop-column-smaller : goal.loop-column-smaller
loop-column-smaller c = omega arith

pub loop-column-preserved : goal.loop-column-preserved
loop-column-preserved c =
    let l = c.loop-column in
    let a = c.args in
    (omega arith, more (goal.at.loop-column-preserved c).After-count_column-mines ∙ ap (λ (n : ℕ). length (mines_from (grid_of a.rows a.columns a.grid.now) 0 n)) (next_column a.rows l.column))

pub returns : goal.returns
returns c =
    let l = c.loop-column in
    let a = c.args in
    let e : l.column ≡ a.columns = omega arith in
    l.invariant.1 ∙ ap (λ (n : ℕ). length (mines_from (grid_of a.rows a.columns a.grid.now) 0 n)) (ap (λ (k : ℕ). k * a.rows) e ∙ mul_comm a.columns a.rows)
