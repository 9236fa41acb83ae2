-- `mbf_write::count_column`: the mines counted so far are those of the rows passed. Assumes nothing.
use Prim.Native.Nat.{ℕ, ◌+◌, ◌*◌}
use native.Mathlib.Omega.{arith}
use mathlib.Core.Path.{◌≡◌, ap, ◌∙◌}
use lib.ListN.{length}
use Rattle.area.specs.Numbers.{grid_of}
use Rattle.area.proofs.Tests.{byte_le}
use Rattle.mbf_write.specs.Mines.{mines_from}
use Rattle.mbf_write.proofs.Mines.{none_counted, one_counted}
use Rattle.mbf_write.proofs.count_column.Goals as goal

pub loop-row-init : goal.loop-row-init
loop-row-init c =
    let a = c.args in
    (omega arith, omega arith, none_counted (grid_of a.rows a.columns a.grid.now) (a.column * a.rows) (a.column * a.rows + 0) (omega arith))

pub overflow_add-mines : goal.overflow_add-mines
overflow_add-mines c = omega (arith, byte_le c.mine_in.result)

pub overflow_step-row : goal.overflow_step-row
overflow_step-row c = omega arith

pub loop-row-smaller : goal.loop-row-smaller
loop-row-smaller c = omega arith

pub loop-row-preserved : goal.loop-row-preserved
loop-row-preserved c =
    let l = c.loop-row in
    let a = c.args in
    let b = a.column * a.rows in (
      omega arith,
      omega (arith, byte_le c.mine_in.result),
      one_counted (grid_of a.rows a.columns a.grid.now) b (b + l.row) (b + (l.row + 1)) l.mines c.mine_in.result (omega arith) (omega arith) l.invariant.2 c.mine_in.ensures,
    )

pub returns : goal.returns
returns c =
    let l = c.loop-row in
    let a = c.args in
    let e : l.row ≡ a.rows = omega arith in
    l.invariant.2 ∙ ap (λ (k : ℕ). length (mines_from (grid_of a.rows a.columns a.grid.now) (a.column * a.rows) (a.column * a.rows + k))) e
