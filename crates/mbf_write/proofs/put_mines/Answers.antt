-- `mbf_write::put_mines`: the bytes put so far are those of the columns passed. Assumes nothing.
use Prim.Native.Nat.{ℕ, ◌+◌, ◌*◌}
use native.Mathlib.Omega.{arith}
use native.Mathlib.Nat.{mul_comm}
use mathlib.Core.Path.{◌≡◌, ap, refl, ◌∙◌}
use Rattle.game.proofs.Squares.{next_column}
use Rattle.area.specs.Numbers.{grid_of}
use Rattle.mbf_write.proofs.Mines.{column_inside, count_join, more_put, none_put, put_length, put_to}
use Rattle.mbf_write.proofs.put_mines.Goals as goal

pub loop-column-init : goal.loop-column-init
loop-column-init c =
    let a = c.args in
    (omega arith, refl, none_put (grid_of a.rows a.columns a.grid.now) a.file.now 4 0 (0 * a.rows) (omega arith))

pub put_column-next-requires : goal.put_column-next-requires
put_column-next-requires c =
    let l = c.loop-column in
    let a = c.args in
    let g = grid_of a.rows a.columns a.grid.now in
    let b = l.column * a.rows in
    let h = column_inside a.rows a.columns l.column (omega arith) in
    record { shape = c.requires.shape; grid_len = (c.requires.grid_len.0, omega arith, omega (arith, c.requires.grid_len.1, l.invariant.1, l.invariant.2.past, count_join g 0 b (a.rows * a.columns) (omega arith) (omega arith), count_join g b (b + a.rows) (a.rows * a.columns) (omega arith) h)) }

pub overflow_step-column : goal.overflow_step-column
overflow_step-column c = omega arith

pub loop-column-smaller : goal.loop-column-smaller
loop-column-smaller c = omega arith

pub loop-column-preserved : goal.loop-column-preserved
loop-column-preserved c =
    let l = c.loop-column in
    let a = c.args in
    let g = grid_of a.rows a.columns a.grid.now in
    let b = l.column * a.rows in
    let p = c.put_column-next.ensures in (
      omega arith,
      put_length g l.file l.next b (b + a.rows) _ _ p ∙ l.invariant.1,
      put_to g a.file.now 4 0 (b + a.rows) ((l.column + 1) * a.rows) _ _ (next_column a.rows l.column) (more_put g a.file.now 4 0 b (b + a.rows) l.file l.next _ _ (omega arith) (omega arith) l.invariant.2 p),
    )

pub shape_of-file : goal.shape_of-file
shape_of-file c = c.loop-column.invariant.1

pub returns : goal.returns
returns c =
    let l = c.loop-column in
    let a = c.args in
    let e : l.column ≡ a.columns = omega arith in
    (put_to (grid_of a.rows a.columns a.grid.now) a.file.now 4 0 (l.column * a.rows) (a.rows * a.columns) l.file l.next (ap (λ (k : ℕ). k * a.rows) e ∙ mul_comm a.columns a.rows) l.invariant.2).put
