-- `mbf_write::put_column`: the bytes put so far are those of the rows passed. Assumes nothing.
use Prim.Native.Nat.{◌+◌, ◌*◌}
use native.Mathlib.Omega.{arith}
use mathlib.Core.Path.{refl, ◌∙◌}
use Rattle.area.specs.Numbers.{grid_of}
use Rattle.mbf_write.proofs.Mines.{count_join, more_put, none_put, put_length, put_to}
use Rattle.mbf_write.proofs.put_column.Goals as goal

pub loop-row-init : goal.loop-row-init
loop-row-init c =
    let a = c.args in
    (omega arith, refl, none_put (grid_of a.rows a.columns a.grid.now) a.file.now a.at (a.column * a.rows) (a.column * a.rows + 0) (omega arith))

pub put_mine-next-requires : goal.put_mine-next-requires
put_mine-next-requires c =
    let l = c.loop-row in
    let a = c.args in
    let g = grid_of a.rows a.columns a.grid.now in
    let b = a.column * a.rows in
    let i = b + l.row in
    record { shape = c.requires.shape; grid_len = (c.requires.grid_len.0, omega arith, omega arith, omega (arith, c.requires.grid_len.2, l.invariant.1, l.invariant.2.past, count_join g b i (b + a.rows) (omega arith) (omega arith), count_join g i (i + 1) (b + a.rows) (omega arith) (omega arith))) }

pub overflow_step-row : goal.overflow_step-row
overflow_step-row c = omega arith

pub loop-row-smaller : goal.loop-row-smaller
loop-row-smaller c = omega arith

pub loop-row-preserved : goal.loop-row-preserved
loop-row-preserved c =
    let l = c.loop-row in
    let a = c.args in
    let g = grid_of a.rows a.columns a.grid.now in
    let b = a.column * a.rows in
    let i = b + l.row in
    let p = c.put_mine-next.ensures in (
      omega arith,
      put_length g l.file l.next i (i + 1) _ _ p ∙ l.invariant.1,
      put_to g a.file.now a.at b (i + 1) (b + (l.row + 1)) _ _ (omega arith) (more_put g a.file.now a.at b i (i + 1) l.file l.next _ _ (omega arith) (omega arith) l.invariant.2 p),
    )

pub shape_of-file : goal.shape_of-file
shape_of-file c = c.loop-row.invariant.1

pub returns : goal.returns
returns c =
    let l = c.loop-row in
    let a = c.args in
    let b = a.column * a.rows in
    put_to (grid_of a.rows a.columns a.grid.now) a.file.now a.at b (b + l.row) (b + a.rows) l.file l.next (omega arith) l.invariant.2
