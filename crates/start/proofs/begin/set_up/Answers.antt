-- `start::begin::set_up`: the passes one after the other. Assumes nothing.
use native.Mathlib.Omega.{arith}
use mathlib.Core.Path.{refl}
use Rattle.area.specs.Numbers.{grid_of}
use Rattle.area.proofs.Cells.{cells_few}
use Rattle.start.proofs.Begun.{begun_setting, few_openings}
use Rattle.start.proofs.begin.set_up.Goals as goal

pub overflow_add-result : goal.overflow_add-result
overflow_add-result c =
    let label = c.before.before.before.before.before.before.before in
    let a = c.args in
    let g = grid_of a.rows a.columns a.grid.now in
    let l = c.label-openings.ensures g a.work.now refl refl (omega arith) c.load.ensures in
    omega (arith, l.0, few_openings g, cells_few a.rows a.columns c.requires.shape)

pub returns : goal.returns
returns c =
    let raise = c.before in
    let lay = raise.before.before.before in
    let label = lay.before.before.before in
    let a = c.args in
    let g = grid_of a.rows a.columns a.grid.now in
    begun_setting g a.work.now (omega arith) c.label-openings.new.work c.lay-unlabelled.new.work c.raise_all.new.work c.label-openings.result c.lay-unlabelled.result
    (c.label-openings.ensures g a.work.now refl refl (omega arith) c.load.ensures) c.lay-unlabelled.ensures.1 c.lay-unlabelled.ensures.0 c.raise_all.ensures
