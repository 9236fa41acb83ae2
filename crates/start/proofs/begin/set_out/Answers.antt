-- `start::begin::set_out`: loaded and labelled, every cell is closed; the safe cells are counted. Assumes nothing.
use native.Mathlib.Omega.{arith}
use mathlib.Core.Path.{refl}
use Rattle.area.specs.Numbers.{grid_of}
use Rattle.start.proofs.Begun.{set_out}
use Rattle.start.proofs.begin.set_out.Goals as goal

pub returns : goal.returns
returns c =
    let count = c in
    let label = count.before.before.before in
    let a = c.args in
    let g = grid_of a.rows a.columns a.grid.now in
    set_out g a.work.now (omega arith) c.label.new.work c.count_safe.result c.requires.shape
    (c.label.ensures g a.work.now refl refl (omega arith) c.load.ensures).1 c.count_safe.ensures
