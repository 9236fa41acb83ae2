-- `waiting::wait`: a 0-cell without label is one of those that may yet wait, so there is a place for it. Assumes nothing.
use native.Mathlib.Omega.{arith}
use mathlib.Core.Path.{ap}
use Rattle.labels.proofs.Edges.{fresh_yes}
use Rattle.labels.proofs.Frees.{free_labelled}
use mathlib.Core.Bool.{not}
use Rattle.waiting.proofs.wait.Goals as goal

pub put_waiting-requires : goal.put_waiting-requires
put_waiting-requires c =
    let a = c.args in
    let f = fresh_yes a.cells a.work.now a.index c.fresh.result c.fresh.ensures (ap not c.if-not-fresh.false) in
    let less = free_labelled a.cells a.op c.requires.le_op.0 a.work.now a.index c.requires.has_cells f in
    omega (arith, less, c.requires.has_cells, c.requires.work_bound, c.put_label.auto.work)
