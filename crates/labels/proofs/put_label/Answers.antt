-- `labels::put_label`: both labels are read, and both are put. Assumes nothing.
use Rattle.labels.proofs.Edges.{labelled_by}
use Rattle.labels.proofs.put_label.Goals as goal

pub returns : goal.returns
returns c =
    let a = c.args in
    labelled_by a.work.now c.put_first_label.new.work c.put_second_label.new.work a.index a.op _ _ _ _ c.requires.op_bound c.first_label-first.ensures c.second_label-second.ensures
    c.edge_first.ensures c.edge_second.ensures c.put_first_label.ensures c.put_second_label.ensures
