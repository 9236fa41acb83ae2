-- `record_calls::price_records`: the flat call in its form, and its words copied into the run. Assumes nothing.
use lib.ListN.{length}
use Rattle.game.specs.Calls.{price_call}
use Rattle.area.specs.Numbers.{grid_of}
use Rattle.record_checks.specs.Promises.{within}
use Rattle.record_checks.proofs.Keeping.{keeps_form}
use Rattle.record_calls.proofs.price_records.Goals as goal

pub returns : goal.returns
returns c =
    let a = c.args in
    let g = grid_of a.rows a.columns a.grid.now in
    keeps_form a.strict g a.work.now a.list.now (within g a.work.now a.list.now (length a.run.now) (price_call a.openings_first g a.work.now a.list.now)) a.run.now _ _ _ _ _ c.price_in_form-priced.ensures c.written_by-count.ensures c.records_of.ensures
