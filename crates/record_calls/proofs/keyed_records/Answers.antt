-- `record_calls::keyed_records`: the flat call in its form, and its words copied into the run. Assumes nothing.
use lib.ListN.{length}
use Rattle.game.specs.Calls.{keyed_round_call}
use Rattle.area.specs.Numbers.{grid_of}
use Rattle.draws.specs.Answers.{mode_of}
use Rattle.keys.specs.Stands.{key_of}
use Rattle.record_checks.specs.Promises.{within}
use Rattle.record_checks.proofs.Keeping.{keeps_form}
use Rattle.record_calls.proofs.keyed_records.Goals as goal

pub returns : goal.returns
returns c =
    let a = c.args in
    let g = grid_of a.rows a.columns a.grid.now in
    keeps_form a.strict g a.work.now a.list.now (within g a.work.now a.list.now (length a.run.now) (keyed_round_call (mode_of a.mode) g a.work.now a.list.now (key_of a.key))) a.run.now _ _ _ _ _ c.keyed_in_form-rolled.ensures c.written_by_key-count.ensures c.records_of.ensures
