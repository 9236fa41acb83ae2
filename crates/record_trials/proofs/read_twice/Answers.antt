-- `record_trials::read_twice`: the search finds the work area and the reader as the round left them. Assumes nothing.
use mathlib.Core.Bool.{false}
use Rattle.area.specs.Numbers.{grid_of}
use Rattle.draws.specs.Answers.{mode_of}
use Rattle.record_trials.proofs.TwoCalls.{reads_twice}
use Rattle.record_trials.proofs.read_twice.Goals as goal

pub returns : goal.returns
returns c =
    let a = c.args in
    let round = c.random_round-round in
    let search = c.random_search-search in
    reads_twice false (mode_of a.mode) (grid_of a.rows a.columns a.grid.now) a.work.now a.list.now a.bytes a.place a.rounds c.reader-reader.result round.new.reader search.new.reader round.result search.result round.new.work search.new.work round.new.list
    c.reader-reader.ensures round.ensures search.ensures
