-- `random::unlisted`: a round with an empty list. Assumes nothing.
use Rattle.game.specs.Rounds.{random_round}
use Rattle.draws.specs.Answers.{mode_of}
use Rattle.supplies.specs.Origins.{source_of}
use Rattle.random.proofs.Searches.{once_searched}
use Rattle.random.proofs.unlisted.Goals as goal

pub returns : goal.returns
returns c =
    let x = c.round in
    let a = c.args in record { round_grows = x.ensures.round_grows; searching = λ g old origin at st n d. once_searched a.rows a.columns g old origin (random_round g (source_of (mode_of a.mode) a.draws.now origin) at) _ x.new.work _ x.result (x.ensures.rolling g old origin at st n d) }
