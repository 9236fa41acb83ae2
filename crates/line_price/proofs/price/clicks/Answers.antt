-- `line_price::price::clicks`: the clicks as the call answers them. Assumes nothing.
use mathlib.Core.Path.{◌∙◌}
use lib.ListN.{length}
use Rattle.game.specs.Rounds.{moves_of, round_steps}
use Rattle.area.specs.Numbers.{grid_of}
use Rattle.line_price.proofs.Figures.{clicks_answer, value_given}
use Rattle.line_price.proofs.price.clicks.Goals as goal

pub returns : goal.returns
returns c =
    let g = grid_of c.args.rows c.args.columns c.args.grid.now in
    c.unwrap_or.ensures
    ∙ value_given c.price.result (length (moves_of (round_steps c.args.openings_first g))) (c.price.ensures.answers ∙ clicks_answer g c.requires c.args.openings_first)
