-- `line_price::price::units`: 3BV as the call answers it. Assumes nothing.
use mathlib.Core.Path.{◌∙◌}
use Rattle.game.specs.Openings.{three_bv}
use Rattle.area.specs.Numbers.{grid_of}
use Rattle.line_price.proofs.Figures.{units_answer, value_given}
use Rattle.line_price.proofs.price.units.Goals as goal

pub returns : goal.returns
returns c =
    let g = grid_of c.args.rows c.args.columns c.args.grid.now in
    c.unwrap_or.ensures ∙ value_given c.three_bv.result (three_bv g) (c.three_bv.ensures.answers ∙ units_answer g c.requires)
