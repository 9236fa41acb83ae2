-- `line_price::price::priced`: the three figures. Assumes nothing.
use native.Mathlib.Omega.{arith}
use Rattle.area.specs.Numbers.{grid_of}
use Rattle.lines.specs.PriceLine.{figures}
use Rattle.line_price.proofs.Figures.{by_figures}
use borrow.Author.Rules.{rules}
use Rattle.line_price.proofs.price.priced.Goals as goal

pub returns : goal.returns
returns c =
    let a = c.args in
    by_figures (grid_of a.rows a.columns a.grid.now) (figures 0 _) (omega arith) (search rules) (search rules) (search rules)
