-- `ties::count_column`: for one L the closed units; else a column passed over has none, and any other is looked at. Assumes nothing.
use native.Mathlib.Omega.{arith}
use mathlib.Core.Path.{◌∙◌, subst, sym}
use lib.Dec.{T}
use Rattle.ties.proofs.Skips.{skipped_none}
use Rattle.ties.proofs.count_column.Goals as goal

pub returns-then-skipped-clause-value : goal.returns-then-skipped-clause-value
returns-then-skipped-clause-value c =
    let a = c.args in (
      skipped_none a.work.now a.rows a.columns a.tops.now a.top a.column c.requires.has_cells.2 c.if-top-lt10.false c.requires.has_cells.1
          (subst T (sym c.if-skipped.true ∙ c.skipped.ensures) tt),
      omega arith,
    )
