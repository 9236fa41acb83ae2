-- `play::uncover`: each branch is one case of the reveal. Assumes nothing.
use native.Mathlib.Omega.{arith}
use lib.Dec.{eqb}
use Rattle.area.specs.Numbers.{first_at}
use Rattle.game.proofs.Counts.{bit_small}
use Rattle.play.proofs.Reveals.{by_mine, by_one, by_state, by_zero}
use Rattle.play.proofs.uncover.Goals.{then-content-eq0-via-then-content-eq0, then-content-eq0-via-else-content-eq0+then-state-ne0}
use Rattle.play.proofs.uncover.Goals as goal

pub returns-then-content-eq0 : goal.returns-then-content-eq0
returns-then-content-eq0 c = let a = c.args in
    let k = c.content-content in (
      omega arith,
      λ g s old t f. elim c.then-content-eq0.branch [
        | then-content-eq0-via-then-content-eq0 w ↦
            by_mine a.rows a.columns g s old a.work.now a.index c.requires.has_cells.1 t f k.result k.ensures.0 w.if-content-eq0.true
        | then-content-eq0-via-else-content-eq0+then-state-ne0 w ↦
            by_state a.rows a.columns g s old a.work.now a.index c.requires.has_cells.1 t f w.state.result w.state.ensures.0 w.if-state-ne0.true
      ],
    )

pub returns-then-content-eq1 : goal.returns-then-content-eq1
returns-then-content-eq1 c = let a = c.args in (
  omega arith,
  λ g s old t f. by_zero a.rows a.columns g s old a.work.now a.index c.requires.has_cells.1 t f
      c.content-content.result c.state.result c.content-content.ensures.0 c.if-content-eq0.false c.state.ensures.0 c.if-state-ne0.false
      c.first_label-label.result c.sweep_opening.new.work c.if-content-eq1.true c.first_label-label.ensures.0 (c.sweep_opening.ensures g s old t),
)

pub returns : goal.returns
returns c = let a = c.args in (
  omega (arith, c.open_one-units.ensures.1, bit_small (eqb (first_at a.work.now a.index) 0)),
  λ g s old t f. by_one a.rows a.columns g s old a.work.now a.index c.requires.has_cells.1 t f
      c.content-content.result c.state.result c.content-content.ensures.0 c.if-content-eq0.false c.state.ensures.0 c.if-state-ne0.false
      c.open_one-units.result c.open_one-units.new.work c.if-content-eq1.false c.open_one-units.ensures.1 c.open_one-units.ensures.0,
)
