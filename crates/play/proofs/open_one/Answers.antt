-- `play::open_one`: the cell is marked and its premium goes up; without label its square's go down. Assumes nothing.
use Rattle.play.proofs.Steps.{open_bare, open_labelled}
use Rattle.play.proofs.open_one.Goals as goal

pub returns-then-label-ne0 : goal.returns-then-label-ne0
returns-then-label-ne0 c = let a = c.args in
    open_labelled a.rows a.columns a.work.now c.put_state.new.work c.shift.new.work a.index c.first_label-label.result
    c.put_state.ensures c.shift.ensures c.first_label-label.ensures.0 c.if-label-ne0.true

pub returns : goal.returns
returns c = let a = c.args in
    open_bare a.rows a.columns a.work.now c.put_state.new.work c.shift.new.work a.index c.first_label-label.result
    c.put_state.ensures c.shift.ensures c.first_label-label.ensures.0 c.shift_square.new.work c.if-label-ne0.false c.shift_square.ensures
