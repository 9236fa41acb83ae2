-- `play::sweep_opening`: no cell of the opening lies beyond a column without the label. Assumes nothing.
use Prim.Native.Nat.{◌/◌, ◌<◌}
use mathlib.Core.Path.{refl}
use Rattle.area.proofs.Rows.{column_inside}
use Rattle.play.proofs.Spans.{both_ways}
use Rattle.play.proofs.sweep_opening.Goals.{Start}
use Rattle.play.proofs.sweep_opening.Goals as goal

-- the cell's column lies on the grid
column : (c : Start) → c.args.index / c.args.rows < c.args.columns
column c = column_inside c.args.rows c.args.columns c.args.index c.requires.has_cells.1

pub returns : goal.returns
returns c = let a = c.args in
    let l = c.sweep_left in
    let r = c.sweep_right in
    λ g s old t none own. both_ways a.rows a.columns g s old a.work.now a.index a.label c.requires.has_cells.1 t none own
    (a.index / a.rows) l.new.work r.new.work refl l.ensures r.ensures
