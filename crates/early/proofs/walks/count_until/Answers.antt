-- `count_until`: it is certain before the first cell, or where a glance stopped, or where the walk over all cells does. Assumes nothing.
use native.Mathlib.Omega.{arith}
use Rattle.area.specs.Numbers.{grid_of}
use Rattle.early.proofs.Stops.{stopped_at_once, stopped_walked}
use Rattle.early.proofs.walks.count_until.Goals as goal

pub returns-then-certain : goal.returns-then-certain
returns-then-certain c =
    let a = c.args in
    stopped_at_once (grid_of a.rows a.columns a.grid.now) a.units a.work.now c.certain.result c.certain.ensures c.if-certain.true

pub returns : goal.returns
returns c =
    let v = c.before in
    let d = v.before.before.before in
    let a = c.args in
    stopped_walked (grid_of a.rows a.columns a.grid.now) a.units a.work.now c.glance-glanced.result c.glance-glanced.new.work c.glance-glanced.ensures
    c.load.new.work c.walk.new.work c.walk.result (omega (arith, c.glance-glanced.ensures.beyond.long, c.requires.grid_len.1)) c.load.ensures c.walk.ensures
