-- `rounds::whole::play_on`: the steps so far are those of the definition; fewer units are closed after each; what is kept of the columns stays right. Assumes nothing.
use Prim.Native.Nat.{◌≤◌}
use native.Mathlib.Omega.{arith}
use Rattle.game.specs.Moves.{after}
use Rattle.game.specs.Position.{closed_units}
use Rattle.rounds.proofs.Lows.{low_goes_on}
use Rattle.moves.proofs.Partway.{partway_few}
use Rattle.rounds.proofs.Onward.{known, midway_begins, midway_ends, midway_goes_on, units_fall}
use Rattle.rounds.proofs.whole.play_on.Goals as goal

pub loop-current-init : goal.loop-current-init
loop-current-init c =
    let a = c.args in (
      midway_begins a.opened_only a.rows a.columns a.work.now a.list.now a.state,
      c.requires.tops_known,
      omega arith,
      record { none = λ j h t. omega arith },
    )

pub step-stepped-requires-clause-has_cells : goal.step-stepped-requires-clause-has_cells
step-stepped-requires-clause-has_cells c =
    let a = c.args in
    let g = c.requires.going in
    let o = known a.opened_only a.rows a.columns a.work.now a.list.now a.state c.loop-current.work c.loop-current.list c.loop-current.current c.loop-current.invariant.0 g in
    let few = partway_few a.rows a.columns g.grid g.position g.old a.list.now a.state _ c.loop-current.work c.loop-current.list c.loop-current.current o c.requires.shape in
    (omega arith, omega (arith, few, c.requires.has_cells.1), c.loop-current.invariant.2, c.loop-current.invariant.3)

pub step-stepped-requires-clause-standing : goal.step-stepped-requires-clause-standing
step-stepped-requires-clause-standing c =
    let a = c.args in
    let g = c.requires.going in
    let o = known a.opened_only a.rows a.columns a.work.now a.list.now a.state c.loop-current.work c.loop-current.list c.loop-current.current c.loop-current.invariant.0 g in
    record { grid = g.grid; position = after g.grid g.position o.done; old = g.old; stands = o.made.stands }

pub loop-current-smaller : goal.loop-current-smaller
loop-current-smaller c =
    let x = c.step-stepped in
    let a = c.args in
    units_fall a.opened_only a.rows a.columns a.work.now a.list.now a.state c.loop-current.work c.loop-current.list c.loop-current.current c.loop-current.invariant.0
    x.new.work x.new.list x.result.state (λ g s old st f h e. (x.ensures g s old st f h e).made) c.loop-current-test.true c.requires.going

pub loop-current-preserved : goal.loop-current-preserved
loop-current-preserved c =
    let x = c.step-stepped in
    let a = c.args in
    let g = c.requires.going in
    let o = known a.opened_only a.rows a.columns a.work.now a.list.now a.state c.loop-current.work c.loop-current.list c.loop-current.current c.loop-current.invariant.0 g in
    let u = o.made in
    let p = after g.grid g.position o.done in
    let h : 1 ≤ closed_units g.grid p = omega (arith, u.left_units, c.loop-current-test.true) in
    let q = x.ensures g.grid p g.old u.stands u.tidy h u.left_units in
    let low = low_goes_on a.opened_only a.rows a.columns g.grid p g.old c.loop-current.work x.new.work c.loop-current.from x.result.from
    u.stands u.tidy q.made.stands h q.column (c.loop-current.invariant.2, c.loop-current.invariant.3) in (
      midway_goes_on a.opened_only a.rows a.columns a.work.now a.list.now a.state c.loop-current.work c.loop-current.list c.loop-current.current c.loop-current.invariant.0
          x.new.work x.new.list x.result.state (λ g s old st f h e. (x.ensures g s old st f h e).made) c.loop-current-test.true,
      q.kept,
      omega (arith, low.0),
      record { none = λ j h t. low.1.none j (omega arith) t },
    )

pub returns : goal.returns
returns c =
    let a = c.args in
    midway_ends a.opened_only a.rows a.columns a.work.now a.list.now a.state c.loop-current.work c.loop-current.list c.loop-current.current c.loop-current.invariant.0 (omega arith)
