-- `random::roll_on`: the steps so far are those of the definition; fewer units are closed after each, so a key has room; what is kept of the columns stays right. Assumes nothing.
use native.Mathlib.Omega.{arith}
use mathlib.Core.Path.{refl}
use borrow.Author.Rules.{rules}
use Rattle.game.specs.Moves.{after}
use Rattle.game.specs.Position.{untouched}
use Rattle.moves.proofs.Partway.{partway_few}
use Rattle.draws.specs.Answers.{mode_of}
use Rattle.supplies.specs.Origins.{source_of}
use Rattle.random.proofs.Courses.{course_breaks, course_ends, course_falls, course_goes_on, fresh, midway_begins, units_few}
use Rattle.random.proofs.Supplies.{origin_places, round_ended, round_grew, spent_more, spent_none, step_room}
use Rattle.random.proofs.roll_on.Goals as goal

pub loop-state-init : goal.loop-state-init
loop-state-init c =
    let a = c.args in (
      refl,
      refl,
      refl,
      refl,
      midway_begins a.rows a.columns a.work.now (mode_of a.mode) a.draws.now a.units a.supply a.list.now,
      c.requires.tops_known.0,
      c.requires.tops_known.1,
      spent_none a.supply a.units,
    )

pub step-requires : goal.step-requires
step-requires c =
    let a = c.args in
    let f = c.requires.fresh in
    let i = c.requires.key_room.1 in record {
      shape = c.requires.shape;
      has_cells = (
        omega arith,
        omega (
          arith,
          partway_few a.rows a.columns f.grid (untouched f.grid) f.old a.list.now (fresh a.units) _ c.loop-state.work c.loop-state.list c.loop-state.state
              (c.loop-state.invariant.4.course f.grid f.old i.origin a.supply.used f.stands f.counts i.reads).way c.requires.shape,
        ),
      );
      tops_known = (c.loop-state.invariant.5, c.loop-state.invariant.6);
      key_room = step_room a.supply a.units c.loop-state.rest c.loop-state.state.units c.loop-state.invariant.7 (units_few a.rows a.columns a.work.now a.units f) c.requires.key_room.0 c.loop-state-test.true;
    }

pub returns-in_err-onward-clause-rolling : goal.returns-in_err-onward-clause-rolling
returns-in_err-onward-clause-rolling c =
    let a = c.args in
    λ g old origin at st z d. rw c.from_residual.ensures (course_breaks a.rows a.columns g old origin (source_of (mode_of a.mode) a.draws.now origin) a.units at a.list.now c.loop-state.work c.loop-state.list c.loop-state.state c.loop-state.rest
    (c.loop-state.invariant.4.course g old origin at st z d) c.step.new.work c.step.new.list c.step.result c.loop-state-test.true (λ s n v f h e q. (c.step.ensures.stepping g s old origin n v f h e q).0) c.in_err-onward.was)

pub loop-state-smaller : goal.loop-state-smaller
loop-state-smaller c =
    let a = c.args in
    let f = c.requires.fresh in
    let i = c.requires.key_room.1 in
    course_falls a.rows a.columns f.grid f.old i.origin (source_of (mode_of a.mode) a.draws.now i.origin) a.units a.supply.used a.list.now c.loop-state.work c.loop-state.list c.loop-state.state c.loop-state.rest
    (c.loop-state.invariant.4.course f.grid f.old i.origin a.supply.used f.stands f.counts i.reads) c.step.new.work c.step.new.list c.step.result c.loop-state-test.true
    (λ s n v p h e q. (c.step.ensures.stepping f.grid s f.old i.origin n v p h e q).0) (origin_places (mode_of a.mode) a.draws.now i.origin) _ c.in_ok-onward.was

pub loop-state-preserved : goal.loop-state-preserved
loop-state-preserved c =
    let a = c.args in
    let f = c.requires.fresh in
    let i = c.requires.key_room.1 in
    let o = c.loop-state.invariant.4.course f.grid f.old i.origin a.supply.used f.stands f.counts i.reads in
    let m = o.way.made in
    -- what is kept of the columns stays right in a step
    let kept = c.step.ensures.stepping f.grid (after f.grid (untouched f.grid) o.way.done) f.old i.origin c.loop-state.rest.used m.stands m.tidy (omega (arith, m.left_units, c.loop-state-test.true)) m.left_units o.reads in (
      search rules,
      search rules,
      search rules,
      search rules,
      let a = c.args in
          record {
            course = λ g old origin at st z d. course_goes_on a.rows a.columns g old origin (source_of (mode_of a.mode) a.draws.now origin) a.units at a.list.now c.loop-state.work c.loop-state.list c.loop-state.state c.loop-state.rest
                (c.loop-state.invariant.4.course g old origin at st z d) c.step.new.work c.step.new.list c.step.result c.loop-state-test.true
                (λ s n v f h e q. (c.step.ensures.stepping g s old origin n v f h e q).0) (origin_places (mode_of a.mode) a.draws.now origin) _ c.in_ok-onward.was;
          },
      kept.1,
      kept.2,
      let a = c.args in
          spent_more a.supply a.units c.loop-state.rest c.loop-state.state.units c.loop-state.invariant.7 _ _ (c.step.ensures.step_grows.went _ c.in_ok-onward.was) (loop-state-smaller c),
    )

pub returns : goal.returns
returns c =
    let a = c.args in record {
      round_grows = round_ended a.supply _
          (round_grew a.supply a.units c.loop-state.rest c.loop-state.state.units c.loop-state.invariant.7 (units_few a.rows a.columns a.work.now a.units c.requires.fresh));
      rolling = λ g old origin at st z d. course_ends a.rows a.columns g old origin (source_of (mode_of a.mode) a.draws.now origin) a.units at a.list.now c.loop-state.work c.loop-state.list c.loop-state.state c.loop-state.rest
          (c.loop-state.invariant.4.course g old origin at st z d) (omega arith);
    }
