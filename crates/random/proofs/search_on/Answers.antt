-- `random::search_on`: so far the rounds are those of the definition; one fewer is left after each, and a key has room for them. Assumes nothing.
use Prim.Native.Nat.{◌+◌, ◌-◌}
use native.Mathlib.Omega.{arith}
use mathlib.Core.Path.{◌≡◌, ap, refl}
use lib.ListN.{length}
use borrow.Author.Rules.{rules}
use Rattle.game.specs.Moves.{after}
use Rattle.game.specs.Position.{untouched}
use Rattle.game.specs.Rounds.{search_from}
use Rattle.draws.specs.Answers.{mode_of}
use Rattle.supplies.specs.Origins.{source_of}
use Rattle.random.proofs.Searches.{midway_begins, search_breaks, search_ends, search_goes_on, search_stays, still_counted}
use Rattle.random.proofs.Turns.{turns_fall, turns_of}
use Rattle.random.proofs.Supplies.{room_kept, round_room, rounds_room}
use Rattle.random.proofs.search_on.Goals as goal

pub loop-init : goal.loop-init
loop-init c = (
  refl,
  midway_begins _ _ _ _ _ _ _ _ _ (omega arith),
  room_kept _ _ _ (omega arith) c.requires.key_room.0,
  let e : c.args.more - 0 ≡ c.args.more = omega arith in omega (arith, ap (turns_of (length c.args.draws.now) c.args.before.supply) e),
)

pub again-requires-clause-counts_units : goal.again-requires-clause-counts_units
again-requires-clause-counts_units c = (still_counted _ _ _ _ _ _ _ _ _ _ _ c.loop.invariant.1 c.requires.key_room.1 c.requires.counts_units).0

pub again-requires-clause-key_room : goal.again-requires-clause-key_room
again-requires-clause-key_room c = (
  round_room (c.args.more - c.loop.counter) _ c.loop.invariant.2 (omega arith),
  (still_counted _ _ _ _ _ _ _ _ _ _ _ c.loop.invariant.1 c.requires.key_room.1 c.requires.counts_units).1,
)

pub returns-in_err-ended : goal.returns-in_err-ended
returns-in_err-ended c =
    let a = c.args in
    λ g old ms origin at st n d.
    let source = source_of (mode_of a.mode) a.draws.now origin in
    let f = c.loop.invariant.1.sofar g old ms origin at st n d in
    rw c.from_residual.ensures
    (search_breaks a.rows a.columns g old origin source (search_from a.more g source (record { least = a.before.clicks; next = at; moves = ms })) c.loop.work c.loop.best (a.more - c.loop.counter) f
    c.again.new.work c.again.result (c.again.ensures.searching g (after g (untouched g) f.moves) old origin c.loop.best.supply.used f.stands n f.reads) (omega arith) c.in_err-ended.was)

pub returns-then-best-began : goal.returns-then-best-began
returns-then-best-began c =
    let a = c.args in
    λ g old ms origin at st n d.
    let source = source_of (mode_of a.mode) a.draws.now origin in
    let f = c.loop.invariant.1.sofar g old ms origin at st n d in
    search_stays a.rows a.columns g old origin source (search_from a.more g source (record { least = a.before.clicks; next = at; moves = ms })) c.loop.work c.loop.best (a.more - c.loop.counter) f
    c.again.new.work c.again.result (c.again.ensures.searching g (after g (untouched g) f.moves) old origin c.loop.best.supply.used f.stands n f.reads) (omega arith) c.in_ok-ended.ended c.min.result c.in_ok-ended.was c.min.ensures c.if-best-began.true

pub loop-preserved : goal.loop-preserved
loop-preserved c =
    let a = c.args in (
      search rules,
      record {
        sofar = λ g old ms origin at st n d.
            let source = source_of (mode_of a.mode) a.draws.now origin in
            let f = c.loop.invariant.1.sofar g old ms origin at st n d in
            search_goes_on a.rows a.columns g old origin source (search_from a.more g source (record { least = a.before.clicks; next = at; moves = ms })) c.loop.work c.loop.best (a.more - c.loop.counter) f
            c.again.new.work c.again.result (c.again.ensures.searching g (after g (untouched g) f.moves) old origin c.loop.best.supply.used f.stands n f.reads) (omega arith) c.in_ok-ended.ended c.min.result c.in_ok-ended.was c.min.ensures (a.more - (c.loop.counter + 1)) (omega arith);
      },
      rounds_room (a.more - c.loop.counter) _ _ _ c.loop.invariant.2 (c.again.ensures.round_grows.ended _ c.in_ok-ended.was) (omega arith),
      let m = a.more - c.loop.counter in
          let n = still_counted _ _ _ _ _ _ _ _ _ _ _ c.loop.invariant.1 c.requires.key_room.1 c.requires.counts_units in
          let e : m - 1 ≡ a.more - (c.loop.counter + 1) = omega arith in
          let f = turns_fall a.rows a.columns (mode_of a.mode) a.draws.now c.loop.work c.again.new.work c.loop.best.supply c.again.result a.units n.0 n.1 c.again.ensures.searching
          c.in_ok-ended.ended m c.in_ok-ended.was (omega arith) c.if-best-began.false in
          omega (arith, c.loop.invariant.3, f, ap (turns_of (length a.draws.now) c.in_ok-ended.ended.supply) e),
    )

pub returns : goal.returns
returns c =
    let a = c.args in
    λ g old ms origin at st n d.
    let source = source_of (mode_of a.mode) a.draws.now origin in
    search_ends a.rows a.columns g old origin source (search_from a.more g source (record { least = a.before.clicks; next = at; moves = ms })) c.loop.work c.loop.best (a.more - c.loop.counter)
    (c.loop.invariant.1.sofar g old ms origin at st n d) (omega arith)
