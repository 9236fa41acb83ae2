-- `random::search`: the first round, then the others. Assumes nothing.
use native.Mathlib.Omega.{arith}
use Rattle.draws.specs.Answers.{mode_of}
use Rattle.supplies.specs.Origins.{source_of}
use Rattle.random.proofs.Searches.{first_breaks, first_ends, first_stays, once_counted}
use Rattle.random.proofs.Supplies.{round_room, rounds_room}
use borrow.Author.Rules.{rules}
use Rattle.random.proofs.search.Goals as goal

pub unlisted-requires : goal.unlisted-requires
unlisted-requires c =
    let a = c.args in
    record { shape = c.requires.shape; has_cells = c.requires.has_cells.0; fresh = c.requires.fresh; key_room = (round_room a.rounds a.supply c.requires.key_room.0 c.requires.has_cells.1, c.requires.key_room.1) }

pub returns-in_err-first : goal.returns-in_err-first
returns-in_err-first c =
    let a = c.args in
    λ g old origin st n d. rw c.from_residual.ensures
    (first_breaks a.rows a.columns g old origin (source_of (mode_of a.mode) a.draws.now origin) c.unlisted.new.work c.unlisted.result (c.unlisted.ensures.searching g old origin 0 st n d) a.rounds c.in_err-first.was)

pub returns-then-first-supply : goal.returns-then-first-supply
returns-then-first-supply c =
    let a = c.args in
    λ g old origin st n d. first_stays a.rows a.columns g old origin (source_of (mode_of a.mode) a.draws.now origin) c.unlisted.new.work c.unlisted.result (c.unlisted.ensures.searching g old origin 0 st n d) a.rounds
    c.in_ok-first.first c.in_ok-first.was (omega (arith, d.used_is))

pub search_on-requires : goal.search_on-requires
search_on-requires c =
    let a = c.args in
    let f = c.requires.fresh in
    let i = c.requires.key_room.1 in
    let t = once_counted a.rows a.columns a.work.now a.units f i.origin (source_of (mode_of a.mode) a.draws.now i.origin) a.supply.used c.unlisted.new.work c.unlisted.result
    (c.unlisted.ensures.searching f.grid f.old i.origin a.supply.used f.stands f.counts i.reads) c.in_ok-first.first c.in_ok-first.was in record {
      shape = c.requires.shape;
      has_cells = search rules;
      counts_units = t.0;
      key_room = (
        rounds_room a.rounds _ a.supply _ c.requires.key_room.0 (c.unlisted.ensures.round_grows.ended _ c.in_ok-first.was) (omega arith),
        t.1,
      );
    }

pub returns : goal.returns
returns c =
    let a = c.args in
    λ g old origin st n d.
    let f = first_ends a.rows a.columns g old origin (source_of (mode_of a.mode) a.draws.now origin) c.unlisted.new.work c.unlisted.result (c.unlisted.ensures.searching g old origin 0 st n d) a.rounds
    c.in_ok-first.first c.in_ok-first.was in
    rw f.rest (c.search_on.ensures g old f.moves origin _ f.stands n f.reads)
