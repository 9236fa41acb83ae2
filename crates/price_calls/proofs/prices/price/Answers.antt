-- `price_calls::prices::price`: refused as the checks say, else played. Assumes nothing.
use mathlib.Core.Path.{ap, sym, ◌∙◌}
use Prim.Native.Nat.{◌*◌}
use lib.ListN.{length}
use mathlib.Core.List.{◌++◌}
use borrow.Author.Rules.{rules}
use Rattle.std.specs.Prelude.{Err, ◌≡◌}
use Rattle.game.specs.Calls.{first_given, grid_checks, price_call, priced_round, trace}
use Rattle.area.specs.Numbers.{grid_of}
use Rattle.refusals.specs.Names.{refusal_of}
use Rattle.checks.proofs.More.{reaches}
use Rattle.answers.proofs.Promises.{list_else, list_refused}
use Rattle.checks.proofs.Verdict.{all_passed}
use Rattle.price_calls.proofs.prices.price.Goals as goal

pub price_checked-requires : goal.price_checked-requires
price_checked-requires c =
    let a = c.args in
    let p = all_passed (grid_of a.rows a.columns a.grid.now) a.work.now (length a.list.now) (a.rows * a.columns) trace (sym c.check_room.ensures ∙ ap refusal_of c.in_ok-check_room.was) in
    record { shape = p.0.shaped; grid_len = (p.0.whole, p.0.room, p.1) }

pub returns-in_err-check_room : goal.returns-in_err-check_room
unfolding price_call
returns-in_err-check_room c =
    let a = c.args in
    let g = grid_of a.rows a.columns a.grid.now in
    let told : c.from_residual.result ≡ Err c.in_err-check_room.field-0.0 = search rules in
    rw told (list_refused (first_given (grid_checks g a.work.now ++ reaches (length a.list.now) (a.rows * a.columns) trace)) _ _ _ (priced_round a.openings_first g a.work.now a.list.now) (sym (ap refusal_of c.in_err-check_room.was) ∙ c.check_room.ensures))

pub returns : goal.returns
unfolding price_call
returns c =
    let a = c.args in
    let g = grid_of a.rows a.columns a.grid.now in
    list_else (first_given (grid_checks g a.work.now ++ reaches (length a.list.now) (a.rows * a.columns) trace)) _ _ _ _ _ (priced_round a.openings_first g a.work.now a.list.now) (sym (ap refusal_of c.in_ok-check_room.was) ∙ c.check_room.ensures) c.price_checked.ensures
