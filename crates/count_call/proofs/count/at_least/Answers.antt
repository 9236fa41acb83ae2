-- `count_call::count::at_least`: refused as the checks say, else counted until it is certain and cleared. Assumes nothing.
use mathlib.Core.Path.{◌≡◌, ap, refl, sym, ◌∙◌}
use borrow.Author.Rules.{rules}
use Rattle.std.specs.Prelude.{Err}
use Rattle.area.specs.Numbers.{grid_of}
use Rattle.game.specs.Calls.{first_given, grid_checks}
use mathlib.Core.Option.{none}
use Rattle.refusals.specs.Names.{refusal_of}
use Rattle.checks.proofs.Verdict.{Passed, passed}
use Rattle.count_call.proofs.Counts.{least_answered, least_refused}
use Rattle.count_call.proofs.count.at_least.Goals.{In_ok-check}
use Rattle.count_call.proofs.count.at_least.Goals as goal

-- where nothing is refused
verdict : (c : In_ok-check) → first_given (grid_checks (grid_of c.args.rows c.args.columns c.args.grid.now) c.args.work.now) ≡ none
verdict c = sym c.check.ensures ∙ ap refusal_of c.in_ok-check.was

fine : (c : In_ok-check) → Passed (grid_of c.args.rows c.args.columns c.args.grid.now) c.args.work.now
fine c = passed _ _ (verdict c)

pub count_until-stop-requires : goal.count_until-stop-requires
count_until-stop-requires c = let p = fine (goal.at.count_until-stop-requires c).In_ok-check in record { shape = p.shaped; grid_len = (p.whole, p.room) }

pub returns-in_err-check : goal.returns-in_err-check
returns-in_err-check c =
    let a = c.args in
    let told : c.from_residual.result ≡ Err c.in_err-check.field-0.0 = search rules in
    rw told (least_refused (grid_of a.rows a.columns a.grid.now) a.work.now a.units _ (sym (ap refusal_of c.in_err-check.was) ∙ c.check.ensures))

pub returns : goal.returns
returns c =
    let a = c.args in
    let k = (goal.at.returns c).In_ok-check in
    least_answered (grid_of a.rows a.columns a.grid.now) a.work.now c.count_until-stop.new.work c.clear_area.new.work a.units c.count_until-stop.result _
    (sym (verdict k)) (fine k).room c.count_until-stop.ensures c.clear_area.ensures refl
