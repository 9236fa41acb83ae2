-- `count_call::count::three_bv`: refused as the checks say, else counted and settled. Assumes nothing.
use native.Mathlib.Omega.{arith}
use mathlib.Core.Path.{◌≡◌, ap, refl, sym, ◌∙◌}
use Rattle.game.specs.Position.{untouched}
use borrow.Author.Rules.{rules}
use Rattle.std.specs.Prelude.{Err}
use Rattle.area.specs.Numbers.{grid_of}
use Rattle.area.proofs.Cells.{cells_few}
use Rattle.game.specs.Calls.{first_given, grid_checks}
use mathlib.Core.Option.{none}
use Rattle.refusals.specs.Names.{refusal_of}
use Rattle.checks.proofs.Verdict.{Passed, passed}
use Rattle.count_call.proofs.Counts.{count_answered, count_refused}
use Rattle.count_call.proofs.count.three_bv.Goals.{In_ok-check}
use Rattle.count_call.proofs.count.three_bv.Goals as goal

-- where nothing is refused
verdict : (c : In_ok-check) → first_given (grid_checks (grid_of c.args.rows c.args.columns c.args.grid.now) c.args.work.now) ≡ none
verdict c = sym c.check.ensures ∙ ap refusal_of c.in_ok-check.was

fine : (c : In_ok-check) → Passed (grid_of c.args.rows c.args.columns c.args.grid.now) c.args.work.now
fine c = passed _ _ (verdict c)

pub set_up-units-requires : goal.set_up-units-requires
set_up-units-requires c = let p = fine (goal.at.set_up-units-requires c).In_ok-check in record { shape = p.shaped; grid_len = (p.whole, p.room) }

pub overflow_mul-rows : goal.overflow_mul-rows
overflow_mul-rows c = omega (arith, cells_few _ _ (fine (goal.at.overflow_mul-rows c).In_ok-check).shaped)

pub returns-in_err-check : goal.returns-in_err-check
returns-in_err-check c =
    let a = c.args in
    let told : c.from_residual.result ≡ Err c.in_err-check.field-0.0 = search rules in
    rw told (count_refused (grid_of a.rows a.columns a.grid.now) a.work.now _ (sym (ap refusal_of c.in_err-check.was) ∙ c.check.ensures))

pub returns : goal.returns
returns c =
    let a = c.args in
    let g = grid_of a.rows a.columns a.grid.now in
    let k = (goal.at.returns c).In_ok-check in
    count_answered g a.work.now c.settle.new.work _ (sym (verdict k)) c.set_up-units.ensures.units (c.settle.ensures g (untouched g) a.work.now refl (fine k).room c.set_up-units.ensures.work)
