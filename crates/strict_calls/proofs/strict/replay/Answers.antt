-- `strict_calls::strict::replay`, replay: refused as the strict checks say, else the present call. Assumes nothing.
use mathlib.Core.Path.{ap, sym, ◌∙◌}
use borrow.Author.Rules.{rules}
use Rattle.std.specs.Prelude.{Err, ◌≡◌}
use Rattle.answers.specs.declared.Unplayed.TheVariants as Unplays
use Rattle.game.specs.Calls.{first_given, replay_call, strict_checks}
use Rattle.area.specs.Numbers.{grid_of}
use Rattle.refusals.specs.Names.{refusal_of}
use Rattle.answers.proofs.Promises.{keeps_else, keeps_refused}
use Rattle.strict_calls.proofs.strict.replay.Goals as goal

pub returns-in_err-check_numbers : goal.returns-in_err-check_numbers
returns-in_err-check_numbers c =
    let a = c.args in
    let g = grid_of a.rows a.columns a.grid.now in
    let told : c.from_residual.result ≡ Err (Unplays.Refused c.in_err-check_numbers.field-0.0) = search rules in
    rw told (keeps_refused (first_given (strict_checks g)) _ _ (replay_call g a.work.now a.list.now a.count) (sym (ap refusal_of c.in_err-check_numbers.was) ∙ c.check_numbers.ensures))

pub returns : goal.returns
returns c =
    let a = c.args in
    let g = grid_of a.rows a.columns a.grid.now in
    keeps_else (first_given (strict_checks g)) _ _ _ (replay_call g a.work.now a.list.now a.count) (sym (ap refusal_of c.in_ok-check_numbers.was) ∙ c.check_numbers.ensures) c.replay.ensures
