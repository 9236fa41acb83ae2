-- `strict_calls::strict::keyed_search`, a keyed search: refused as the strict checks say, else the present call. Assumes nothing.
use mathlib.Core.Path.{ap, sym, ◌∙◌}
use borrow.Author.Rules.{rules}
use Rattle.std.specs.Prelude.{Err, ◌≡◌}
use Rattle.game.specs.Calls.{first_given, keyed_search_call, strict_checks}
use Rattle.area.specs.Numbers.{grid_of}
use Rattle.refusals.specs.Names.{refusal_of}
use Rattle.answers.proofs.Promises.{keeps_else, keeps_refused}
use Rattle.draws.specs.Answers.{mode_of}
use Rattle.keys.specs.Stands.{key_of}
use Rattle.strict_calls.proofs.strict.keyed_search.Goals as goal

pub returns-in_err-check_numbers : goal.returns-in_err-check_numbers
returns-in_err-check_numbers c =
    let a = c.args in
    let g = grid_of a.rows a.columns a.grid.now in
    let told : c.from_residual.result ≡ Err c.in_err-check_numbers.field-0.0 = search rules in
    rw told (keeps_refused (first_given (strict_checks g)) _ _ (keyed_search_call (mode_of a.mode) g a.work.now (key_of a.key) a.rounds) (sym (ap refusal_of c.in_err-check_numbers.was) ∙ c.check_numbers.ensures))

pub returns : goal.returns
returns c =
    let a = c.args in
    let g = grid_of a.rows a.columns a.grid.now in
    keeps_else (first_given (strict_checks g)) _ _ _ (keyed_search_call (mode_of a.mode) g a.work.now (key_of a.key) a.rounds) (sym (ap refusal_of c.in_ok-check_numbers.was) ∙ c.check_numbers.ensures) c.keyed_search.ensures
