-- `mbf_write::strict_write`: refused as the strict checks say, else written. Assumes nothing.
use Rattle.std.proofs.lemmas.Result.{err_from_is_err_and}
use Rattle.game.specs.Calls.{first_given, strict_checks}
use Rattle.area.specs.Numbers.{grid_of}
use Rattle.lines.proofs.Outputs.{run_else, run_refused}
use Rattle.mbf_form.specs.Calls.{write_file_call}
use Rattle.mbf_write.proofs.strict_write.Goals as goal

pub returns-in_err-check_numbers : goal.returns-in_err-check_numbers
returns-in_err-check_numbers c =
    let a = c.args in
    let g = grid_of a.rows a.columns a.grid.now in
    let p = err_from_is_err_and c.from_residual.result c.from_residual.ensures.1 in
    rw (p.1, p.2) (run_refused (first_given (strict_checks g)) a.file.now (write_file_call g a.file.now) _ c.in_err-check_numbers.ensures)

pub returns : goal.returns
returns c =
    let a = c.args in
    let g = grid_of a.rows a.columns a.grid.now in
    let wrote = c.write.ensures in
    run_else (first_given (strict_checks g)) a.file.now (write_file_call g a.file.now) _ _ c.in_ok-check_numbers.ensures wrote.answers wrote.leaves
