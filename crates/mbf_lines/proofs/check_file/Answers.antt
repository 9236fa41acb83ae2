-- `mbf_lines::check_file`: the sides first, then the cells. Assumes nothing.
use mathlib.Core.Path.{sym}
use mathlib.Core.Option.{some-ne-none}
use Rattle.std.proofs.lemmas.Result.{err_from_is_err_and}
use Rattle.mbf_lines.proofs.Verdict.{sides_refused}
use Rattle.mbf_lines.proofs.check_file.Goals as goal

pub check_cells-requires : goal.check_cells-requires
check_cells-requires c = (sym c.in_ok-check_sides.ensures, c.requires)

pub returns-in_err-check_sides : goal.returns-in_err-check_sides
returns-in_err-check_sides c =
    let p = err_from_is_err_and c.from_residual.result c.from_residual.ensures.1 in
    rw (p.1, p.2) (sides_refused c.args.file.now _ c.in_err-check_sides.ensures, λ e. absurd (some-ne-none _ e))
