-- `mbf_read::read`: refused as its sides are, else read on. Assumes nothing.
use mathlib.Core.Path.{sym}
use Rattle.std.proofs.lemmas.Result.{err_from_is_err_and}
use Rattle.mbf_read.proofs.Calls.{sides_refused}
use Rattle.mbf_read.proofs.read.Goals as goal

pub read_sided-requires : goal.read_sided-requires
read_sided-requires c = sym c.in_ok-check_sides.ensures

pub returns-in_err-check_sides : goal.returns-in_err-check_sides
returns-in_err-check_sides c =
    let p = err_from_is_err_and c.from_residual.result c.from_residual.ensures.1 in
    rw (p.1, p.2) (sides_refused c.args.file.now c.args.grid.now _ c.in_err-check_sides.ensures)
