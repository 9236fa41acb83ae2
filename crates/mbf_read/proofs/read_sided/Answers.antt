-- `mbf_read::read_sided`: refused as its count and mines are, else read. Assumes nothing.
use mathlib.Core.Path.{refl, sym}
use Rattle.std.proofs.lemmas.Result.{err_from_is_err_and}
use Rattle.mbf_read.proofs.Calls.{both_fine, mines_refused}
use Rattle.mbf_read.proofs.read_sided.Goals as goal

pub check_mines-requires : goal.check_mines-requires
check_mines-requires c = refl

pub read_checked-requires : goal.read_checked-requires
read_checked-requires c =
    let m = c.in_ok-check_mines.ensures in
    record { file_value = both_fine c.args.file.now (sym c.requires) m.verdict; bits_of = m.marks refl }

pub returns-in_err-check_mines : goal.returns-in_err-check_mines
returns-in_err-check_mines c =
    let p = err_from_is_err_and c.from_residual.result c.from_residual.ensures.1 in
    rw (p.1, p.2) (mines_refused c.args.file.now c.args.grid.now _ (sym c.requires) c.in_err-check_mines.ensures.verdict)
