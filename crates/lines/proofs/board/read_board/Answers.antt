-- `lines::board::read_board`: refused as the checks say, else read. Assumes nothing.
use Rattle.std.proofs.lemmas.Result.{err_from_is_err_and}
use Rattle.lines.proofs.Calls.{board_refused}
use Rattle.lines.proofs.board.read_board.Goals as goal

pub returns-in_err-check : goal.returns-in_err-check
returns-in_err-check c =
    let p = err_from_is_err_and c.from_residual.result c.from_residual.ensures.1 in
    rw (p.1, p.2) (board_refused c.args.line.now c.args.grid.now _ c.in_err-check.ensures)
