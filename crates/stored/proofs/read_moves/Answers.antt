-- `stored::read_moves`: refused as the checks say, else the moves read. Assumes nothing.
use native.Mathlib.Omega.{arith}
use mathlib.Core.Path.{sym}
use Rattle.std.proofs.lemmas.Result.{err_from_is_err_and}
use Rattle.stored.proofs.Words.{length_stored}
use Rattle.stored.proofs.MoveCalls.{passed_moves, read_kept, read_refused}
use Rattle.stored.proofs.read_moves.Goals as goal

pub returns-in_err-check_moves : goal.returns-in_err-check_moves
returns-in_err-check_moves c =
    let p = err_from_is_err_and c.from_residual.result c.from_residual.ensures.1 in
    rw (p.1, p.2) (read_refused c.args.line.now c.args.list.now _ c.in_err-check_moves.ensures)

pub fill_list-requires : goal.fill_list-requires
fill_list-requires c =
    let p = passed_moves c.args.line.now c.args.list.now (sym c.in_ok-check_moves.ensures) in
    let n = length_stored c.args.line.now p.whole in
    (omega (arith, p.room), omega (arith, p.whole))

pub returns : goal.returns
returns c =
    let a = c.args in
    let p = passed_moves a.line.now a.list.now (sym c.in_ok-check_moves.ensures) in
    read_kept a.line.now a.list.now _ _ _ _ c.in_ok-check_moves.ensures c.byte_at-rows.ensures.0 c.byte_at-columns.ensures.0 (sym (length_stored a.line.now p.whole)) c.fill_list.ensures
