-- `stored::write_moves`: refused as the checks say, else the line written. Assumes nothing.
use native.Mathlib.Omega.{arith}
use mathlib.Core.Path.{sym}
use Rattle.std.proofs.lemmas.Result.{err_from_is_err_and}
use Rattle.stored.proofs.MoveCalls.{passed_write, write_kept, write_refused}
use Rattle.stored.proofs.write_moves.Goals as goal

pub returns-in_err-check_written : goal.returns-in_err-check_written
returns-in_err-check_written c =
    let a = c.args in
    let p = err_from_is_err_and c.from_residual.result c.from_residual.ensures.1 in
    rw (p.1, p.2) (write_refused a.rows a.columns a.list.now a.count a.line.now _ c.in_err-check_written.ensures)

pub put_moves-requires : goal.put_moves-requires
put_moves-requires c =
    let a = c.args in
    let p = passed_write a.rows a.columns a.list.now a.count a.line.now (sym c.in_ok-check_written.ensures) in
    (omega (arith, p.few_rows), omega (arith, p.few_columns), omega (arith, p.moves), omega (arith, p.room))

pub overflow_mul-result : goal.overflow_mul-result
overflow_mul-result c = let a = c.args in omega (arith, (passed_write a.rows a.columns a.list.now a.count a.line.now (sym c.in_ok-check_written.ensures)).room)

pub overflow_add-result : goal.overflow_add-result
overflow_add-result c = let a = c.args in omega (arith, (passed_write a.rows a.columns a.list.now a.count a.line.now (sym c.in_ok-check_written.ensures)).room)

pub returns : goal.returns
returns c =
    let a = c.args in
    write_kept a.rows a.columns a.list.now a.count a.line.now _ _ c.in_ok-check_written.ensures (omega arith) c.put_moves.ensures
