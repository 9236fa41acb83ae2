-- `stored::check_written`: the tests in their order. Assumes nothing.
use native.Mathlib.Omega.{arith}
use Rattle.lines.proofs.Verdict.{side_fine, side_none}
use Rattle.stored.proofs.MoveCalls.{columns_out, line_fits, many_moves, rows_out, short_line, side_many}
use Rattle.stored.proofs.check_written.Goals as goal

pub returns-then-rows-eq0 : goal.returns-then-rows-eq0
returns-then-rows-eq0 c =
    let a = c.args in
    rows_out a.rows a.columns a.list.now a.count a.line.now (side_none a.rows (omega arith))

pub returns-then-rows-gt255 : goal.returns-then-rows-gt255
returns-then-rows-gt255 c =
    let a = c.args in
    rows_out a.rows a.columns a.list.now a.count a.line.now (side_many a.rows (omega arith))

pub returns-then-columns-eq0 : goal.returns-then-columns-eq0
returns-then-columns-eq0 c =
    let a = c.args in
    columns_out a.rows a.columns a.list.now a.count a.line.now (side_none a.columns (omega arith))

pub returns-then-columns-gt255 : goal.returns-then-columns-gt255
returns-then-columns-gt255 c =
    let a = c.args in
    columns_out a.rows a.columns a.list.now a.count a.line.now (side_many a.columns (omega arith))

pub returns-then-list-count : goal.returns-then-list-count
returns-then-list-count c =
    let a = c.args in
    many_moves a.rows a.columns a.list.now a.count a.line.now (side_fine a.rows (λ e. omega arith) (omega arith)) (side_fine a.columns (λ e. omega arith) (omega arith)) (omega arith)

pub returns-then-line-lt4 : goal.returns-then-line-lt4
returns-then-line-lt4 c =
    let a = c.args in
    short_line a.rows a.columns a.list.now a.count a.line.now (side_fine a.rows (λ e. omega arith) (omega arith)) (side_fine a.columns (λ e. omega arith) (omega arith)) (omega arith) (omega arith)

pub returns-then-line-count : goal.returns-then-line-count
returns-then-line-count c =
    let a = c.args in
    short_line a.rows a.columns a.list.now a.count a.line.now (side_fine a.rows (λ e. omega arith) (omega arith)) (side_fine a.columns (λ e. omega arith) (omega arith)) (omega arith) (omega arith)

pub returns : goal.returns
returns c =
    let a = c.args in
    line_fits a.rows a.columns a.list.now a.count a.line.now (side_fine a.rows (λ e. omega arith) (omega arith)) (side_fine a.columns (λ e. omega arith) (omega arith)) (omega arith) (omega arith)
