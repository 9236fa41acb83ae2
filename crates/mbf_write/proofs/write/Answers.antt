-- `mbf_write::write`: refused as the checks or the room say, else the file written. Assumes nothing.
use Prim.Native.Nat.{◌≤◌}
use native.Mathlib.Omega.{arith}
use mathlib.Core.Path.{refl, sym}
use Rattle.std.proofs.lemmas.Result.{err_from_is_err_and}
use Rattle.area.specs.Numbers.{grid_of}
use Rattle.checks.proofs.Verdict.{passed_board}
use Rattle.mbf_write.proofs.Files.{file_kept, file_refused, file_short, mines_fit}
use Rattle.mbf_write.proofs.write.Goals.{After-count_mines-mines}
use Rattle.mbf_write.proofs.write.Goals as goal

pub returns-in_err-check_board : goal.returns-in_err-check_board
returns-in_err-check_board c =
    let a = c.args in
    let p = err_from_is_err_and c.from_residual.result c.from_residual.ensures.1 in
    rw (p.1, p.2) (file_refused (grid_of a.rows a.columns a.grid.now) a.file.now _ (c.in_err-check_board.ensures a.grid.now refl))

pub count_mines-mines-requires : goal.count_mines-mines-requires
count_mines-mines-requires c =
    let a = c.args in
    let p = passed_board (grid_of a.rows a.columns a.grid.now) (sym (c.in_ok-check_board.ensures a.grid.now refl)) in
    record { shape = p.shaped; grid_len = p.whole }

-- the mines counted are few
few : (c : After-count_mines-mines) → c.count_mines-mines.result ≤ 65025
few c =
    let a = c.args in
    let p = passed_board (grid_of a.rows a.columns a.grid.now) (sym (c.in_ok-check_board.ensures a.grid.now refl)) in
    omega (arith, c.count_mines-mines.ensures, mines_fit a.rows a.columns a.grid.now p.shaped)

pub overflow_mul-mines : goal.overflow_mul-mines
overflow_mul-mines c = omega (arith, few (goal.at.overflow_mul-mines c).After-count_mines-mines)

pub overflow_add-mines : goal.overflow_add-mines
overflow_add-mines c = omega (arith, few (goal.at.overflow_add-mines c).After-count_mines-mines)

pub returns-then-file-mines : goal.returns-then-file-mines
returns-then-file-mines c =
    let a = c.args in
    file_short (grid_of a.rows a.columns a.grid.now) a.file.now (c.in_ok-check_board.ensures a.grid.now refl) c.count_mines-mines.result c.count_mines-mines.ensures (omega (arith, c.if-file-mines.true))

pub put_file-requires : goal.put_file-requires
put_file-requires c =
    let a = c.args in
    let p = passed_board (grid_of a.rows a.columns a.grid.now) (sym (c.in_ok-check_board.ensures a.grid.now refl)) in
    record { shape = p.shaped; grid_len = (p.whole, c.count_mines-mines.ensures, omega (arith, c.if-file-mines.false)) }

pub returns : goal.returns
returns c =
    let a = c.args in
    file_kept (grid_of a.rows a.columns a.grid.now) a.file.now (c.in_ok-check_board.ensures a.grid.now refl) c.count_mines-mines.result c.count_mines-mines.ensures _ (omega (arith, c.if-file-mines.false)) c.put_file.ensures
