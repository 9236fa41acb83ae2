-- `number_check::check_numbers`: the board's refusal, or the lowest cell at fault. Assumes nothing.
use native.Mathlib.Omega.{arith}
use mathlib.Core.Path.{◌≡◌, ap, refl, sym, ◌∙◌}
use mathlib.Core.Option.{none}
use Rattle.game.specs.Calls.{board_checks, first_given}
use Rattle.area.specs.Numbers.{grid_of}
use Rattle.area.proofs.Cells.{cells_few}
use Rattle.refusals.specs.Names.{refusal_of}
use Rattle.checks.proofs.Verdict.{PassedBoard, passed_board}
use Rattle.number_check.proofs.Verdict.{all_right, number_given}
use Rattle.number_check.proofs.check_numbers.Goals.{In_ok-check_board}
use Rattle.number_check.proofs.check_numbers.Goals as goal

-- where the board passes
fine : (c : In_ok-check_board) → none ≡ first_given (board_checks (grid_of c.args.rows c.args.columns c.args.grid.now))
fine c = sym (ap refusal_of c.in_ok-check_board.was) ∙ c.check_board.ensures c.args.grid.now refl

shaped : (c : In_ok-check_board) → PassedBoard (grid_of c.args.rows c.args.columns c.args.grid.now)
shaped c = passed_board _ (sym (fine c))

pub lowest_wrong-cell-requires : goal.lowest_wrong-cell-requires
lowest_wrong-cell-requires c =
    let p = shaped (goal.at.lowest_wrong-cell-requires c).In_ok-check_board in
    record { shape = p.shaped; grid_len = p.whole }

pub overflow_mul-rows : goal.overflow_mul-rows
overflow_mul-rows c = omega (arith, cells_few _ _ (shaped (goal.at.overflow_mul-rows c).In_ok-check_board).shaped)

pub returns-then-cell-rows : goal.returns-then-cell-rows
returns-then-cell-rows c =
    number_given _ c.lowest_wrong-cell.result (fine (goal.at.returns-then-cell-rows c).In_ok-check_board) c.lowest_wrong-cell.ensures c.if-cell-rows.true

pub returns : goal.returns
returns c =
    all_right _ c.lowest_wrong-cell.result (fine (goal.at.returns c).In_ok-check_board) c.lowest_wrong-cell.ensures c.if-cell-rows.false
