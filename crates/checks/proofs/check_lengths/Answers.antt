-- `checks::check_lengths`: the work area's check, where the board passes. Assumes nothing.
use mathlib.Core.Path.{◌≡◌, ap, sym, ◌∙◌}
use mathlib.Core.List.{[], ◌∷◌}
use mathlib.Core.Option.{none}
use Rattle.game.specs.Calls.{board_checks, first_given, work_check}
use Rattle.area.specs.Numbers.{grid_of}
use Rattle.refusals.specs.Names.{refusal_of}
use Rattle.checks.proofs.More.{last_decides}
use Rattle.checks.proofs.Verdict.{passed_board}
use Rattle.checks.proofs.check_lengths.Goals as goal

pub returns : goal.returns
returns c = λ vs ws board area.
    let a = c.args in
    let g = grid_of a.rows a.columns vs in
    let fine : none ≡ first_given (board_checks g) = sym (ap refusal_of c.in_ok-check_board.was) ∙ c.check_board.ensures vs board in
    c.check_work.ensures g ws (sym (passed_board g (sym fine)).whole ∙ board) area ∙ last_decides (board_checks g) (work_check g ws ∷ []) fine
