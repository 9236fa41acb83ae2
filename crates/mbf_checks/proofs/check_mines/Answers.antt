-- `mbf_checks::check_mines`: the tests in their order. Assumes nothing.
use native.Mathlib.Omega.{arith}
use Rattle.mbf_checks.proofs.Verdict.{length_refused, mine_refused, mines_taken}
use Rattle.mbf_checks.proofs.check_mines.Goals as goal

pub returns-then-file-lt4 : goal.returns-then-file-lt4
returns-then-file-lt4 c = length_refused _ _ (λ e. omega arith)

pub returns-then-file-count : goal.returns-then-file-count
returns-then-file-count c = length_refused _ _ (λ e. omega arith)

pub returns-then-not-mark_mines : goal.returns-then-not-mark_mines
returns-then-not-mark_mines c = mine_refused _ _ (omega arith) _ c.mark_mines.ensures c.if-not-mark_mines.true

pub returns : goal.returns
returns c = mines_taken _ _ (omega arith) _ c.mark_mines.ensures c.if-not-mark_mines.false
