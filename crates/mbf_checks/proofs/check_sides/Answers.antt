-- `mbf_checks::check_sides`: the tests in their order. Assumes nothing.
use native.Mathlib.Omega.{arith}
use Rattle.mbf_checks.proofs.Verdict.{no_height, no_width, sides_fine, under_two}
use Rattle.mbf_checks.proofs.check_sides.Goals as goal

pub returns-then-file-lt2 : goal.returns-then-file-lt2
returns-then-file-lt2 c = under_two c.args.file.now (omega arith)

pub returns-then-byte-eq0 : goal.returns-then-byte-eq0
returns-then-byte-eq0 c = no_width c.args.file.now (omega arith) (omega arith)

pub returns-then-byte-eq0-2 : goal.returns-then-byte-eq0-2
returns-then-byte-eq0-2 c = no_height c.args.file.now (omega arith) (omega arith)

pub returns : goal.returns
returns c = sides_fine c.args.file.now (omega arith) (λ e. omega arith) (omega arith) (λ e. omega arith) (omega arith)
