-- `mbf_lines::line_of_file`: refused as the checks say, else the line of the file. Assumes nothing.
use Prim.Native.Nat.{ℕ}
use native.Mathlib.Omega.{arith}
use mathlib.Core.Path.{refl, subst, sym}
use mathlib.Core.List.{List}
use Rattle.mbf_lines.specs.Conversions.{Printed}
use Rattle.mbf_lines.proofs.Verdict.{line_printed, refusal_printed}
use Rattle.mbf_lines.proofs.line_of_file.Goals.{In-Ok}
use Rattle.mbf_lines.proofs.line_of_file.Goals as goal

pub put_line-requires : goal.put_line-requires
put_line-requires c =
    (sym c.in-Ok.ensures.0, c.in-Ok.ensures.1 refl, omega arith)

pub returns-in-Err : goal.returns-in-Err
returns-in-Err c =
    subst (λ (bytes : List ℕ). Printed bytes c.put_refusal.result c.args.out.now c.put_refusal.new.out)
    (refusal_printed c.args.file.now _ (c.in-Err.ensures.0)) c.put_refusal.ensures

pub returns-in-Ok : goal.returns-in-Ok
returns-in-Ok c =
    subst (λ (bytes : List ℕ). Printed bytes c.put_line.result c.args.out.now c.put_line.new.out)
    (sym (line_printed c.args.file.now (sym c.in-Ok.ensures.0))) c.put_line.ensures
