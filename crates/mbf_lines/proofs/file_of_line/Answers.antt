-- `mbf_lines::file_of_line`: refused as reading the first line says, else the file of its board. Assumes nothing.
use Prim.Native.Nat.{ℕ, ◌≤◌}
use native.Mathlib.Omega.{arith}
use mathlib.Core.Path.{◌≡◌, subst, sym, ◌∙◌}
use mathlib.Core.List.{List}
use lib.IntN.{ℤ, pos}
use lib.ListN.{length, length-replicate, replicate, take}
use lib.Seq.{length-take-le}
use Rattle.mbf_lines.specs.Conversions.{Printed, line_file}
use Rattle.mbf_lines.proofs.Boards.{Read, line_read, line_refused}
use Rattle.mbf_lines.proofs.Firsts.{by_first_line, file_of_line}
use Rattle.mbf_lines.proofs.file_of_line.Goals.{After-read_board, In-Ok}
use Rattle.mbf_lines.proofs.file_of_line.Goals as goal

-- the lent run
abbrev grid : List ℤ
grid = replicate 2048 (pos 0)

room : 2048 ≤ length grid
room = omega (arith, length-replicate 2048 (pos 0))

-- the first line
abbrev line : After-read_board → List ℕ
line c = take c.first_line-end.result c.args.input.now

first : (c : After-read_board) → file_of_line (line c) ≡ line_file c.args.input.now
first c = by_first_line c.args.input.now (line c) c.first_line-end.ensures.1

-- what was read
read-board : (c : In-Ok)
    → Read c.in-Ok.field-0.rows c.in-Ok.field-0.columns (take c.first_line-end.result c.args.input.now) c.read_board.new.grid
read-board c = line_read (take c.first_line-end.result c.args.input.now) grid room _ _ c.read_board.new.grid c.in-Ok.ensures

pub slice_bounds-read_board-end : goal.slice_bounds-read_board-end
slice_bounds-read_board-end c = sym (length-take-le c.first_line-end.result c.args.input.now c.first_line-end.ensures.0)

pub overflow_mul-cells : goal.overflow_mul-cells
overflow_mul-cells c = record { fits = omega (arith, (read-board (goal.at.overflow_mul-cells c).In-Ok).taken.few) }

pub slice_bounds-grid-end : goal.slice_bounds-grid-end
slice_bounds-grid-end c = (read-board (goal.at.slice_bounds-grid-end c).In-Ok).enough

pub slice_bounds-put_file-end : goal.slice_bounds-put_file-end
slice_bounds-put_file-end c = sym (read-board (goal.at.slice_bounds-put_file-end c).In-Ok).taken.whole

pub put_file-requires : goal.put_file-requires
put_file-requires c = let t = (read-board (goal.at.put_file-requires c).In-Ok).taken in (t.passes, t.few, omega arith)

pub returns-in-Err : goal.returns-in-Err
returns-in-Err c =
    subst (λ (bytes : List ℕ). Printed bytes c.put_refusal.result c.args.out.now c.put_refusal.new.out)
    (line_refused (line (goal.at.returns-in-Err c).After-read_board) grid room _ c.in-Err.ensures.answers ∙ first (goal.at.returns-in-Err c).After-read_board) c.put_refusal.ensures

pub returns-in-Ok : goal.returns-in-Ok
returns-in-Ok c =
    subst (λ (bytes : List ℕ). Printed bytes c.put_file.result c.args.out.now c.put_file.new.out)
    ((read-board (goal.at.returns-in-Ok c).In-Ok).filed ∙ first (goal.at.returns-in-Ok c).After-read_board) c.put_file.ensures
