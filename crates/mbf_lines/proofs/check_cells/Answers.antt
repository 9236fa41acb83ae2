-- `mbf_lines::check_cells`: SIZE by the sides, then what the mines say. Assumes nothing.
use Prim.Native.Nat.{◌*◌}
use native.Mathlib.Omega.{arith}
use mathlib.Core.Path.{◌≡◌, ◌∙◌}
use mathlib.Core.Option.{some-ne-none}
use Rattle.lines.proofs.Verdict.{product_small}
use Rattle.mbf_form.specs.Form.{file_columns, file_rows}
use Rattle.mbf_lines.proofs.Verdict.{many_cells, mines_decide, two-bytes}
use Rattle.mbf_lines.proofs.check_cells.Goals.{After-byte-rows}
use Rattle.mbf_lines.proofs.check_cells.Goals as goal

pub byte-columns-requires : goal.byte-columns-requires
byte-columns-requires c = omega (arith, two-bytes c.args.file.now c.requires.0)

pub byte-rows-requires : goal.byte-rows-requires
byte-rows-requires c = omega (arith, two-bytes c.args.file.now c.requires.0)

-- the cells are those of the file's sides
cells : (c : After-byte-rows) → c.byte-rows.result * c.byte-columns.result ≡ file_rows c.args.file.now * file_columns c.args.file.now
cells c = λ i. c.byte-rows.ensures.0 i * c.byte-columns.ensures.0 i

pub overflow_mul-rows : goal.overflow_mul-rows
overflow_mul-rows c = record { fits = omega (arith, product_small c.byte-rows.result c.byte-columns.result c.byte-rows.ensures.1 c.byte-columns.ensures.1) }

pub returns-then-rows-columns-gt2048 : goal.returns-then-rows-columns-gt2048
returns-then-rows-columns-gt2048 c =
    (many_cells c.args.file.now c.requires.0 (omega (arith, cells (goal.at.returns-then-rows-columns-gt2048 c).After-byte-rows)), λ e. absurd (some-ne-none _ e))

pub check_mines-requires : goal.check_mines-requires
check_mines-requires c = c.requires.1

pub returns : goal.returns
returns c =
    let m = c.check_mines.ensures in
    (m.verdict ∙ mines_decide c.args.file.now c.requires.0 (omega (arith, cells (goal.at.returns c).After-byte-rows)), m.marks)
