-- `lines::board::read_checked`: refused for room, or the cells filled. Assumes nothing.
use Prim.Native.Nat.{ℕ, ◌*◌, ◌≤◌}
use native.Mathlib.Omega.{arith}
use mathlib.Core.Path.{◌≡◌, ap, ◌∙◌}
use Rattle.game.specs.Area.{begun}
use Rattle.hex_digits.specs.Hex.{bytes_of}
use Rattle.lines.specs.BoardLine.{cell_values, grid_of_bytes}
use Rattle.lines.proofs.Verdict.{Passed, cells_of, passed, product_small}
use Rattle.lines.proofs.Calls.{board_read, board_short}
use Rattle.lines.proofs.board.read_checked.Goals.{After-byte_at-columns, Start}
use Rattle.lines.proofs.board.read_checked.Goals as goal

fine : (c : Start) → Passed c.args.line.now
fine c = passed c.args.line.now c.requires

cells_are : (c : After-byte_at-columns) → c.byte_at-rows.result * c.byte_at-columns.result ≡ cells_of c.args.line.now
cells_are c = λ i. c.byte_at-rows.ensures.0 i * c.byte_at-columns.ensures.0 i

few_cells : (c : After-byte_at-columns) → c.byte_at-rows.result * c.byte_at-columns.result ≤ 65025
few_cells c = product_small c.byte_at-rows.result c.byte_at-columns.result c.byte_at-rows.ensures.1 c.byte_at-columns.ensures.1

pub byte_at-rows-requires : goal.byte_at-rows-requires
byte_at-rows-requires c = omega (arith, (fine (goal.at.byte_at-rows-requires c).Start).digits)

pub byte_at-columns-requires : goal.byte_at-columns-requires
byte_at-columns-requires c = omega (arith, (fine (goal.at.byte_at-columns-requires c).Start).digits)

pub overflow_mul-rows : goal.overflow_mul-rows
overflow_mul-rows c = omega (arith, few_cells (goal.at.overflow_mul-rows c).After-byte_at-columns)

pub returns-then-grid-rows : goal.returns-then-grid-rows
unfolding grid_of_bytes
returns-then-grid-rows c =
    board_short c.args.line.now c.args.grid.now c.requires (omega (arith, cells_are (goal.at.returns-then-grid-rows c).After-byte_at-columns))

pub fill-requires : goal.fill-requires
unfolding grid_of_bytes
fill-requires c =
    let p = fine (goal.at.fill-requires c).Start in
    let e = cells_are (goal.at.fill-requires c).After-byte_at-columns in
    (omega arith, omega (arith, p.bytes), omega (arith, p.digits))

pub returns : goal.returns
unfolding grid_of_bytes
returns c =
    let a = c.args in
    board_read a.line.now a.grid.now _ _ _ c.requires (omega (arith, cells_are (goal.at.returns c).After-byte_at-columns)) (omega (arith, c.byte_at-rows.ensures.0)) (omega (arith, c.byte_at-columns.ensures.0))
    (c.fill.ensures ∙ ap (λ (n : ℕ). begun (cell_values (bytes_of a.line.now) n) a.grid.now) (cells_are (goal.at.returns c).After-byte_at-columns))
