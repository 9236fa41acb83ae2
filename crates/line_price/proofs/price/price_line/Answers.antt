-- `line_price::price::price_line`: refused as reading the line says, else priced by its figures. Assumes nothing.
use Prim.Native.Nat.{ℕ, ◌*◌, ◌≤◌}
use native.Mathlib.Omega.{arith}
use mathlib.Core.Path.{◌≡◌, sym, ◌∙◌}
use mathlib.Core.List.{List}
use mathlib.Core.Option.{none}
use lib.IntN.{ℤ, pos}
use lib.ListN.{length, length-replicate, replicate, take}
use Rattle.std.proofs.lemmas.Result.{err_from_is_err_and}
use Rattle.lines.specs.BoardLine.{line_grid}
use Rattle.area.specs.Numbers.{grid_of}
use Rattle.line_price.specs.Taken.{Taken}
use Rattle.line_price.specs.Prices.{price_of, price_or}
use Rattle.lines.proofs.LineRead.{enough_values}
use Rattle.line_price.proofs.Boards.{line_priced, line_refused, line_taken}
use Rattle.line_price.proofs.price.price_line.Goals.{In_ok-rows}
use Rattle.line_price.proofs.price.price_line.Goals as goal

-- the lent run
abbrev grid : List ℤ
grid = replicate 2048 (pos 0)

room : 2048 ≤ length grid
room = omega (arith, length-replicate 2048 (pos 0))

-- a line that was read
record Read (rows columns : ℕ) (line : List ℕ) (values : List ℤ) : Type 0 where
  taken : Taken rows columns (take (rows * columns) values)
  enough : rows * columns ≤ length values
  priced : price_or none (grid_of rows columns (take (rows * columns) values)) ≡ price_of line

read-board : (c : In_ok-rows)
    → Read c.in_ok-rows.field-0.rows c.in_ok-rows.field-0.columns c.args.line.now c.read_board.new.grid
read-board c =
    let k = c.in_ok-rows.ensures in
    let values = c.read_board.new.grid in
    record {
      taken = line_taken c.args.line.now grid room _ _ values k;
      enough = enough_values c.args.line.now grid room _ _ values k;
      priced = line_priced c.args.line.now grid room _ _ values k;
    }

pub overflow_mul-cells : goal.overflow_mul-cells
overflow_mul-cells c = record { fits = omega (arith, (read-board (goal.at.overflow_mul-cells c).In_ok-rows).taken.few) }

pub slice_bounds-grid-end : goal.slice_bounds-grid-end
slice_bounds-grid-end c = (read-board (goal.at.slice_bounds-grid-end c).In_ok-rows).enough

pub slice_bounds-priced-end : goal.slice_bounds-priced-end
slice_bounds-priced-end c = sym (read-board (goal.at.slice_bounds-priced-end c).In_ok-rows).taken.whole

pub priced-requires : goal.priced-requires
priced-requires c = (read-board (goal.at.priced-requires c).In_ok-rows).taken

pub returns-in_err-rows : goal.returns-in_err-rows
returns-in_err-rows c =
    let p = err_from_is_err_and c.from_residual.result c.from_residual.ensures.1 in
    rw (p.1, p.2) (line_refused c.args.line.now grid room _ c.in_err-rows.ensures.answers (line_grid c.args.line.now))

pub returns : goal.returns
returns c = c.priced.ensures ∙ (read-board (goal.at.returns c).In_ok-rows).priced
