-- `lines::board::check`: the tests in their order. Assumes nothing.
use Prim.Native.Nat.{ℕ, ◌*◌, ◌≤◌}
use native.Mathlib.Omega.{arith}
use mathlib.Core.Path.{◌≡◌, sym, ◌∙◌}
use mathlib.Core.Bool.{false}
use mathlib.Core.List.{List}
use Rattle.lines.specs.BoardLine.{digits_refused}
use Rattle.lines.proofs.Verdict.{Digits, all_fine, cells_of, columns_byte, digits_frame, digits_good, many_cells, no_columns, no_rows, other_bytes, padding_by, padding-set, padding_set, product_small, rows_byte}
use Rattle.lines.proofs.board.check.Goals.{After-bit_between, After-byte_at-columns, Else-digits_refused}
use Rattle.lines.proofs.board.check.Goals as goal

-- the line, where its first two bytes have been read
abbrev line_of : After-byte_at-columns → List ℕ
line_of c = c.args.line.now

fine : (c : Else-digits_refused) → digits_refused c.args.line.now ≡ false
fine c = sym c.digits_refused.ensures ∙ c.if-digits_refused.false

good : (c : Else-digits_refused) → Digits c.args.line.now
good c = digits_good c.args.line.now (fine c)

rows_are : (c : After-byte_at-columns) → c.byte_at-rows.result ≡ rows_byte (line_of c)
rows_are c = c.byte_at-rows.ensures.0

columns_are : (c : After-byte_at-columns) → c.byte_at-columns.result ≡ columns_byte (line_of c)
columns_are c = c.byte_at-columns.ensures.0

cells_are : (c : After-byte_at-columns) → c.byte_at-rows.result * c.byte_at-columns.result ≡ cells_of (line_of c)
cells_are c = λ i. rows_are c i * columns_are c i

few_cells : (c : After-byte_at-columns) → c.byte_at-rows.result * c.byte_at-columns.result ≤ 65025
few_cells c = product_small c.byte_at-rows.result c.byte_at-columns.result c.byte_at-rows.ensures.1 c.byte_at-columns.ensures.1

pub returns-then-digits_refused : goal.returns-then-digits_refused
returns-then-digits_refused c = digits_frame c.args.line.now (sym c.digits_refused.ensures ∙ c.if-digits_refused.true)

pub byte_at-rows-requires : goal.byte_at-rows-requires
byte_at-rows-requires c = omega (arith, good (goal.at.byte_at-rows-requires c).Else-digits_refused)

pub byte_at-columns-requires : goal.byte_at-columns-requires
byte_at-columns-requires c = omega (arith, good (goal.at.byte_at-columns-requires c).Else-digits_refused)

pub returns-then-rows-eq0 : goal.returns-then-rows-eq0
returns-then-rows-eq0 c =
    no_rows (line_of (goal.at.returns-then-rows-eq0 c).After-byte_at-columns) (fine (goal.at.returns-then-rows-eq0 c).Else-digits_refused) (omega (arith, rows_are (goal.at.returns-then-rows-eq0 c).After-byte_at-columns))

pub returns-then-columns-eq0 : goal.returns-then-columns-eq0
returns-then-columns-eq0 c =
    no_columns (line_of (goal.at.returns-then-columns-eq0 c).After-byte_at-columns) (fine (goal.at.returns-then-columns-eq0 c).Else-digits_refused) (λ e. omega (arith, rows_are (goal.at.returns-then-columns-eq0 c).After-byte_at-columns)) (omega (arith, rows_are (goal.at.returns-then-columns-eq0 c).After-byte_at-columns)) (omega (arith, columns_are (goal.at.returns-then-columns-eq0 c).After-byte_at-columns))

pub overflow_mul-rows : goal.overflow_mul-rows
overflow_mul-rows c = omega (arith, few_cells (goal.at.overflow_mul-rows c).After-byte_at-columns)

pub returns-then-rows-columns-gt2048 : goal.returns-then-rows-columns-gt2048
returns-then-rows-columns-gt2048 c =
    many_cells (line_of (goal.at.returns-then-rows-columns-gt2048 c).After-byte_at-columns) (fine (goal.at.returns-then-rows-columns-gt2048 c).Else-digits_refused) (λ e. omega (arith, rows_are (goal.at.returns-then-rows-columns-gt2048 c).After-byte_at-columns)) (omega (arith, rows_are (goal.at.returns-then-rows-columns-gt2048 c).After-byte_at-columns)) (λ e. omega (arith, columns_are (goal.at.returns-then-rows-columns-gt2048 c).After-byte_at-columns)) (omega (arith, columns_are (goal.at.returns-then-rows-columns-gt2048 c).After-byte_at-columns)) (omega (arith, cells_are (goal.at.returns-then-rows-columns-gt2048 c).After-byte_at-columns))

pub returns-then-line-bytes : goal.returns-then-line-bytes
returns-then-line-bytes c =
    other_bytes (line_of (goal.at.returns-then-line-bytes c).After-byte_at-columns) (fine (goal.at.returns-then-line-bytes c).Else-digits_refused) (λ e. omega (arith, rows_are (goal.at.returns-then-line-bytes c).After-byte_at-columns)) (omega (arith, rows_are (goal.at.returns-then-line-bytes c).After-byte_at-columns)) (λ e. omega (arith, columns_are (goal.at.returns-then-line-bytes c).After-byte_at-columns)) (omega (arith, columns_are (goal.at.returns-then-line-bytes c).After-byte_at-columns)) (omega (arith, cells_are (goal.at.returns-then-line-bytes c).After-byte_at-columns)) (λ e. omega (arith, cells_are (goal.at.returns-then-line-bytes c).After-byte_at-columns))

padding-is : (c : After-bit_between) → c.bit_between.result ≡ padding_set c.args.line.now
padding-is c =
    let e = c.byte_at-rows.ensures.0 in
    let f = c.byte_at-columns.ensures.0 in
    let g : c.byte_at-rows.result * c.byte_at-columns.result ≡ cells_of c.args.line.now = λ i. e i * f i in
    padding_by c.args.line.now _ _ _ c.bit_between.ensures g (omega (arith, g))

pub returns-then-bit_between : goal.returns-then-bit_between
returns-then-bit_between c =
    padding-set (line_of (goal.at.returns-then-bit_between c).After-byte_at-columns) (fine (goal.at.returns-then-bit_between c).Else-digits_refused) (λ e. omega (arith, rows_are (goal.at.returns-then-bit_between c).After-byte_at-columns)) (omega (arith, rows_are (goal.at.returns-then-bit_between c).After-byte_at-columns)) (λ e. omega (arith, columns_are (goal.at.returns-then-bit_between c).After-byte_at-columns)) (omega (arith, columns_are (goal.at.returns-then-bit_between c).After-byte_at-columns)) (omega (arith, cells_are (goal.at.returns-then-bit_between c).After-byte_at-columns)) (omega (arith, cells_are (goal.at.returns-then-bit_between c).After-byte_at-columns))
    (sym (padding-is (goal.at.returns-then-bit_between c).After-bit_between) ∙ c.if-bit_between.true)

pub returns : goal.returns
returns c =
    all_fine (line_of (goal.at.returns c).After-byte_at-columns) (fine (goal.at.returns c).Else-digits_refused) (λ e. omega (arith, rows_are (goal.at.returns c).After-byte_at-columns)) (omega (arith, rows_are (goal.at.returns c).After-byte_at-columns)) (λ e. omega (arith, columns_are (goal.at.returns c).After-byte_at-columns)) (omega (arith, columns_are (goal.at.returns c).After-byte_at-columns)) (omega (arith, cells_are (goal.at.returns c).After-byte_at-columns)) (omega (arith, cells_are (goal.at.returns c).After-byte_at-columns))
    (sym (padding-is (goal.at.returns c).After-bit_between) ∙ c.if-bit_between.false)
