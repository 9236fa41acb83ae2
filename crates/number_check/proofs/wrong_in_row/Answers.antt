-- `number_check::wrong_in_row`: no column passed has a wrong value; the sums of three columns are carried, and are the number of the cell. Assumes nothing.
use Prim.Native.Nat.{◌+◌, ◌*◌, ◌<◌, ◌≤◌}
use native.Mathlib.Omega.{arith}
use mathlib.Core.Path.{◌≡◌, sym, ◌∙◌}
use lib.Arith.{digits_lt}
use Rattle.game.specs.Grid.{Grid, index, wrong}
use Rattle.area.specs.Numbers.{grid_of}
use Rattle.mine_sums.proofs.Along.{after_before, after_few, after_number}
use Rattle.number_check.proofs.Values.{one_more, wrong_here}
use Rattle.number_check.proofs.wrong_in_row.Goals.{After-is_wrong, After-sums_after-sums, In-loop-column, Start}
use Rattle.number_check.proofs.wrong_in_row.Goals as goal

-- the grid that is looked at
abbrev board : Start → Grid
board s = grid_of s.args.rows s.args.columns s.args.grid.now

-- the place of the value
place : (c : In-loop-column) → c.args.row * c.args.columns + c.loop-column.column < c.args.rows * c.args.columns
place c =
    let a = c.args in
    digits_lt {q = a.row} {m = a.rows} {r = c.loop-column.column} {c = a.columns} (omega arith) (omega arith)

-- the sums are of nine cells at most
nine : (c : After-sums_after-sums) → c.sums_after-sums.result.left + c.sums_after-sums.result.here + c.sums_after-sums.result.right ≤ 9
nine c =
    let u = c.sums_after-sums in
    after_few (board c.before.before.before.before) c.args.row c.loop-column.column u.result (omega arith) (omega arith) u.ensures

pub overflow_add-number : goal.overflow_add-number
overflow_add-number c = omega (arith, nine c.before)

pub overflow_add-number-in-loop-column : goal.overflow_add-number-in-loop-column
overflow_add-number-in-loop-column c = omega (arith, nine c.before.before)

pub is_wrong-requires : goal.is_wrong-requires
is_wrong-requires c = (omega (arith, place c.before.before.before), nine c.before.before)

-- what was told of the value
told : (c : After-is_wrong) → c.is_wrong.result ≡ wrong (board c.before.before.before.before.before.before.before) (index (board c.before.before.before.before.before.before.before) c.args.row c.loop-column.column)
told c =
    let a = c.args in
    let l = c.loop-column in
    let u = c.sums_after-sums in
    let n = after_number (board c.before.before.before.before.before.before.before) a.row l.column u.result (omega arith) (omega arith) u.ensures in
    c.is_wrong.ensures ∙ wrong_here a.rows a.columns a.grid.now a.row l.column (u.result.left + u.result.here + u.result.right) (omega arith) n

pub returns-then-is_wrong : goal.returns-then-is_wrong
returns-then-is_wrong c =
    let l = c.loop-column in
    record { within = omega arith; before = l.invariant.1; found = λ h. sym (told c.before) ∙ c.if-is_wrong.true }

pub loop-column-preserved : goal.loop-column-preserved
loop-column-preserved c =
    let l = c.loop-column in
    let u = c.sums_after-sums in (
      omega arith,
      one_more (board c.before.before.before.before.before.before.before.before) c.args.row l.column l.invariant.1 (sym (told c.before) ∙ c.if-is_wrong.false),
      after_before (board c.before.before.before.before.before.before.before.before) c.args.row l.column u.result u.ensures,
    )
