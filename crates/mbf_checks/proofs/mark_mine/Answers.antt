-- `mbf_checks::mark_mine`: the tests in their order; the place that is computed is the mine's. Assumes nothing.
use Prim.Native.Nat.{ℕ, ◌+◌, ◌*◌, ◌<◌}
use native.Mathlib.Omega.{arith}
use mathlib.Core.Path.{◌≡◌, subst}
use Rattle.mine_bits.specs.Bits.{SetNew}
use Rattle.mbf_form.specs.Form.{mine_place}
use Rattle.mbf_checks.proofs.Marking.{past_column, past_row, place_small, set_or_not}
use Rattle.mbf_checks.proofs.mark_mine.Goals.{Else-rows-row}
use Rattle.mbf_checks.proofs.mark_mine.Goals as goal

-- the place is the mine's
place_is : (c : Else-rows-row) → c.byte-row.result * c.byte-columns.result + c.byte-column.result
    ≡ mine_place c.args.file.now c.args.k
place_is c = λ i. c.byte-row.ensures.0 i * c.byte-columns.ensures.0 i + c.byte-column.ensures.0 i

small : (c : Else-rows-row) → c.byte-row.result * c.byte-columns.result + c.byte-column.result < 65536
small c = place_small c.byte-columns.result c.byte-column.result c.byte-row.result (omega arith) (omega arith) (omega arith)

pub returns-then-columns-column : goal.returns-then-columns-column
returns-then-columns-column c = let a = c.args in past_column a.file.now a.k a.bits.now (omega arith)

pub returns-then-rows-row : goal.returns-then-rows-row
returns-then-rows-row c = let a = c.args in past_row a.file.now a.k a.bits.now (omega arith) (omega arith)

pub overflow_mul-row : goal.overflow_mul-row
overflow_mul-row c = omega (arith, small (goal.at.overflow_mul-row c).Else-rows-row)

pub overflow_add-row : goal.overflow_add-row
overflow_add-row c = omega (arith, small (goal.at.overflow_add-row c).Else-rows-row)

pub set_new-requires : goal.set_new-requires
set_new-requires c = omega (arith, small (goal.at.set_new-requires c).Else-rows-row)

pub returns : goal.returns
returns c =
    let s = c.before.before in
    let a = c.args in
    set_or_not a.file.now a.k a.bits.now (omega arith) (omega arith) c.set_new.result c.set_new.new.bits
    (subst (λ (p : ℕ). SetNew a.bits.now p c.set_new.result c.set_new.new.bits) (place_is (goal.at.returns c).Else-rows-row) c.set_new.ensures)
