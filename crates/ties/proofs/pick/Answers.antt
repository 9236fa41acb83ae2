-- `ties::pick`: the candidates of the columns passed are counted, until the place is in a column. Assumes nothing.
use Prim.Native.Nat.{ℕ, ◌*◌}
use native.Mathlib.Omega.{arith}
use native.Mathlib.Nat.{mul_comm}
use mathlib.Core.Path.{◌∙◌, ◌≡◌, ap}
use Rattle.game.specs.Lists.{count, range}
use Rattle.ties.specs.Candidates.{candidate_at}
use Rattle.choices.proofs.Passing.{kept_past}
use Rattle.ties.proofs.Skips.{count_column_more}
use Rattle.game.proofs.Squares.{next_column}
use Rattle.ties.proofs.pick.Goals as goal

pub returns-then-place-after-clause-value : goal.returns-then-place-after-clause-value
returns-then-place-after-clause-value c =
    let a = c.args in
    let f = candidate_at a.top a.work.now in
    c.pick_column.ensures (omega (arith, c.if-place-after.true, count_column_more f a.rows c.loop-column.column c.loop-column.passed c.count_column.result c.loop-column.invariant.1 c.count_column.ensures.value.0))

pub loop-column-preserved : goal.loop-column-preserved
loop-column-preserved c =
    let l = c.loop-column in
    let a = c.args in
    let f = candidate_at a.top a.work.now in
    let e = next_column a.rows l.column in (
      c.count_column.ensures.units_len_unchanged.1,
      count_column_more f a.rows l.column l.passed c.count_column.result l.invariant.1 c.count_column.ensures.value.0 ∙ ap (λ (m : ℕ). count f (range 0 m)) e,
      omega (arith, e, c.count_column.ensures.value.1, l.invariant.2),
      omega (arith, c.if-place-after.false),
    )

pub returns-clause-value : goal.returns-clause-value
returns-clause-value c =
    let l = c.loop-column in
    let a = c.args in
    let f = candidate_at a.top a.work.now in
    let e : l.column ≡ a.columns = omega arith in
    let m = ap (λ (k : ℕ). k * a.rows) e ∙ mul_comm a.columns a.rows in
    kept_past f (a.rows * a.columns) a.place (omega (arith, l.invariant.3, l.invariant.1, ap (λ (k : ℕ). count f (range 0 k)) m))
