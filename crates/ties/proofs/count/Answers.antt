-- `ties::count`: the candidates counted so far are those of the columns passed. Assumes nothing.
use Prim.Native.Nat.{ℕ}
use native.Mathlib.Omega.{arith}
use mathlib.Core.Path.{◌∙◌, ap}
use Rattle.game.specs.Lists.{count, range}
use Rattle.ties.specs.Candidates.{candidate_at}
use Rattle.ties.proofs.Skips.{count_column_more}
use Rattle.game.proofs.Squares.{next_column}
use Rattle.ties.proofs.count.Goals as goal

pub loop-column-preserved : goal.loop-column-preserved
loop-column-preserved c =
    let l = c.loop-column in
    let a = c.args in
    let f = candidate_at a.top a.work.now in
    let e = next_column a.rows l.column in (
      c.count_column-candidates.ensures.units_len_unchanged.1,
      count_column_more f a.rows l.column l.candidates c.count_column-candidates.result l.invariant.1 c.count_column-candidates.ensures.value.0 ∙ ap (λ (m : ℕ). count f (range 0 m)) e,
      omega (arith, e, c.count_column-candidates.ensures.value.1, l.invariant.2),
    )
