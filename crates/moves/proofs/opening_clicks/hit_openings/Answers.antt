-- `moves::opening_clicks::hit_openings`: the cells passed were clicked in turn where they are closed 0-cells. Assumes nothing.
use native.Mathlib.Omega.{arith}
use mathlib.Core.List.{[], ◌∷◌}
use borrow.Author.Rules.{rules}
use Rattle.game.specs.Lists.{range}
use Rattle.game.proofs.Members.{range_more}
use Rattle.moves.specs.Walks.{hits_from}
use Rattle.moves.proofs.Hits.{hits_append}
use Rattle.moves.proofs.Joins.{over_both}
use Rattle.moves.proofs.opening_clicks.hit_openings.Goals as goal

pub loop-index-preserved : goal.loop-index-preserved
loop-index-preserved c =
    let u = c.hit-clicked in
    let a = c.args in (
      omega arith,
      search rules,
      search rules,
      omega arith,
      rw (range_more 0 c.loop-index.index (omega arith))
          (over_both hits_from a.rows a.columns (range 0 c.loop-index.index) (c.loop-index.index ∷ [])
          a.work.now a.list.now a.state c.loop-index.work c.loop-index.list c.loop-index.clicked u.new.work u.new.list u.result
          (λ g s. hits_append g (range 0 c.loop-index.index) (c.loop-index.index ∷ []) s) c.loop-index.invariant.4 u.ensures.over),
    )
