-- `ties::top`: the highest premium of all columns tells what a random step chooses among. Assumes nothing.
use Prim.Native.Nat.{ℕ, ◌*◌}
use mathlib.Core.Path.{◌≡◌, ap, subst, sym}
use mathlib.Core.Bool.{false}
use lib.Dec.{ltb}
use Rattle.game.specs.Lists.{keep, range}
use Rattle.game.specs.Rounds.{choice}
use Rattle.choices.specs.declared.Best.{Best}
use Rattle.ties.specs.Candidates.{candidate_at, candidates_of, for_click}
use Rattle.ties.proofs.Telling.{top_tells}
use Rattle.ties.proofs.top.Goals as goal

pub returns-clause-result_value : goal.returns-clause-result_value
returns-clause-result_value c =
    let a = c.args in
    λ g s old t. subst (λ (m : ℕ). (ltb m 10 ≡ for_click (choice false g s)) × (keep (candidate_at m a.work.now) (range 0 (a.rows * a.columns)) ≡ candidates_of (choice false g s)))
    (ap (λ (b : Best). b.top) (sym c.first_column-found.ensures.value)) (top_tells a.rows a.columns g s old a.work.now t)
