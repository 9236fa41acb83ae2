-- How a replayed game ends: by the safe cells still closed and whether a mine is open. Assumes nothing.
use mathlib.Core.Path.{◌∙◌, ◌≡◌, refl, sym}
use mathlib.Core.Bool.{Bool, ◌&&◌, cond, false, false≢true, not, true}
use lib.Dec.{eqb}
use native.Mathlib.Omega.{arith}
use denote.Enum.Bare.{sameb}
use Rattle.game.specs.Grid.{Grid}
use Rattle.game.specs.Lists.{bit}
use Rattle.game.specs.Position.{Position, closed_safe, ending, lost}
use Rattle.kinds.specs.Numbers.{ending_number}
use Rattle.kinds.specs.contracts.Ending.{the_type}
use Rattle.kinds.specs.declared.Ending.{Ending}
use Rattle.kinds.specs.declared.Ending.TheVariants.{Lost, Unfinished, Won}
use Rattle.replay.specs.Replays.{ending_by}

-- the ending by the two things that it turns on
pub ending-by : (g : Grid) (s : Position) → ending_number (ending_by (closed_safe g s) (lost g s)) ≡ ending g s
unfolding ending
ending-by g s = go (eqb (closed_safe g s) 0) (lost g s)
  where
    go : (done gone : Bool) → ending_number (cond gone Lost (cond done Won Unfinished)) ≡ cond gone 2 (bit (done && not gone))
    go done true = refl
    go true false = refl
    go false false = refl

-- the test whether a game goes on
pub goes-on : (e : Ending) (ends : Bool) → ends ≡ not (sameb the_type e Unfinished) → ends ≡ false → ending_number e ≡ 0
goes-on Unfinished ends d k = refl
goes-on Won ends d k = absurd (false≢true (sym k ∙ d))
goes-on Lost ends d k = absurd (false≢true (sym k ∙ d))

pub is-over : (e : Ending) (ends : Bool) → ends ≡ not (sameb the_type e Unfinished) → ends ≡ true → ending_number e ≡ 0 → ⊥
is-over Unfinished ends d k z = false≢true (sym d ∙ k)
is-over Won ends d k z = omega arith
is-over Lost ends d k z = omega arith
