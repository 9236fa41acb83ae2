-- Before any move: the raised premium in two parts, one by labels and content, one by the unlabelled cells near. Assumes nothing.
use Prim.Native.Nat.{ℕ, ◌+◌, ◌-◌, ◌<◌}
use native.Mathlib.Omega.{arith}
use mathlib.Core.Path.{◌∙◌, ◌≡◌, ap, refl}
use mathlib.Core.Bool.{Bool, cond, false, not, true}
use lib.Dec.{eqb}
use Rattle.area.specs.Stages.{content, raised}
use Rattle.game.specs.Grid.{Grid, cells, mine, number, size}
use Rattle.game.specs.Lists.{bit, count}
use Rattle.game.specs.Openings.{first_label, second_label, unlabelled}
use Rattle.game.specs.Position.{cost, gain, untouched}
use Rattle.premiums.specs.Laying.{alone_premium}
use Rattle.game.proofs.Labels.{label_marks}
use Rattle.game.proofs.Ranges.{cost_range, untouched_cost, untouched_gain}
use Rattle.premiums.proofs.Risen.{mine_stays, raised_near, raises}
use borrow.Author.Tests.{ne_eqb}

-- ---- the raised premium before any move, in two parts

-- by labels and content alone
unfoldable pub alone : Grid → ℕ → ℕ
alone g i = alone_premium (bit (not (eqb (first_label g i) 0)) + bit (not (eqb (second_label g i) 0))) (content g i)

pub raised_parts : (g : Grid) (i : ℕ) → i < size g → alone g i + count (raises g (unlabelled g) i) (cells g) ≡ raised g (untouched g) i
unfolding alone raised content
raised_parts g i h = go (mine g i) refl
  where
    go : (b : Bool) → mine g i ≡ b
        → alone_premium (bit (not (eqb (first_label g i) 0)) + bit (not (eqb (second_label g i) 0))) (cond b 0 (1 + number g i)) + count (raises g (unlabelled g) i) (cells g)
        ≡ cond b 0 (10 + gain g (untouched g) i - cost g (untouched g) i)
    go true e = omega (arith, mine_stays g (unlabelled g) i e)
    go false e =
        ap (λ (b : Bool). cond b 0 (9 + (bit (not (eqb (first_label g i) 0)) + bit (not (eqb (second_label g i) 0))) - (1 + number g i)) + count (raises g (unlabelled g) i) (cells g))
        (ne_eqb (1 + number g i) 0 (λ q. omega arith))
        ∙ omega (
          arith,
          raised_near g (unlabelled g) i h e,
          untouched_gain g i h,
          untouched_cost g i h,
          label_marks g i h,
          cost_range g (untouched g) i h (rw e tt),
        )
