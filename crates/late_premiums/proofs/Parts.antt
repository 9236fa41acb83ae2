-- In any position: the raised premium in two parts, one by marks, content and state, one by the cells near that raise it. A mine in the square is unflagged, or it is flagged and raises. Assumes nothing.
use Prim.Native.Nat.{ℕ, ◌+◌, ◌-◌, ◌<◌, ◌≤◌}
use native.Mathlib.Omega.{arith}
use mathlib.Core.Path.{◌∙◌, ◌≡◌, ap, refl}
use mathlib.Core.Bool.{Bool, ◌&&◌, cond, false, not, true}
use mathlib.Core.List.{List, [], ◌∷◌}
use lib.Dec.{eqb}
use lib.ListN.{get_or}
use Rattle.area.specs.Stages.{content, raised}
use Rattle.game.specs.Grid.{Grid, cells, mine, number, size, square}
use Rattle.game.specs.Lists.{bit, count, some_of}
use Rattle.game.specs.Openings.{first_label, holds, openings, second_label}
use Rattle.game.specs.Position.{Position, cell_unit, cost, flagged, gain, opened, unflagged, unopened, untouched}
use Rattle.late_premiums.specs.Passes.{alone_premium, keeper_of}
use Rattle.game.proofs.Counts.{bit_small, count_split}
use Rattle.game.proofs.Ranges.{cost_range, untouched_cost}
use Rattle.premiums.proofs.Risen.{mine_stays, raised_near, raises}
use Rattle.late_premiums.proofs.Marked.{closed_held, label_mark, marked}
use borrow.Author.Tests.{ne_eqb}

-- by marks, content and state
unfoldable pub alone : Grid → Position → ℕ → ℕ
alone g s i = alone_premium (label_mark g s (first_label g i) + label_mark g s (second_label g i)) (content g i) (get_or s i 0)

-- a flagged mine, or an unlabelled cell that is not opened
abbrev pub raising : Grid → Position → ℕ → Bool
raising g s i = cond (mine g i) (flagged s i) (cell_unit g s i)

-- marks are small
pub mark_small : (g : Grid) (s : Position) (label : ℕ) → label_mark g s label ≤ 1
mark_small g s label = go (eqb label 0) (marked g s (keeper_of (size g) label))
  where
    go : (a b : Bool) → cond a 0 (bit b) ≤ 1
    go true b = omega arith
    go false b = bit_small b

pub alone_small : (g : Grid) (s : Position) (i : ℕ) → alone g s i ≤ 12
unfolding alone
alone_small g s i = go (eqb (content g i) 0)
  where
    go : (b : Bool) → cond b 0 (9 + (label_mark g s (first_label g i) + label_mark g s (second_label g i)) + bit (opened s i) - content g i) ≤ 12
    go true = omega arith
    go false = omega (arith, mark_small g s (first_label g i), mark_small g s (second_label g i), bit_small (opened s i))

-- the cells that raise are the flagged mines and the unlabelled cells that are not opened
raising_parts : (g : Grid) (s : Position) (xs : List ℕ) → count (raising g s) xs ≡ count (λ x. flagged s x && mine g x) xs + count (cell_unit g s) xs
raising_parts g s [] = omega arith
raising_parts g s (x ∷ xs) =
    omega (arith, one (mine g x) (flagged s x) (not (some_of (holds g x) (openings g))) (unopened s x), raising_parts g s xs)
  where
    one : (m f l u : Bool) → bit (cond m f ((not m && l) && u)) ≡ bit (f && m) + bit ((not m && l) && u)
    one true true l u = refl
    one true false l u = refl
    one false true l u = omega arith
    one false false l u = omega arith

-- a mine of the square is unflagged or flagged
number_parts : (g : Grid) (s : Position) (i : ℕ) → number g i ≡ count (unflagged g s) (square g i) + count (λ x. flagged s x && mine g x) (square g i)
unfolding number
number_parts g s i = count_split (mine g) (flagged s) (square g i)

-- a safe cell's number is at most 8
number_few : (g : Grid) (i : ℕ) → i < size g → mine g i ≡ false → number g i ≤ 8
number_few g i h e = omega (arith, untouched_cost g i h, cost_range g (untouched g) i h (rw e tt))

bit_not : (b : Bool) → bit (not b) + bit b ≡ 1
bit_not true = refl
bit_not false = refl

pub late_parts : (g : Grid) (s : Position) (i : ℕ) → i < size g → alone g s i + count (raises g (raising g s) i) (cells g) ≡ raised g s i
unfolding alone raised content gain cost
late_parts g s i h = go (mine g i) refl
  where
    closed : ℕ
    closed = label_mark g s (first_label g i) + label_mark g s (second_label g i)

    go : (b : Bool) → mine g i ≡ b
        → alone_premium closed (cond b 0 (1 + number g i)) (get_or s i 0) + count (raises g (raising g s) i) (cells g) ≡ cond b 0 (10 + gain g s i - cost g s i)
    go true e = omega (arith, mine_stays g (raising g s) i e)
    go false e =
        ap (λ (b : Bool). cond b 0 (9 + closed + bit (opened s i) - (1 + number g i)) + count (raises g (raising g s) i) (cells g))
        (ne_eqb (1 + number g i) 0 (λ q. omega arith))
        ∙ omega (
          arith,
          raised_near g (raising g s) i h e,
          raising_parts g s (square g i),
          closed_held g s i h,
          number_parts g s i,
          number_few g i h e,
          bit_not (opened s i),
        )
