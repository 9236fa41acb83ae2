-- getadj3bv of a labelled grid is what a cell gains before any move. Assumes nothing.
use Prim.Native.Nat.{ℕ, ◌+◌, ◌<◌}
use native.Mathlib.Omega.{arith}
use mathlib.Core.Path.{◌∙◌, ◌≡◌, ap, refl, sym}
use mathlib.Core.Bool.{Bool, ◌&&◌, cond, false, not, true}
use lib.Dec.{eqb}
use lib.ListN.{length}
use Rattle.game.specs.Grid.{Grid, safe, size, square, zero_cell}
use Rattle.game.specs.Lists.{bit, count}
use Rattle.game.specs.Openings.{first_label, labels, second_label, unlabelled}
use Rattle.game.specs.Position.{gain, untouched}
use Rattle.game.proofs.Counts.{count_ext, count_none}
use Rattle.game.proofs.Labels.{first-label, label_marks, zero_label}
use Rattle.game.proofs.Ranges.{untouched_gain}
use Rattle.game.proofs.Reveal.{no_zero_near}
use Rattle.game.proofs.Squares.{close_sym, square→, →square}
use Rattle.game.proofs.Zeros.{Zero}

-- getadj3bv of a labelled grid
unfoldable pub adjacent : Grid → ℕ → ℕ
adjacent g i =
    cond (zero_cell g i) 1
    (count (λ j. safe g j && eqb (first_label g j) 0) (square g i) + bit (not (eqb (first_label g i) 0)) + bit (not (eqb (second_label g i) 0)))

-- it is what a cell gains before any move
pub adjacent_gain : (g : Grid) (i : ℕ) → i < size g → adjacent g i ≡ gain g (untouched g) i
unfolding adjacent
adjacent_gain g i h = go (zero_cell g i) refl ∙ sym (untouched_gain g i h)
  where
    go : (b : Bool) → zero_cell g i ≡ b
        → cond b 1 (count (λ j. safe g j && eqb (first_label g j) 0) (square g i) + bit (not (eqb (first_label g i) 0)) + bit (not (eqb (second_label g i) 0)))
        ≡ length (labels g i) + count (unlabelled g) (square g i)
    go true e =
        let z : Zero g i = record { inside = h; none = rw e tt } in
        let a = ap length (zero_label g i z) in
        let b = count_none (unlabelled g) (square g i) (λ j t u.
        let q = square→ g i j h t in
        no_zero_near g j i u (→square g j i q.0 h (close_sym g i j q.1)) z) in
        omega arith
    go false e =
        let a = label_marks g i h in
        let b = count_ext (unlabelled g) (λ j. safe g j && eqb (first_label g j) 0) (square g i) (λ j t. first-label g j) in
        omega arith
