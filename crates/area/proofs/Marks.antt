-- A label marks exactly the cells that its opening holds: the label of a 0-cell is the place of its opening. Assumes nothing.
use Prim.Native.Nat.{ℕ, ◌<◌, ◌≤◌}
use native.Mathlib.Omega.{arith}
use mathlib.Core.Path.{◌∙◌, ◌≡◌, ap}
use mathlib.Core.Logic.{⊎_elim}
use mathlib.Core.Bool.{◌||◌}
use mathlib.Core.List.{[]}
use lib.Dec.{eqb, eqb_refl, eqb→eq}
use lib.ListN.{get_or}
use Rattle.game.specs.Grid.{Grid, size}
use Rattle.game.specs.Lists.{has}
use Rattle.game.specs.Openings.{first_label, holds, joined_to, labels, openings, second_label}
use Rattle.game.proofs.Labels.{Seated, first_seat, labels_all, places_at, seat, seated}
use Rattle.game.proofs.Members.{get_d_in}
use Rattle.game.proofs.Openings.{covered, good}
use Rattle.game.proofs.Owners.{same-holds}
use Rattle.game.proofs.Truth.{iff, or_cases, or_left, or_right}
use Rattle.game.proofs.Zeros.{Zero}

-- the cells with the label of a 0-cell are those that its opening holds
pub marked_held : (g : Grid) (i x : ℕ) → Zero g i → x < size g
    → (eqb (first_label g x) (first_label g i) || eqb (second_label g x) (first_label g i)) ≡ holds g x (joined_to g i)
unfolding labels
marked_held g i x z h =
    either
    ∙ ap (λ (k : ℕ). has k (labels g x)) (first_seat g i z)
    ∙ places_at g x 1 (seat i (openings g)) (openings g) s.inside
    ∙ same-holds g i x (get_or (openings g) (seat i (openings g)) []) z s.full s.has_it
  where
    s : Seated g i (openings g)
    s = seated g i (openings g) (good g).full (covered g i z)

    some : 1 ≤ first_label g i
    some = omega (arith, first_seat g i z)

    either : (eqb (first_label g x) (first_label g i) || eqb (second_label g x) (first_label g i)) ≡ has (first_label g i) (labels g x)
    either =
        iff (eqb (first_label g x) (first_label g i) || eqb (second_label g x) (first_label g i)) (has (first_label g i) (labels g x))
        (λ t. ⊎_elim (λ u. get_d_in (labels g x) 0 (first_label g i) some (eqb→eq (first_label g x) (first_label g i) u))
        (λ u. get_d_in (labels g x) 1 (first_label g i) some (eqb→eq (second_label g x) (first_label g i) u))
        (or_cases (eqb (first_label g x) (first_label g i)) (eqb (second_label g x) (first_label g i)) t))
        (λ t. ⊎_elim
        (λ e. or_left (eqb (first_label g x) (first_label g i)) (eqb (second_label g x) (first_label g i)) (rw e (eqb_refl (first_label g x))))
        (λ e. or_right (eqb (first_label g x) (first_label g i)) (eqb (second_label g x) (first_label g i)) (rw e (eqb_refl (second_label g x))))
        (labels_all g x (first_label g i) h t))
