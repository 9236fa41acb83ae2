-- The label of a 0-cell stands at what its opening holds, as first label or as second. Assumes nothing.
use Prim.Native.Nat.{ℕ, ◌<◌, ◌≤◌}
use native.Mathlib.Omega.{arith}
use mathlib.Core.Path.{◌∙◌, ◌≡◌, ap, refl, sym}
use mathlib.Core.Logic.{⊎_elim}
use mathlib.Core.Bool.{Bool, ◌||◌, false, true}
use mathlib.Core.List.{List, [], ◌∷◌}
use lib.Dec.{T, eqb, eqb_refl, eqb→eq}
use lib.ListN.{get_or, length}
use Rattle.game.specs.Grid.{Grid, size}
use Rattle.game.specs.Lists.{has}
use Rattle.game.specs.Openings.{first_label, holds, joined_to, labels, openings, second_label}
use Rattle.game.proofs.Labels.{Seated, at_most_two, first_seat, labels_range, places_at, seat, seated}
use Rattle.game.proofs.Members.{first_of, has_cases, has_head, has_tail}
use Rattle.game.proofs.Openings.{covered, good}
use Rattle.game.proofs.Owners.{same-holds}
use Rattle.game.proofs.Truth.{iff, or_cases, or_left, or_right}
use Rattle.game.proofs.Zeros.{Zero}
use borrow.Author.Tests.{ne_eqb}

-- what the loop of reveal tests
abbrev pub carries : Grid → ℕ → ℕ → Bool
carries g o j = eqb (second_label g j) o || eqb (first_label g j) o

of_two : (ls : List ℕ) (o : ℕ) → length ls ≤ 2 → 1 ≤ o → (eqb (get_or ls 1 0) o || eqb (get_or ls 0 0) o) ≡ has o ls
of_two [] o l h = ap (λ (b : Bool). b || b) (ne_eqb 0 o (λ e. omega arith))
of_two (x ∷ []) o l h = ap (λ (b : Bool). b || eqb x o) (ne_eqb 0 o (λ e. omega arith)) ∙ eqb_sym x o ∙ or_false (eqb o x)
  where
    eqb_sym : (a b : ℕ) → eqb a b ≡ eqb b a
    eqb_sym a b = iff (eqb a b) (eqb b a) (λ t. rw (eqb→eq a b t) (eqb_refl b)) (λ t. rw (eqb→eq b a t) (eqb_refl a))

    or_false : (a : Bool) → a ≡ (a || false)
    or_false true = refl
    or_false false = refl
of_two (x ∷ y ∷ []) o l h =
    iff (eqb y o || eqb x o) (has o (x ∷ y ∷ []))
    (λ t. ⊎_elim (λ u. has_tail o x (y ∷ []) (has_head o y [] (sym (eqb→eq y o u)))) (λ u. has_head o x (y ∷ []) (sym (eqb→eq x o u))) (or_cases (eqb y o) (eqb x o) t))
    (λ t. has_cases o x (y ∷ []) (λ e. or_right (eqb y o) (eqb x o) (rw e (eqb_refl x)))
    (λ u. has_cases o y [] (λ e. or_left (eqb y o) (eqb x o) (rw e (eqb_refl y))) (λ v. absurd v) u) t)
of_two (x ∷ y ∷ z ∷ ls) o l h = absurd (omega arith)

pub carries_held : (g : Grid) (c j : ℕ) → Zero g c → j < size g → carries g (first_label g c) j ≡ holds g j (joined_to g c)
unfolding labels
carries_held g c j z h =
    of_two (labels g j) (first_label g c) (at_most_two g j h) (omega (arith, first_seat g c z))
    ∙ ap (λ (k : ℕ). has k (labels g j)) (first_seat g c z)
    ∙ places_at g j 1 (seat c (openings g)) (openings g) q.inside
    ∙ same-holds g c j (get_or (openings g) (seat c (openings g)) []) z q.full q.has_it
  where
    q : Seated g c (openings g)
    q = seated g c (openings g) (good g).full (covered g c z)

-- a cell that carries a label has a first one
pub carries_some : (g : Grid) (o j : ℕ) → 1 ≤ o → T (carries g o j) → eqb (first_label g j) 0 ≡ false
carries_some g o j h t =
    ⊎_elim (λ u. ne_eqb (first_label g j) 0 (λ e. go (labels g j) (λ x v. (labels_range g j x v).0) e (eqb→eq (second_label g j) o u)))
    (λ u. ne_eqb (first_label g j) 0 (λ e. omega (arith, eqb→eq (first_label g j) o u))) (or_cases (eqb (second_label g j) o) (eqb (first_label g j) o) t)
  where
    go : (ls : List ℕ) → ((x : ℕ) → T (has x ls) → 1 ≤ x) → get_or ls 0 0 ≡ 0 → get_or ls 1 0 ≡ o → ⊥
    go [] r e d = omega arith
    go (x ∷ ls) r e d = omega (arith, first_of x ls r)
