-- The marks: a label's mark is set exactly if its opening has a 0-cell that is not opened, so the marks of a cell's two labels count its closed openings. Assumes nothing.
use Prim.Native.Nat.{ℕ, ◌+◌, ◌<◌, ◌≤◌, suc, zero}
use native.Mathlib.Omega.{arith}
use native.Mathlib.Nat.{add-zero}
use mathlib.Core.Path.{◌∙◌, ◌≡◌, ap, refl, subst, sym}
use mathlib.Core.Bool.{Bool, ◌&&◌, cond, false, true}
use mathlib.Core.List.{List, [], ◌∷◌}
use lib.Dec.{T, eqb, eqb→eq}
use lib.ListN.{get_or, length}
use Rattle.game.specs.Grid.{Grid, cells, size, zero_cell}
use Rattle.game.specs.Lists.{Each, bit, count, has, some_of}
use Rattle.game.specs.Openings.{first_label, holds, labels, openings, places, second_label, three_bv}
use Rattle.game.specs.Position.{Position, opening_closed, unopened}
use Rattle.late_premiums.specs.Passes.{keeper_of}
use Rattle.game.proofs.Labels.{at_most_two, first_seat, holds_zero, labels_range, places_at, seat, seated, zero_label}
use Rattle.game.proofs.Members.{first_of, has_cases, rest_of, some_yes, suc_across, yes_some}
use Rattle.game.proofs.Openings.{Full, covered, good}
use Rattle.game.proofs.Squares.{cells→, →cells}
use Rattle.game.proofs.Truth.{and_both, and_left, and_right, iff}
use Rattle.game.proofs.Units.{units_at_most_cells}
use Rattle.game.proofs.Zeros.{Zero}
use borrow.Author.Tests.{eq-eqb, ne_eqb}

-- a 0-cell that is not opened
abbrev pub closed_zero : Grid → Position → ℕ → Bool
closed_zero g s i = zero_cell g i && unopened s i

-- the cell i puts the mark that the cell x keeps
abbrev pub marks : Grid → Position → ℕ → ℕ → Bool
marks g s x i = closed_zero g s i && eqb x (keeper_of (size g) (first_label g i))

-- the cell x keeps a mark
unfoldable pub marked : Grid → Position → ℕ → Bool
marked g s x = some_of (marks g s x) (cells g)

-- the mark of a label; 0 for none
abbrev pub label_mark : Grid → Position → ℕ → ℕ
label_mark g s label = cond (eqb label 0) 0 (bit (marked g s (keeper_of (size g) label)))

-- ---- a mark and its opening

each_at : (P : List ℕ → Type 0) (os : List (List ℕ)) (k : ℕ) → k < length os → Each P os → P (get_or os k [])
each_at P [] k h e = absurd (omega arith)
each_at P (o ∷ os) zero h e = e.0
each_at P (o ∷ os) (suc k) h e = each_at P os k (omega arith) e.1

few : (g : Grid) → length (openings g) ≤ size g
unfolding three_bv
few g = omega (arith, units_at_most_cells g)

-- an opening's place is the seat of each of its 0-cells
seat_of : (g : Grid) (k a : ℕ) → k < length (openings g) → T (has a (get_or (openings g) k [])) → seat a (openings g) ≡ k
unfolding labels
seat_of g k a h t =
    let f : Full g (get_or (openings g) k []) = each_at (Full g) (openings g) k h (good g).full in
    let z = f.zero-cell a t in
    let e = places_at g a 1 k (openings g) h ∙ holds_zero g a (get_or (openings g) k []) z f in
    has_cases (1 + k) (1 + seat a (openings g)) [] (λ q. omega arith) (λ r. absurd r)
    (subst (λ (l : List ℕ). T (has (1 + k) l)) (zero_label g a z) (subst T (sym e) t))

-- a 0-cell puts the mark of its opening's label
keeper_seat : (g : Grid) (a : ℕ) → Zero g a → (seat a (openings g) < length (openings g)) × (keeper_of (size g) (first_label g a) ≡ seat a (openings g))
keeper_seat g a z =
    let w = seated g a (openings g) (good g).full (covered g a z) in
    (w.inside, omega (arith, w.inside, first_seat g a z, few g))

closed_marked : (g : Grid) (s : Position) (k : ℕ) → k < length (openings g) → marked g s (keeper_of (size g) (1 + k)) ≡ opening_closed s (get_or (openings g) k [])
unfolding marked
closed_marked g s k h =
    iff (some_of (marks g s x) (cells g)) (opening_closed s o)
    (λ t.
    let w = yes_some (marks g s x) (cells g) t in
    let i = w.0 in
    let c = and_left (closed_zero g s i) (eqb x (keeper_of (size g) (first_label g i))) w.2 in
    let z : Zero g i = record { inside = cells→ g i w.1; none = and_left (zero_cell g i) (unopened s i) c } in
    let q = eqb→eq x (keeper_of (size g) (first_label g i)) (and_right (closed_zero g s i) (eqb x (keeper_of (size g) (first_label g i))) w.2) in
    let e : seat i (openings g) ≡ k = omega (arith, keeper_seat g i z, few g) in
    some_yes (unopened s) i o (subst (λ (m : ℕ). T (has i (get_or (openings g) m []))) e (seated g i (openings g) (good g).full (covered g i z)).has_it)
    (and_right (zero_cell g i) (unopened s i) c))
    (λ t.
    let w = yes_some (unopened s) o t in
    let a = w.0 in
    let z = (each_at (Full g) (openings g) k h (good g).full).zero-cell a w.1 in
    some_yes (marks g s x) a (cells g) (→cells g a z.inside)
    (and_both (closed_zero g s a) (eqb x (keeper_of (size g) (first_label g a))) (and_both (zero_cell g a) (unopened s a) z.none w.2)
    (rw (eq-eqb x (keeper_of (size g) (first_label g a)) (omega (arith, keeper_seat g a z, seat_of g k a h w.1, few g))) tt)))
  where
    x : ℕ
    x = keeper_of (size g) (1 + k)

    o : List ℕ
    o = get_or (openings g) k []

-- ---- the marks of a cell's labels

-- openings that hold a cell and pass a test, by their places
held_tests : (g : Grid) (i k : ℕ) (os : List (List ℕ)) (f : List ℕ → Bool) (t : ℕ → Bool) → ((n : ℕ) → n < length os → t (k + n) ≡ f (get_or os n []))
    → count (λ o. holds g i o && f o) os ≡ count t (places g i k os)
held_tests g i k [] f t e = refl
held_tests g i k (o ∷ os) f t e =
    go (holds g i o) (e 0 (omega arith))
    (held_tests g i (suc k) os f t (λ n h. ap t (suc_across k n) ∙ e (suc n) (omega arith)))
  where
    go : (b : Bool) → t (k + 0) ≡ f o → count (λ o. holds g i o && f o) os ≡ count t (places g i (suc k) os)
        → bit (b && f o) + count (λ o. holds g i o && f o) os ≡ count t (elim b as (λ x. List ℕ) [ true ↦ k ∷ places g i (suc k) os | false ↦ places g i (suc k) os ])
    go true q r = omega (arith, ap bit (sym q), ap (λ (m : ℕ). bit (t m)) (add-zero k), r)
    go false q r = omega (arith, r)

-- the closed openings among a cell's labels are the marks of the two
pub closed_held : (g : Grid) (s : Position) (i : ℕ) → i < size g
    → count (λ o. holds g i o && opening_closed s o) (openings g) ≡ label_mark g s (first_label g i) + label_mark g s (second_label g i)
unfolding labels
closed_held g s i h =
    held_tests g i 1 (openings g) (opening_closed s) (λ l. marked g s (keeper_of (size g) l)) (closed_marked g s)
    ∙ go (labels g i) (at_most_two g i h) (λ x t. (labels_range g i x t).0)
  where
    one : (x : ℕ) → 1 ≤ x → label_mark g s x ≡ bit (marked g s (keeper_of (size g) x))
    one x k = ap (λ (b : Bool). cond b 0 (bit (marked g s (keeper_of (size g) x)))) (ne_eqb x 0 (λ e. omega arith))

    go : (ls : List ℕ) → length ls ≤ 2 → ((x : ℕ) → T (has x ls) → 1 ≤ x)
        → count (λ l. marked g s (keeper_of (size g) l)) ls ≡ label_mark g s (get_or ls 0 0) + label_mark g s (get_or ls 1 0)
    go [] l f = refl
    go (a ∷ []) l f = omega (arith, one a (first_of a [] f))
    go (a ∷ b ∷ []) l f = omega (arith, one a (first_of a (b ∷ []) f), one b (first_of b [] (rest_of a (b ∷ []) f)))
    go (a ∷ b ∷ c ∷ ls) l f = absurd (omega arith)
