-- Counting units until it is certain: each cell that is looked at adds one unit at most, so what is certain stays. Assumes nothing.
use Prim.Native.Nat.{ℕ, ◌+◌, ◌-◌, ◌<◌, ◌≤◌, suc, zero}
use native.Mathlib.Omega.{arith}
use native.Mathlib.Decide.{dec_lt}
use native.Mathlib.Nat.{add-zero, zero-add}
use mathlib.Core.Path.{◌∙◌, ◌≡◌, ap, refl, subst, sym}
use mathlib.Core.Logic.{⊎_elim}
use mathlib.Core.Bool.{Bool, ◌&&◌, false, not, true}
use mathlib.Core.List.{List, [], ◌++◌, ◌∷◌}
use lib.Dec.{T, eqb, eqb→eq, leb, leb→le, le→leb, ltb, ltb→lt, lt→ltb}
use lib.IntN.{negsuc, pos, ℤ}
use lib.ListN.{length, length-append}
use borrow.Author.Tests.{eq-eqb}
use Rattle.game.specs.Early.{StopsAt, ahead, certain, found, met}
use Rattle.game.specs.Grid.{Grid, mine, number, size, square, zero_cell}
use Rattle.game.specs.Lists.{bit, has, some_of}
use Rattle.game.specs.Openings.{chained_to, gather, grow, joined_to, openings, three_bv, unlabelled}
use Rattle.game.proofs.Counts.{count_more}
use Rattle.game.proofs.Members.{fold_more}
use Rattle.game.proofs.Reveal.{zero_labelled}
use Rattle.game.proofs.Truth.{and_left, iff, or_cases, or_left, or_right}

-- ---- one cell more

-- an opening is met at the cell, its lowest 0-cell
abbrev pub meets : Grid → ℕ → Bool
meets g i = zero_cell g i && not (some_of (has i) (met g i))

gather_more : (g : Grid) (os : List (List ℕ)) (i : ℕ) → length (gather g os i) ≡ length os + bit (zero_cell g i && not (some_of (has i) os))
gather_more g os i = go (zero_cell g i && not (some_of (has i) os))
  where
    go : (b : Bool) → length {A = List ℕ} (elim b [ true ↦ os ++ (joined_to g i ∷ []) | false ↦ os ]) ≡ length os + bit b
    go true = length-append os (joined_to g i ∷ [])
    go false = sym (add-zero (length os))

pub found_next : (g : Grid) (i : ℕ) → found g (i + 1) ≡ found g i + bit (meets g i) + bit (unlabelled g i)
unfolding found
found_next g i =
    omega (arith, ap (λ (os : List (List ℕ)). length os) (fold_more (gather g) [] 0 i (omega arith)), gather_more g (met g i) i, count_more (unlabelled g) 0 i (omega arith))

-- no 0-cell is without label
one_unit : (g : Grid) (i : ℕ) → i < size g → bit (meets g i) + bit (unlabelled g i) ≤ 1
one_unit g i h = go (meets g i) refl (unlabelled g i) refl
  where
    go : (a : Bool) → meets g i ≡ a → (b : Bool) → unlabelled g i ≡ b → bit a + bit b ≤ 1
    go true e true k =
        absurd (zero_labelled g i (record { inside = h; none = and_left (zero_cell g i) (not (some_of (has i) (met g i))) (rw e tt) }) (rw k tt))
    go true e false k = omega arith
    go false e true k = omega arith
    go false e false k = omega arith

-- so many cells more have at most so many units more
found_span : (g : Grid) (i k : ℕ) → i + k ≤ size g → (found g i ≤ found g (i + k)) × (found g (i + k) ≤ found g i + k)
found_span g i zero h = rw (add-zero i) (omega arith, omega arith)
found_span g i (suc k) h =
    let r = found_span g i k (omega arith) in
    let e : found g (i + suc k) ≡ found g (i + k + 1) = ap (found g) (omega arith) in
    let n = found_next g (i + k) in
    let o = one_unit g (i + k) (omega arith) in
    (omega (arith, r.0), omega (arith, r.1))

-- ---- what is found, and 3BV

pub found_none : (g : Grid) → found g 0 ≡ 0
unfolding found
found_none g = refl

pub found_all : (g : Grid) → found g (size g) ≡ three_bv g
unfolding found three_bv openings
found_all g = refl

-- 3BV is at least what is found, and at most that and the cells ahead
pub found_bounds : (g : Grid) (i : ℕ) → i ≤ size g → (found g i ≤ three_bv g) × (three_bv g ≤ found g i + ahead g i)
found_bounds g i h =
    let s = found_span g i (size g - i) (omega arith) in
    let e : found g (i + (size g - i)) ≡ three_bv g = ap (found g) (omega arith) ∙ found_all g in
    (omega (arith, s.0), omega (arith, s.1))

-- ---- with so many units still lacking

module _ (g : Grid) (units i lacking : ℕ) (counts : found g i + lacking ≡ units) where
  pub lacks_none : lacking ≡ 0 → T (certain g units i)
  lacks_none e = or_left (leb units (found g i)) _ (le→leb units (found g i) (omega arith))

  pub lacks_some : 1 ≤ lacking → lacking ≤ ahead g i → T (certain g units i) → ⊥
  lacks_some h k t =
      ⊎_elim (λ u. omega (arith, leb→le units (found g i) u)) (λ u. omega (arith, ltb→lt (found g i + ahead g i) units u)) (or_cases (leb units (found g i)) _ t)

  pub lacks_more : ahead g i < lacking → T (certain g units i)
  lacks_more h = or_right (leb units (found g i)) _ (lt→ltb (found g i + ahead g i) units (omega arith))

  -- where it is certain, 3BV is at least so many exactly if none lacks
  pub lacking_tells : i ≤ size g → T (certain g units i) → leb units (three_bv g) ≡ eqb lacking 0
  lacking_tells h t =
      let b = found_bounds g i h in
      iff (leb units (three_bv g)) (eqb lacking 0)
      (λ u. let n = leb→le units (three_bv g) u in
      ⊎_elim (λ v. rw (eq-eqb lacking 0 (omega (arith, leb→le units (found g i) v))) tt)
      (λ v. absurd (omega (arith, ltb→lt (found g i + ahead g i) units v, b.1)))
      (or_cases (leb units (found g i)) (ltb (found g i + ahead g i) units) t))
      (λ u. let e = eqb→eq lacking 0 u in le→leb units (three_bv g) (omega (arith, b.0)))

-- ---- where the walk stops

-- past the last cell it is certain
last_certain : (g : Grid) (units : ℕ) → T (certain g units (size g))
last_certain g units =
    elim (dec_lt (found g (size g)) units) [
      | yes h ↦ or_right (leb units (found g (size g))) (ltb (found g (size g) + ahead g (size g)) units)
          (lt→ltb (found g (size g) + ahead g (size g)) units (omega arith))
      | no h ↦ or_left (leb units (found g (size g))) (ltb (found g (size g) + ahead g (size g)) units) (le→leb units (found g (size g)) (omega arith))
    ]

pub stops_inside : (g : Grid) (units i : ℕ) → StopsAt g units i → i ≤ size g
stops_inside g units i s =
    elim (dec_lt (size g) i) [ yes h ↦ absurd (s.none_before (size g) h (last_certain g units)) | no h ↦ omega arith ]

-- at one cell only
pub stops_once : (g : Grid) (units i j : ℕ) → StopsAt g units i → StopsAt g units j → i ≡ j
stops_once g units i j s t =
    elim (dec_lt i j) [
      | yes h ↦ absurd (t.none_before i h s.is_certain)
      | no h ↦ elim (dec_lt j i) [ yes k ↦ absurd (s.none_before j k t.is_certain) | no k ↦ omega arith ]
    ]

-- the first place from i on, of so many more, that passes the test
abbrev first_from : (ℕ → Bool) → ℕ → ℕ → ℕ
first_from p i zero = i
first_from p i (suc k) = elim (p i) [ true ↦ i | false ↦ first_from p (suc i) k ]

-- the cell at which the walk stops, found by trying
abbrev pub stop_cell : Grid → ℕ → ℕ
stop_cell g units = first_from (certain g units) 0 (size g)

module _ (p : ℕ → Bool) where
  first_passes : (i k : ℕ) → T (p (i + k)) → T (p (first_from p i k))
  first_passes i zero t = subst (λ (j : ℕ). T (p j)) (add-zero i) t
  first_passes i (suc k) t = go (first_passes (suc i) k (subst (λ (j : ℕ). T (p j)) (omega arith) t)) (p i) refl
    where
      go : T (p (first_from p (suc i) k)) → (b : Bool) → p i ≡ b → T (p (elim b [ true ↦ i | false ↦ first_from p (suc i) k ]))
      go later true e = rw e tt
      go later false e = later

  none_passes : (i k j : ℕ) → i ≤ j → j < first_from p i k → T (p j) → ⊥
  none_passes i zero j h l t = omega arith
  none_passes i (suc k) j h l t = go (λ b r. none_passes (suc i) k j b r t) (p i) refl l
    where
      go : (suc i ≤ j → j < first_from p (suc i) k → ⊥) → (b : Bool) → p i ≡ b → j < elim b [ true ↦ i | false ↦ first_from p (suc i) k ] → ⊥
      go later true e l = omega arith
      go later false e l =
          elim (dec_lt i j) [
            | yes b ↦ later (omega arith) l
            | no b ↦ subst T e (subst (λ (x : ℕ). T (p x)) (omega arith) t)
          ]

-- it always stops
pub stops_there : (g : Grid) (units : ℕ) → StopsAt g units (stop_cell g units)
stops_there g units =
    record {
      is_certain = first_passes (certain g units) 0 (size g) (rw (zero-add (size g)) (last_certain g units));
      none_before = λ j h t. none_passes (certain g units) 0 (size g) j (omega arith) h t;
    }

-- no unit, or more than there are cells: at once
pub none_asked : (g : Grid) → StopsAt g 0 0
none_asked g = record { is_certain = lacks_none g 0 0 0 (omega (arith, found_none g)) refl; none_before = λ j h t. omega arith }

pub too_many_asked : (g : Grid) (units : ℕ) → size g < units → StopsAt g units 0
too_many_asked g units h =
    record { is_certain = lacks_more g units 0 units (omega (arith, found_none g)) (omega arith); none_before = λ j k t. omega arith }

-- ---- RULES 11.11, by computing the definitions

-- a safe cell, and a mine
abbrev o : ℤ
o = pos 0

abbrev m : ℤ
m = negsuc 0

-- a grid of three rows and three columns
abbrev nine : List ℤ → Grid
nine vs = record { rows = 3; columns = 3; values = vs }

abbrev P2 : Grid
P2 = record { rows = 1; columns = 1; values = m ∷ [] }

abbrev P9 : Grid
P9 = nine (o ∷ o ∷ o ∷ o ∷ o ∷ o ∷ o ∷ o ∷ o ∷ [])

abbrev P10 : Grid
P10 = nine (m ∷ o ∷ o ∷ o ∷ o ∷ o ∷ o ∷ o ∷ o ∷ [])

abbrev P11 : Grid
P11 = nine (o ∷ o ∷ o ∷ o ∷ m ∷ o ∷ o ∷ o ∷ o ∷ [])

pub stops_right : T (
    eqb (stop_cell P9 1) 1 && eqb (stop_cell P9 2) 9 && eqb (stop_cell P9 9) 2 && eqb (stop_cell P9 10) 0
    && eqb (stop_cell P11 4) 4 && eqb (stop_cell P11 8) 9 && eqb (stop_cell P11 9) 5 && eqb (stop_cell P10 1) 3 && eqb (stop_cell P2 1) 1
    )
unfolding found mine square number grow chained_to openings
stops_right = tt
