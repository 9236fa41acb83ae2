-- Labels: which openings hold a cell. A 0-cell has exactly one, a mine none, any cell at most two in order; 0-cells share a label exactly when joined,
-- and labels go up with the lowest 0-cell. Assumes nothing.
use Prim.Native.Nat.{ℕ, ◌+◌, ◌<◌, ◌≤◌, suc, zero}
use native.Mathlib.Omega.{arith}
use native.Mathlib.Nat.{add-zero}
use mathlib.Core.Path.{◌∙◌, ◌≡◌, ap, refl, subst, sym}
use mathlib.Core.Logic.{◌⊎◌, inl, inr, ⊎_elim}
use mathlib.Core.Bool.{Bool, ◌&&◌, ◌||◌, cond, false, not, true}
use mathlib.Core.List.{List, [], ◌++◌, ◌∷◌}
use lib.Dec.{T, eqb, eqb-suc-zero, not_T}
use lib.ListN.{get_or, length}
use Rattle.game.specs.Grid.{Grid, mine, safe, size, square}
use Rattle.game.specs.Lists.{Each, bit, has, some_of}
use Rattle.game.specs.Openings.{Joined, first_label, holds, labels, openings, places, second_label, unlabelled}
use Rattle.game.proofs.Chains.{joined_close, joined_first, joined_last, joined_sym, three}
use Rattle.game.proofs.Members.{first_of, has_cases, has_head, rest_of, some_yes, suc_across, yes_some}
use Rattle.game.proofs.Openings.{Apart, Full, In, covered, good}
use Rattle.game.proofs.Orders.{Ordered}
use Rattle.game.proofs.Squares.{Close, close_sym, in-own-square, self_close, square→}
use Rattle.game.proofs.Truth.{T→true, iff, no→false, or_cases, or_left, or_right}
use Rattle.game.proofs.Zeros.{Zero, zero→}
use borrow.Author.Tests.{ne_eqb}

-- ---- at most two labels: of three 0-cells in one square two are joined

in-later : (a : ℕ) (o : List ℕ) (os : List (List ℕ)) → In a os → In a (o ∷ os)
in-later a o os t = or_right (has a o) (some_of (has a) os) t

in-first : (a : ℕ) (o : List ℕ) (os : List (List ℕ)) → T (has a o) → In a (o ∷ os)
in-first a o os t = or_left (has a o) (some_of (has a) os) t

-- a 0-cell of the set that stands in i's square
held : (g : Grid) (i : ℕ) (o : List ℕ) → i < size g → T (holds g i o) → (a : ℕ) × T (has a o) × Close g i a
held g i o h t = let a = yes_some (λ j. has j o) (square g i) t in (a.0, a.2, (square→ g i a.0 h a.1).1)

AllZero : Grid → List (List ℕ) → Type 0
AllZero g os = (a : ℕ) → In a os → Zero g a

none_left : (g : Grid) (i a b : ℕ) (k : ℕ) (os : List (List ℕ)) → i < size g → Zero g a → Zero g b → Close g i a → Close g i b → (Joined g a b → ⊥)
    → AllZero g os → ((c : ℕ) → In c os → Joined g a c → ⊥) → ((c : ℕ) → In c os → Joined g b c → ⊥) → length (places g i k os) ≤ 0
unfolding AllZero
none_left g i a b k [] h za zb ca cb n z na nb = omega arith
none_left g i a b k (o ∷ os) h za zb ca cb n z na nb =
    go (holds g i o) (λ t. t)
    (none_left g i a b (suc k) os h za zb ca cb n (λ c t. z c (in-later c o os t))
    (λ c t. na c (in-later c o os t)) (λ c t. nb c (in-later c o os t)))
  where
    go : (d : Bool) → (T d → T (holds g i o)) → length (places g i (suc k) os) ≤ 0 → length {A = ℕ} (elim d [ true ↦ k ∷ places g i (suc k) os | false ↦ places g i (suc k) os ]) ≤ 0
    go true f r =
        let w = held g i o h (f tt) in
        let m = in-first w.0 o os w.1 in
        absurd (three g i a b w.0 za zb (z w.0 m) ca cb w.2 n (na w.0 m) (nb w.0 m))
    go false f r = r

one_left : (g : Grid) (i a : ℕ) (k : ℕ) (os : List (List ℕ)) → i < size g → Zero g a → Close g i a
    → AllZero g os → Apart g os → ((c : ℕ) → In c os → Joined g a c → ⊥) → length (places g i k os) ≤ 1
unfolding AllZero
one_left g i a k [] h za ca z p na = omega arith
one_left g i a k (o ∷ os) h za ca z p na =
    go (holds g i o) (λ t. t)
    (one_left g i a (suc k) os h za ca (λ c t. z c (in-later c o os t)) p.1
    (λ c t. na c (in-later c o os t)))
  where
    go : (d : Bool) → (T d → T (holds g i o)) → length (places g i (suc k) os) ≤ 1 → length {A = ℕ} (elim d [ true ↦ k ∷ places g i (suc k) os | false ↦ places g i (suc k) os ]) ≤ 1
    go true f r =
        let w = held g i o h (f tt) in
        let m = in-first w.0 o os w.1 in
        let q = none_left g i a w.0 (suc k) os h za (z w.0 m) ca w.2 (na w.0 m)
        (λ c t. z c (in-later c o os t)) (λ c t. na c (in-later c o os t)) (λ c t. p.0 w.0 c w.1 t) in
        omega (arith, q)
    go false f r = r

two_left : (g : Grid) (i : ℕ) (k : ℕ) (os : List (List ℕ)) → i < size g → AllZero g os → Apart g os → length (places g i k os) ≤ 2
unfolding AllZero
two_left g i k [] h z p = omega arith
two_left g i k (o ∷ os) h z p =
    go (holds g i o) (λ t. t) (two_left g i (suc k) os h (λ c t. z c (in-later c o os t)) p.1)
  where
    go : (d : Bool) → (T d → T (holds g i o)) → length (places g i (suc k) os) ≤ 2 → length {A = ℕ} (elim d [ true ↦ k ∷ places g i (suc k) os | false ↦ places g i (suc k) os ]) ≤ 2
    go true f r =
        let w = held g i o h (f tt) in
        let m = in-first w.0 o os w.1 in
        let q = one_left g i w.0 (suc k) os h (z w.0 m) w.2 (λ c t. z c (in-later c o os t)) p.1 (λ c t. p.0 w.0 c w.1 t) in
        omega (arith, q)
    go false f r = r

pub at_most_two : (g : Grid) (i : ℕ) → i < size g → length (labels g i) ≤ 2
unfolding labels AllZero
at_most_two g i h = two_left g i 1 (openings g) h (good g).zeros (good g).apart

-- ---- a mine has none

none_held : (g : Grid) (i k : ℕ) (os : List (List ℕ)) → T (not (some_of (holds g i) os)) → places g i k os ≡ []
none_held g i k [] n = refl
none_held g i k (o ∷ os) n = go (holds g i o) n (none_held g i (suc k) os)
  where
    go : (b : Bool) → T (not (b || some_of (holds g i) os)) → (T (not (some_of (holds g i) os)) → places g i (suc k) os ≡ [])
        → ◌≡◌ {A = List ℕ} (elim b [ true ↦ k ∷ places g i (suc k) os | false ↦ places g i (suc k) os ]) []
    go true t r = absurd t
    go false t r = r t

-- a cell that one of some openings holds has a 0-cell in its square
pub held-by : (g : Grid) (i : ℕ) (os : List (List ℕ)) → Each (Full g) os → T (some_of (holds g i) os) → (a : ℕ) × T (has a (square g i)) × Zero g a
held-by g i [] e t = absurd t
held-by g i (o ∷ os) e t =
    ⊎_elim (λ u. let w = yes_some (λ j. has j o) (square g i) u in (w.0, w.1, e.0.zero-cell w.0 w.2))
    (λ u. held-by g i os e.1 u) (or_cases (holds g i o) (some_of (holds g i) os) t)

pub labelled→zero : (g : Grid) (i : ℕ) → T (some_of (holds g i) (openings g)) → (a : ℕ) × T (has a (square g i)) × Zero g a
labelled→zero g i t = held-by g i (openings g) (good g).full t

in→held : (g : Grid) (j a : ℕ) (os : List (List ℕ)) → T (has a (square g j)) → In a os → T (some_of (holds g j) os)
in→held g j a [] t u = u
in→held g j a (o ∷ os) t u =
    ⊎_elim (λ h. or_left (holds g j o) (some_of (holds g j) os) (some_yes (λ k. has k o) a (square g j) t h))
    (λ r. or_right (holds g j o) (some_of (holds g j) os) (in→held g j a os t r))
    (or_cases (has a o) (some_of (has a) os) u)

-- and a cell with a 0-cell in its square is held
pub zero→labelled : (g : Grid) (i a : ℕ) → T (has a (square g i)) → Zero g a → T (some_of (holds g i) (openings g))
zero→labelled g i a t z = in→held g i a (openings g) t (covered g a z)

pub mine_none : (g : Grid) (i : ℕ) → i < size g → T (mine g i) → labels g i ≡ []
unfolding labels
mine_none g i h m =
    none_held g i 1 (openings g) (not_T (some_of (holds g i) (openings g)) (λ t.
    let w = labelled→zero g i t in
    zero→ g w.0 i w.2 h (close_sym g i w.0 (square→ g i w.0 h w.1).1) m))

-- ---- a cell without label, by its first label

-- a cell's first place is 0 exactly if no opening holds it
pub places_none : (g : Grid) (i k : ℕ) (os : List (List ℕ)) → eqb (get_or (places g i (suc k) os) 0 0) 0 ≡ not (some_of (holds g i) os)
places_none g i k [] = refl
places_none g i k (o ∷ os) = go (holds g i o) (places_none g i (suc k) os)
  where
    go : (b : Bool) → eqb (get_or (places g i (suc (suc k)) os) 0 0) 0 ≡ not (some_of (holds g i) os)
        → eqb (get_or {A = ℕ} (elim b [ true ↦ suc k ∷ places g i (suc (suc k)) os | false ↦ places g i (suc (suc k)) os ]) 0 0) 0 ≡ not (b || some_of (holds g i) os)
    go true e = eqb-suc-zero k
    go false e = e

-- a safe cell is unlabelled exactly when its first label is 0
pub first-label : (g : Grid) (i : ℕ) → unlabelled g i ≡ (safe g i && eqb (first_label g i) 0)
unfolding labels
first-label g i = ap (λ (b : Bool). safe g i && b) (sym (places_none g i 0 (openings g)))

-- ---- labels lie between 1 and the count of openings, and are in order

-- a place lies between the first and the last
pub places_from : (g : Grid) (i k : ℕ) (os : List (List ℕ)) → (x : ℕ) → T (has x (places g i k os)) → (k ≤ x) × (x < k + length os)
places_from g i k [] x t = absurd t
places_from g i k (o ∷ os) x t = go (holds g i o) t (places_from g i (suc k) os x)
  where
    go : (b : Bool) → T (has x (elim b [ true ↦ k ∷ places g i (suc k) os | false ↦ places g i (suc k) os ]))
        → (T (has x (places g i (suc k) os)) → (suc k ≤ x) × (x < suc k + length os)) → (k ≤ x) × (x < k + length (o ∷ os))
    go true u r = has_cases x k (places g i (suc k) os) (λ e. omega arith) (λ v. let h = r v in omega arith) u
    go false u r = let h = r u in omega arith

-- the place n is listed exactly when the opening there holds the cell
pub places_at : (g : Grid) (i k n : ℕ) (os : List (List ℕ)) → n < length os → has (k + n) (places g i k os) ≡ holds g i (get_or os n [])
places_at g i k n [] h = absurd (omega arith)
places_at g i k zero (o ∷ os) h = ap (λ (x : ℕ). has x (places g i k (o ∷ os))) (add-zero k) ∙ go (holds g i o)
  where
    go : (b : Bool) → has k (elim b [ true ↦ k ∷ places g i (suc k) os | false ↦ places g i (suc k) os ]) ≡ b
    go true = T→true (has k (k ∷ places g i (suc k) os)) (has_head k k (places g i (suc k) os) refl)
    go false = no→false (has k (places g i (suc k) os)) (λ t. let p = places_from g i (suc k) os k t in omega arith)
places_at g i k (suc n) (o ∷ os) h =
    go (holds g i o) ∙ ap (λ (x : ℕ). has x (places g i (suc k) os)) (sym (suc_across k n)) ∙ places_at g i (suc k) n os (omega arith)
  where
    go : (b : Bool) → has (k + suc n) (elim b [ true ↦ k ∷ places g i (suc k) os | false ↦ places g i (suc k) os ]) ≡ has (k + suc n) (places g i (suc k) os)
    go true = ap (λ (b : Bool). b || has (k + suc n) (places g i (suc k) os)) (ne_eqb (k + suc n) k (λ e. omega arith))
    go false = refl

-- one opening more adds its number, if it holds the cell
pub places_snoc : (g : Grid) (i k : ℕ) (os : List (List ℕ)) (o : List ℕ) → places g i k (os ++ (o ∷ [])) ≡ places g i k os ++ cond (holds g i o) ((k + length os) ∷ []) []
places_snoc g i k [] o = go (holds g i o)
  where
    go : (b : Bool) → ◌≡◌ {A = List ℕ} (elim b [ true ↦ k ∷ [] | false ↦ [] ]) (cond b ((k + 0) ∷ []) [])
    go true = ap (λ (m : ℕ). m ∷ []) (sym (add-zero k))
    go false = refl
places_snoc g i k (p ∷ os) o = go (holds g i p) (places_snoc g i (suc k) os o ∙ ap (λ (m : ℕ). places g i (suc k) os ++ cond (holds g i o) (m ∷ []) []) (suc_across k (length os)))
  where
    go : (b : Bool) → places g i (suc k) (os ++ (o ∷ [])) ≡ places g i (suc k) os ++ cond (holds g i o) ((k + suc (length os)) ∷ []) []
        → ◌≡◌ {A = List ℕ} (elim b [ true ↦ k ∷ places g i (suc k) (os ++ (o ∷ [])) | false ↦ places g i (suc k) (os ++ (o ∷ [])) ])
        ((elim b as (λ x. List ℕ) [ true ↦ k ∷ places g i (suc k) os | false ↦ places g i (suc k) os ]) ++ cond (holds g i o) ((k + suc (length os)) ∷ []) [])
    go true e = ap (λ (l : List ℕ). k ∷ l) e
    go false e = e

places_ordered : (g : Grid) (i k : ℕ) (os : List (List ℕ)) → Ordered ◌<◌ (places g i k os)
places_ordered g i k [] = tt
places_ordered g i k (o ∷ os) = go (holds g i o) (places_ordered g i (suc k) os)
  where
    go : (b : Bool) → Ordered ◌<◌ (places g i (suc k) os) → Ordered ◌<◌ (elim b [ true ↦ k ∷ places g i (suc k) os | false ↦ places g i (suc k) os ])
    go true r = ((λ y t. (places_from g i (suc k) os y t).0), r)
    go false r = r

pub labels_range : (g : Grid) (i x : ℕ) → T (has x (labels g i)) → (1 ≤ x) × (x ≤ length (openings g))
unfolding labels
labels_range g i x t = let h = places_from g i 1 (openings g) x t in omega arith

-- a cell's labels by its two numbers
pub label_marks : (g : Grid) (i : ℕ) → i < size g → length (labels g i) ≡ bit (not (eqb (first_label g i) 0)) + bit (not (eqb (second_label g i) 0))
label_marks g i h = go (labels g i) (at_most_two g i h) (λ x t. (labels_range g i x t).0)
  where
    one : (x : ℕ) → 1 ≤ x → bit (not (eqb x 0)) ≡ 1
    one x k = ap (λ (b : Bool). bit (not b)) (ne_eqb x 0 (λ e. omega arith))

    go : (ls : List ℕ) → length ls ≤ 2 → ((x : ℕ) → T (has x ls) → 1 ≤ x) → length ls ≡ bit (not (eqb (get_or ls 0 0) 0)) + bit (not (eqb (get_or ls 1 0) 0))
    go [] l f = refl
    go (a ∷ []) l f = omega (arith, one a (first_of a [] f))
    go (a ∷ b ∷ []) l f = omega (arith, one a (first_of a (b ∷ []) f), one b (first_of b [] (rest_of a (b ∷ []) f)))
    go (a ∷ b ∷ c ∷ ls) l f = absurd (omega arith)

pub labels_ordered : (g : Grid) (i : ℕ) → Ordered ◌<◌ (labels g i)
unfolding labels
labels_ordered g i = places_ordered g i 1 (openings g)

-- the two labels are all there are
pub labels_all : (g : Grid) (i k : ℕ) → i < size g → T (has k (labels g i)) → (k ≡ first_label g i) ⊎ (k ≡ second_label g i)
labels_all g i k h t = go (labels g i) (at_most_two g i h) t
  where
    go : (ls : List ℕ) → length ls ≤ 2 → T (has k ls) → (k ≡ get_or ls 0 0) ⊎ (k ≡ get_or ls 1 0)
    go [] l u = absurd u
    go (a ∷ []) l u = has_cases k a [] (λ e. inl e) (λ v. absurd v) u
    go (a ∷ b ∷ []) l u = has_cases k a (b ∷ []) (λ e. inl e) (λ v. has_cases k b [] (λ e. inr e) (λ w. absurd w) v) u
    go (a ∷ b ∷ c ∷ ls) l u = absurd (omega arith)

-- of two labels the first is the lower
pub first_below_second : (g : Grid) (i : ℕ) → 1 ≤ second_label g i → first_label g i < second_label g i
first_below_second g i h = go (labels g i) (labels_ordered g i) h
  where
    go : (ls : List ℕ) → Ordered ◌<◌ ls → 1 ≤ get_or ls 1 0 → get_or ls 0 0 < get_or ls 1 0
    go [] o h = absurd (omega arith)
    go (a ∷ []) o h = absurd (omega arith)
    go (a ∷ b ∷ ls) o h = o.0 b (has_head b b ls refl)

-- ---- the one label of a 0-cell: one more than the seat of its opening

-- the place of the first set that has the cell
unfoldable pub seat : ℕ → List (List ℕ) → ℕ
seat a [] = 0
seat a (o ∷ os) = elim (has a o) [ true ↦ 0 | false ↦ suc (seat a os) ]

-- an opening holds a 0-cell exactly when it has it
pub holds_zero : (g : Grid) (a : ℕ) (o : List ℕ) → Zero g a → Full g o → holds g a o ≡ has a o
holds_zero g a o z f =
    iff (holds g a o) (has a o)
    (λ t. let w = held g a o z.inside t in
    f.joined_in w.0 a w.1 (joined_close g w.0 a (f.zero-cell w.0 w.1) z (close_sym g a w.0 w.2)))
    (λ t. some_yes (λ j. has j o) a (square g a) (in-own-square g a z.inside) t)

apart_none : (g : Grid) (a : ℕ) (os : List (List ℕ)) → Zero g a → Each (Full g) os → (In a os → ⊥) → T (not (some_of (holds g a) os))
apart_none g a os z e n = not_T (some_of (holds g a) os) (λ t. n (down os e t))
  where
    down : (os : List (List ℕ)) → Each (Full g) os → T (some_of (holds g a) os) → In a os
    down [] e t = t
    down (o ∷ os) e t =
        ⊎_elim (λ u. in-first a o os (subst T (holds_zero g a o z e.0) u)) (λ u. in-later a o os (down os e.1 u)) (or_cases (holds g a o) (some_of (holds g a) os) t)

places_zero : (g : Grid) (a k : ℕ) (os : List (List ℕ)) → Zero g a → Apart g os → Each (Full g) os → In a os → places g a k os ≡ (k + seat a os) ∷ []
unfolding seat
places_zero g a k [] z p e t = absurd t
places_zero g a k (o ∷ os) z p e t =
    ap (λ (b : Bool). elim b [ true ↦ k ∷ places g a (suc k) os | false ↦ places g a (suc k) os ]) (holds_zero g a o z e.0)
    ∙ go (has a o) refl t (places_zero g a (suc k) os z p.1 e.1)
  where
    go : (b : Bool) → has a o ≡ b → T (b || some_of (has a) os) → (In a os → places g a (suc k) os ≡ (suc k + seat a os) ∷ [])
        → ◌≡◌ {A = List ℕ} (elim b [ true ↦ k ∷ places g a (suc k) os | false ↦ places g a (suc k) os ]) ((k + elim b [ true ↦ 0 | false ↦ suc (seat a os) ]) ∷ [])
    go true q u r =
        let n = none_held g a (suc k) os (apart_none g a os z e.1 (λ v. p.0 a a (rw q tt) v (joined_close g a a z z (self_close g a)))) in
        ap (λ (l : List ℕ). k ∷ l) n ∙ ap (λ (m : ℕ). m ∷ []) (sym (add-zero k))
    go false q u r = r u ∙ ap (λ (m : ℕ). m ∷ []) (suc_across k (seat a os))

-- a 0-cell has exactly one label
pub zero_label : (g : Grid) (a : ℕ) → Zero g a → labels g a ≡ (1 + seat a (openings g)) ∷ []
unfolding labels
zero_label g a z = places_zero g a 1 (openings g) z (good g).apart (good g).full (covered g a z)

pub first_seat : (g : Grid) (a : ℕ) → Zero g a → first_label g a ≡ 1 + seat a (openings g)
first_seat g a z = ap (λ (l : List ℕ). get_or l 0 0) (zero_label g a z)

-- ---- 0-cells share a label exactly when they are joined

seat_joined : (g : Grid) (a b : ℕ) (os : List (List ℕ)) → Each (Full g) os → Joined g a b → seat a os ≡ seat b os
unfolding seat
seat_joined g a b [] e j = refl
seat_joined g a b (o ∷ os) e j =
    ap (λ (c : Bool). elim c as (λ x. ℕ) [ true ↦ 0 | false ↦ suc (seat a os) ])
    (iff (has a o) (has b o) (λ t. e.0.joined_in a b t j) (λ t. e.0.joined_in b a t (joined_sym g a b j)))
    ∙ go (has b o) (seat_joined g a b os e.1 j)
  where
    go : (c : Bool) → seat a os ≡ seat b os → ◌≡◌ {A = ℕ} (elim c [ true ↦ 0 | false ↦ suc (seat a os) ]) (elim c [ true ↦ 0 | false ↦ suc (seat b os) ])
    go true r = refl
    go false r = ap suc r

pub record Seated (g : Grid) (a : ℕ) (os : List (List ℕ)) : Type 0 where
  pub inside : seat a os < length os
  pub has_it : T (has a (get_or os (seat a os) []))
  pub full : Full g (get_or os (seat a os) [])

pub seated : (g : Grid) (a : ℕ) (os : List (List ℕ)) → Each (Full g) os → In a os → Seated g a os
unfolding seat
seated g a [] e t = absurd t
seated g a (o ∷ os) e t = go (has a o) refl t (seated g a os e.1)
  where
    at : Bool → ℕ
    at b = elim b [ true ↦ 0 | false ↦ suc (seat a os) ]

    go : (b : Bool) → has a o ≡ b → T (b || some_of (has a) os) → (In a os → Seated g a os) → Seated g a (o ∷ os)
    go true q u r =
        let s : seat a (o ∷ os) ≡ 0 = ap at q in
        record { inside = omega arith; has_it = rw s (rw q tt); full = rw s e.0 }
    go false q u r =
        let s : seat a (o ∷ os) ≡ suc (seat a os) = ap at q in
        let w = r u in
        record { inside = omega (arith, w.inside); has_it = rw s w.has_it; full = rw s w.full }

pub joined→label : (g : Grid) (a b : ℕ) → Joined g a b → first_label g a ≡ first_label g b
joined→label g a b j =
    first_seat g a (joined_first g a b j) ∙ ap (λ (k : ℕ). 1 + k) (seat_joined g a b (openings g) (good g).full j)
    ∙ sym (first_seat g b (joined_last g a b j))

pub label→joined : (g : Grid) (a b : ℕ) → Zero g a → Zero g b → first_label g a ≡ first_label g b → Joined g a b
label→joined g a b za zb e =
    let q : seat a (openings g) ≡ seat b (openings g) = omega (arith, first_seat g a za, first_seat g b zb) in
    let sa = seated g a (openings g) (good g).full (covered g a za) in
    let sb = seated g b (openings g) (good g).full (covered g b zb) in
    sb.full.linked a b (subst (λ (k : ℕ). T (has a (get_or (openings g) k []))) q sa.has_it) sb.has_it
