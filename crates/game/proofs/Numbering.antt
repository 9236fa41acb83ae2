-- Openings are numbered by their lowest 0-cell: each is begun at its lowest, in index order. Assumes nothing.
use Prim.Native.Nat.{ℕ, ◌+◌, ◌-◌, ◌<◌, ◌≤◌, suc, zero}
use native.Mathlib.Omega.{arith}
use native.Mathlib.Decide.{ℕ_discrete, dec_le}
use native.Mathlib.Nat.{add-zero}
use mathlib.Core.Path.{◌∙◌, ◌≡◌, ap, refl, subst, sym}
use mathlib.Core.Bool.{Bool, ◌&&◌, false, not, true}
use mathlib.Core.List.{List, [], ◌++◌, ◌∷◌, map}
use lib.Dec.{T, T_not}
use lib.ListN.{get_or-map, get_or, length, length-map}
use Rattle.game.specs.Grid.{Grid, size, zero_cell}
use Rattle.game.specs.Lists.{Each, fold, from, has, some_of}
use Rattle.game.specs.Openings.{Joined, first_label, gather, itself, joined_to, openings}
use Rattle.game.proofs.Chains.{joined_last, joined_sym}
use Rattle.game.proofs.Labels.{first_seat, seat, seated}
use Rattle.game.proofs.Members.{first_of, get_d_has, has_cases, has_head, rest_of, suc_across}
use Rattle.game.proofs.Openings.{Apart, Full, Good, In, covered, gather_new, gather_old, good, good_gather, good_none, joined_to→, ordered_joined_to, →joinedTo}
use Rattle.game.proofs.Orders.{Ordered}
use Rattle.game.proofs.Truth.{T→true, and_left, and_right, no→false, or_left, or_right}
use Rattle.game.proofs.Zeros.{Zero}

-- the lowest of an ordered list
abbrev pub lowest : List ℕ → ℕ
lowest o = get_or o 0 0

pub lowest_has : (o : List ℕ) (x : ℕ) → T (has x o) → T (has (lowest o) o)
lowest_has [] x t = absurd t
lowest_has (y ∷ o) x t = has_head y y o refl

pub lowest_least : (o : List ℕ) (x : ℕ) → Ordered ◌<◌ o → T (has x o) → lowest o ≤ x
lowest_least [] x p t = absurd t
lowest_least (y ∷ o) x p t = has_cases x y o (λ e. omega arith) (λ r. let h = p.0 x r in omega arith) t

-- the lowest 0-cell joined to a 0-cell
abbrev pub lowest_of : Grid → ℕ → ℕ
lowest_of g a = lowest (joined_to g a)

pub lowest_of_joined : (g : Grid) (a : ℕ) → Zero g a → Joined g a (lowest_of g a)
lowest_of_joined g a z =
    joined_to→ g a (lowest_of g a) z (lowest_has (joined_to g a) a (→joinedTo g a a (itself z.inside z.none)))

pub lowest_of_least : (g : Grid) (a b : ℕ) → Joined g a b → lowest_of g a ≤ b
lowest_of_least g a b j = lowest_least (joined_to g a) b (ordered_joined_to g a) (→joinedTo g a b j)

-- the lowest of any opening that has the cell
lowest_same : (g : Grid) (a : ℕ) (o : List ℕ) → Zero g a → Full g o → T (has a o) → lowest o ≡ lowest_of g a
lowest_same g a o z f t =
    let h = lowest_of_least g a (lowest o) (f.linked a (lowest o) t (lowest_has o a t)) in
    let k = lowest_least o (lowest_of g a) f.in_order (f.joined_in a (lowest_of g a) t (lowest_of_joined g a z)) in
    omega arith

-- ---- the openings gathered from the cells below i

abbrev lowests : List (List ℕ) → List ℕ
lowests os = map lowest os

record Rising (g : Grid) (i : ℕ) (os : List (List ℕ)) : Type 0 where
  good_so_far : Good g os
  met : (a : ℕ) → a < i → Zero g a → In a os
  rising : Ordered ◌<◌ (lowests os)
  below : (h : ℕ) → T (has h (lowests os)) → h < i

lowests_snoc : (os : List (List ℕ)) (o : List ℕ) (i : ℕ) → lowest o ≡ i → Ordered ◌<◌ (lowests os) → ((h : ℕ) → T (has h (lowests os)) → h < i)
    → Ordered ◌<◌ (lowests (os ++ (o ∷ []))) × ((h : ℕ) → T (has h (lowests (os ++ (o ∷ [])))) → h < suc i)
lowests_snoc [] o i e r b =
    (((λ y t. absurd t), tt), (λ h t. has_cases h (lowest o) [] (λ q. omega arith) (λ u. absurd u) t))
lowests_snoc (p ∷ os) o i e r b =
    let w = lowests_snoc os o i e r.1 (rest_of (lowest p) (lowests os) b) in (
      ((λ y t. after_first y t), w.0),
      (λ h t. has_cases h (lowest p) (lowests (os ++ (o ∷ []))) (λ q. let k = first_of (lowest p) (lowests os) b in omega arith) (λ u. w.1 h u) t),
    )
  where
    after_first : (y : ℕ) → T (has y (lowests (os ++ (o ∷ [])))) → lowest p < y
    after_first y t = go os t r.0
      where
        go : (qs : List (List ℕ)) → T (has y (lowests (qs ++ (o ∷ [])))) → ((z : ℕ) → T (has z (lowests qs)) → lowest p < z) → lowest p < y
        go [] u f = has_cases y (lowest o) [] (λ q. let k = first_of (lowest p) (lowests os) b in omega arith) (λ v. absurd v) u
        go (q ∷ qs) u f =
            has_cases y (lowest q) (lowests (qs ++ (o ∷ []))) (λ e. rw e (first_of (lowest q) (lowests qs) f)) (λ v. go qs v (rest_of (lowest q) (lowests qs) f)) u

-- an opening begun at i, in which no earlier 0-cell is, has i for its lowest
begun_lowest : (g : Grid) (i : ℕ) (os : List (List ℕ)) → Zero g i → (In i os → ⊥) → Rising g i os → lowest_of g i ≡ i
begun_lowest g i os z n r =
    let j = lowest_of_joined g i z in
    let h = lowest_of_least g i i (itself z.inside z.none) in
    elim (dec_le i (lowest_of g i)) [
      | yes k ↦ omega arith
      | no k ↦ absurd (n (r.good_so_far.whole (lowest_of g i) i (r.met (lowest_of g i) (omega arith) (joined_last g i (lowest_of g i) j)) (joined_sym g i (lowest_of g i) j)))
    ]

rising_gather : (g : Grid) (os : List (List ℕ)) (i : ℕ) → i < size g → Rising g i os → Rising g (suc i) (gather g os i)
rising_gather g os i h r = go (zero_cell g i && not (some_of (has i) os)) refl
  where
    new : Bool → List (List ℕ)
    new b = elim b [ true ↦ os ++ (joined_to g i ∷ []) | false ↦ os ]

    met_now : (a : ℕ) → a < suc i → Zero g a → In a (gather g os i)
    met_now a k z =
        elim (ℕ_discrete a i) [
          | yes e ↦ subst (λ (x : ℕ). In x (gather g os i)) (sym e) (gather_new g os i (subst (Zero g) e z))
          | no n ↦ gather_old g os i a (r.met a (omega arith) z)
        ]

    go : (b : Bool) → (zero_cell g i && not (some_of (has i) os)) ≡ b → Rising g (suc i) (gather g os i)
    go true e =
        let t : T (zero_cell g i && not (some_of (has i) os)) = rw e tt in
        let z : Zero g i = record { inside = h; none = and_left (zero_cell g i) (not (some_of (has i) os)) t } in
        let n : In i os → ⊥ = λ u. T_not (some_of (has i) os) (and_right (zero_cell g i) (not (some_of (has i) os)) t) u in
        let w = lowests_snoc os (joined_to g i) i (begun_lowest g i os z n r) r.rising r.below in
        let q : gather g os i ≡ os ++ (joined_to g i ∷ []) = ap new e in
        record {
          good_so_far = good_gather g os i h r.good_so_far;
          met = met_now;
          rising = rw q w.0;
          below = rw q w.1;
        }
    go false e =
        let q : gather g os i ≡ os = ap new e in
        record {
          good_so_far = good_gather g os i h r.good_so_far;
          met = met_now;
          rising = rw q r.rising;
          below = rw q (λ x t. let k = r.below x t in omega arith);
        }

rising_from : (g : Grid) (n i : ℕ) (os : List (List ℕ)) → i + n ≤ size g → Rising g i os → Rising g (i + n) (fold (gather g) os (from i n))
rising_from g zero i os h r = rw (add-zero i) r
rising_from g (suc n) i os h r =
    subst (λ (k : ℕ). Rising g k (fold (gather g) os (from i (suc n)))) (suc_across i n)
    (rising_from g n (suc i) (gather g os i) (omega arith) (rising_gather g os i (omega arith) r))

all_rising : (g : Grid) → Ordered ◌<◌ (lowests (openings g))
unfolding openings
all_rising g =
    (rising_from g (size g - 0) 0 [] (omega arith)
    (record { good_so_far = good_none g; met = λ a h z. absurd (omega arith); rising = tt; below = λ h t. absurd t })).rising

-- ---- two seats

ordered_at : (xs : List ℕ) (j k : ℕ) → Ordered ◌<◌ xs → j < k → k < length xs → get_or xs j 0 < get_or xs k 0
ordered_at [] j k o h l = absurd (omega arith)
ordered_at (x ∷ xs) j zero o h l = absurd (omega arith)
ordered_at (x ∷ xs) zero (suc k) o h l = o.0 (get_or xs k 0) (get_d_has xs k (omega arith))
ordered_at (x ∷ xs) (suc j) (suc k) o h l = ordered_at xs j k o.1 (omega arith) (omega arith)

lowest_at : (g : Grid) (a : ℕ) → Zero g a → get_or (lowests (openings g)) (seat a (openings g)) 0 ≡ lowest_of g a
lowest_at g a z =
    let s = seated g a (openings g) (good g).full (covered g a z) in
    get_or-map lowest (openings g) (seat a (openings g)) []
    ∙ lowest_same g a (get_or (openings g) (seat a (openings g)) []) z s.full s.has_it

-- of two 0-cells with different labels the lower label has the lower lowest 0-cell
pub label_order : (g : Grid) (a b : ℕ) → Zero g a → Zero g b → first_label g a < first_label g b → lowest_of g a < lowest_of g b
label_order g a b za zb h =
    let sb = seated g b (openings g) (good g).full (covered g b zb) in
    let k = ordered_at (lowests (openings g)) (seat a (openings g)) (seat b (openings g)) (all_rising g)
    (omega (arith, first_seat g a za, first_seat g b zb)) (omega (arith, sb.inside, length-map (openings g) lowest)) in
    omega (arith, lowest_at g a za, lowest_at g b zb)

-- a 0-cell of the set at a place
record Sits (g : Grid) (os : List (List ℕ)) (k : ℕ) : Type 0 where
  cell : ℕ
  is_zero : Zero g cell
  is_in : In cell os
  at : seat cell os ≡ k

sits : (g : Grid) (os : List (List ℕ)) (k : ℕ) → Each (Full g) os → Apart g os → k < length os → Sits g os k
unfolding seat
sits g [] k e p h = absurd (omega arith)
sits g (o ∷ os) zero e p h =
    let a = e.0.begun in
    record {
      cell = a.0;
      is_zero = e.0.zero-cell a.0 a.1;
      is_in = or_left (has a.0 o) (some_of (has a.0) os) a.1;
      at = ap (λ (b : Bool). elim b as (λ x. ℕ) [ true ↦ 0 | false ↦ suc (seat a.0 os) ]) (T→true (has a.0 o) a.1);
    }
sits g (o ∷ os) (suc k) e p h =
    let w = sits g os k e.1 p.1 (omega arith) in
    let c = w.cell in
    let off = no→false (has c o) (λ t. p.0 c c t w.is_in (itself w.is_zero.inside w.is_zero.none)) in
    record {
      cell = c;
      is_zero = w.is_zero;
      is_in = or_right (has c o) (some_of (has c) os) w.is_in;
      at = ap (λ (b : Bool). elim b as (λ x. ℕ) [ true ↦ 0 | false ↦ suc (seat c os) ]) off ∙ ap suc w.at;
    }

-- every number from 1 to the count of openings is the label of a 0-cell
pub every_label : (g : Grid) (k : ℕ) → k < length (openings g) → (a : ℕ) × Zero g a × (first_label g a ≡ suc k)
every_label g k h =
    let w = sits g (openings g) k (good g).full (good g).apart h in
    (w.cell, w.is_zero, omega (arith, first_seat g w.cell w.is_zero, w.at))
