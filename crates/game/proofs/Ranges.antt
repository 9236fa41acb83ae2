-- The ranges of what the work area keeps: a premium lies between -10 and 9, a label is at most the cells. Assumes nothing.
use Prim.Native.Nat.{ℕ, ◌*◌, ◌+◌, ◌-◌, ◌<◌, ◌≤◌, min, suc, zero}
use native.Mathlib.Omega.{arith}
use native.Mathlib.Decide.{dec_le}
use mathlib.Core.Path.{◌∙◌, ◌≡◌, ap, refl, sym}
use mathlib.Core.Bool.{Bool, ◌&&◌, ◌||◌, cond, false, not, true}
use mathlib.Core.List.{List, [], ◌∷◌, map}
use lib.Dec.{T, T_not, eqb, le→leb, ltb}
use lib.IntN.{◌-ℤ◌, negsuc, pos, ℤ}
use lib.Signed.{le_z}
use lib.ListN.{get_or, length, length-append, length-map}
use Rattle.game.specs.Grid.{Grid, column_of, index, mine, near, number, row_of, safe, size, square}
use Rattle.game.specs.Lists.{bit, concat_map, count, has, some_of}
use Rattle.game.specs.Openings.{holds, labels, openings, places, three_bv, unlabelled}
use Rattle.game.specs.Position.{Position, cell_unit, cost, flagged, gain, opening_closed, premium, unflagged, unopened, untouched}
use Rattle.game.proofs.Counts.{bit_le, bit_no, bit_small, count_each, count_ext, count_le, each_map}
use Rattle.game.proofs.Labels.{at_most_two, labelled→zero, labels_range}
use Rattle.game.proofs.Members.{at_most, has_cases, length_from}
use Rattle.game.proofs.Openings.{good}
use Rattle.game.proofs.Reveal.{zero_labelled}
use Rattle.game.proofs.Squares.{in-own-square, square→}
use Rattle.game.proofs.Truth.{and_left, and_true}
use Rattle.game.proofs.Units.{units_at_most_cells}
use Rattle.game.proofs.Untouched.{opening_untouched, unopened_untouched, untouched_at}

-- ---- a square has at most nine cells

length_near : (n p : ℕ) → length (near n p) ≤ 3
length_near n p = omega (arith, length_from (min (p + 2) n - (p - 1)) (p - 1))

length_rows : (f : ℕ → List ℕ) (xs : List ℕ) → ((x : ℕ) → length (f x) ≤ 3) → length (concat_map f xs) ≤ 3 * length xs
length_rows f [] h = omega arith
length_rows f (x ∷ xs) h = omega (arith, length-append (f x) (concat_map f xs), h x, length_rows f xs h)

pub length_square : (g : Grid) (i : ℕ) → length (square g i) ≤ 9
unfolding square
length_square g i =
    let a = length_rows (λ r. map (λ c. index g r c) (near g.columns (column_of g i))) (near g.rows (row_of g i))
    (λ r. omega (arith, length-map (near g.columns (column_of g i)) (λ c. index g r c), length_near g.columns (column_of g i))) in
    omega (arith, length_near g.rows (row_of g i))

-- a test that one cell of the list fails
count_short : (f : ℕ → Bool) (x : ℕ) (xs : List ℕ) → T (has x xs) → (T (f x) → ⊥) → count f xs < length xs
count_short f x [] t n = absurd t
count_short f x (y ∷ xs) t n =
    has_cases x y xs (λ e. omega (arith, bit_no (f y) (λ u. n (rw e u)), count_le f xs))
    (λ r. omega (arith, bit_small (f y), count_short f x xs r n)) t

-- ---- gain and cost

-- the openings that hold a cell are as many as its labels
pub held_count : (g : Grid) (i k : ℕ) (os : List (List ℕ)) → count (holds g i) os ≡ length (places g i k os)
held_count g i k [] = refl
held_count g i k (o ∷ os) = go (holds g i o) (held_count g i (suc k) os)
  where
    go : (b : Bool) → count (holds g i) os ≡ length (places g i (suc k) os) → bit b + count (holds g i) os ≡ length {A = ℕ} (elim b [ true ↦ k ∷ places g i (suc k) os | false ↦ places g i (suc k) os ])
    go true e = omega arith
    go false e = omega arith

held_some : (g : Grid) (i : ℕ) (os : List (List ℕ)) → 1 ≤ count (holds g i) os → T (some_of (holds g i) os)
held_some g i [] h = absurd (omega arith)
held_some g i (o ∷ os) h = go (holds g i o) (held_some g i os) h
  where
    go : (b : Bool) → (1 ≤ count (holds g i) os → T (some_of (holds g i) os)) → 1 ≤ bit b + count (holds g i) os → T (b || some_of (holds g i) os)
    go true r k = tt
    go false r k = r (omega arith)

closed_held : (g : Grid) (s : Position) (i : ℕ) (os : List (List ℕ)) → count (λ o. holds g i o && opening_closed s o) os ≤ count (holds g i) os
closed_held g s i [] = omega arith
closed_held g s i (o ∷ os) =
    omega (arith, bit_le (holds g i o && opening_closed s o) (holds g i o) (and_left (holds g i o) (opening_closed s o)), closed_held g s i os)

-- a cell gains at most ten: a labelled one has a 0-cell in its square, which is no unit of its own
pub gain_range : (g : Grid) (s : Position) (i : ℕ) → i < size g → gain g s i ≤ 10
unfolding gain labels
gain_range g s i h =
    let a = closed_held g s i (openings g) in
    let b = held_count g i 1 (openings g) in
    let c = at_most_two g i h in
    let d = count_le (cell_unit g s) (square g i) in
    let e = length_square g i in
    elim (dec_le 1 (count (holds g i) (openings g))) [
      | yes k ↦
          let w = labelled→zero g i (held_some g i (openings g) k) in
          let f = count_short (cell_unit g s) w.0 (square g i) w.1 (λ u. zero_labelled g w.0 w.2 (and_left (unlabelled g w.0) (unopened s w.0) u)) in
          omega arith
      | no k ↦ omega arith
    ]

-- a safe cell costs at least one, and at most ten: it is no mine itself
pub cost_range : (g : Grid) (s : Position) (i : ℕ) → i < size g → T (safe g i) → (1 ≤ cost g s i) × (cost g s i ≤ 10)
unfolding cost
cost_range g s i h t =
    let a = count_short (unflagged g s) i (square g i) (in-own-square g i h) (λ u. T_not (mine g i) t (and_left (mine g i) (not (flagged s i)) u)) in
    omega (arith, length_square g i, bit_small (unopened s i))

-- ---- the premium

-- between two numbers
pub record Between (low high : ℤ) (z : ℤ) : Type 0 where
  pub above : T (le_z low z)
  pub below : T (le_z z high)

difference : (a b : ℕ) → a ≤ 10 → 1 ≤ b → b ≤ 10 → Between (negsuc 9) (pos 9) (pos a -ℤ pos b)
difference a zero h l u = absurd (omega arith)
difference a (suc b) h l u = go (ltb a (suc b)) refl
  where
    go : (c : Bool) → ltb a (suc b) ≡ c → Between (negsuc 9) (pos 9) (cond c (negsuc (suc b - suc a)) (pos (a - suc b)))
    go true e = record { above = le→leb (suc b - suc a) 9 (omega arith); below = tt }
    go false e = record { above = tt; below = le→leb (a - suc b) 9 (omega arith) }

-- the premium of a safe cell is between -10 and 9
pub premium_range : (g : Grid) (s : Position) (i : ℕ) → i < size g → T (safe g i) → Between (negsuc 9) (pos 9) (premium g s i)
unfolding premium
premium_range g s i h t =
    let c = cost_range g s i h t in
    difference (gain g s i) (cost g s i) (gain_range g s i h) c.0 c.1

-- ---- gain and cost before any move

-- before any move every mine is unflagged
pub untouched_cost : (g : Grid) (i : ℕ) → i < size g → cost g (untouched g) i ≡ number g i + 2
unfolding cost number
untouched_cost g i h =
    let a = count_ext (unflagged g (untouched g)) (mine g) (square g i)
    (λ j t. ap (λ (k : ℕ). mine g j && not (eqb k 2)) (untouched_at g j (square→ g i j h t).0) ∙ sym (and_true (mine g j))) in
    let b = ap bit (unopened_untouched g i h) in
    omega arith

-- and every unit is closed
pub untouched_gain : (g : Grid) (i : ℕ) → i < size g → gain g (untouched g) i ≡ length (labels g i) + count (unlabelled g) (square g i)
unfolding gain labels
untouched_gain g i h =
    let a = count_each (λ o. holds g i o && opening_closed (untouched g) o) (holds g i) (openings g)
    (each_map (openings g) (λ o f. ap (λ (b : Bool). holds g i o && b) (opening_untouched g o f) ∙ sym (and_true (holds g i o))) (good g).full) in
    let b = held_count g i 1 (openings g) in
    let c = count_ext (cell_unit g (untouched g)) (unlabelled g) (square g i)
    (λ j t. ap (λ (b : Bool). unlabelled g j && b) (unopened_untouched g j (square→ g i j h t).0) ∙ sym (and_true (unlabelled g j))) in
    omega arith

-- ---- labels

-- both labels are at most the cells
pub label_range : (g : Grid) (i k : ℕ) → get_or (labels g i) k 0 ≤ size g
unfolding three_bv
label_range g i k =
    omega (arith, at_most (labels g i) k (length (openings g)) (λ x t. (labels_range g i x t).1), units_at_most_cells g)
