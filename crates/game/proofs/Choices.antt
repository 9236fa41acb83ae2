-- What a step chooses among: the cells of highest premium, exactly; and while a safe cell is closed, there is something to choose. Assumes nothing.
use Prim.Native.Nat.{ℕ, ◌-◌, ◌<◌, ◌≤◌, suc, zero}
use native.Mathlib.Omega.{arith}
use mathlib.Core.Path.{◌≡◌, ap, refl, subst}
use mathlib.Core.Logic.{◌⊎◌, inl, inr, ⊎_elim}
use mathlib.Core.Bool.{Bool, ◌&&◌, ◌||◌, cond, false, not, true}
use mathlib.Core.List.{List, [], ◌∷◌, map}
use lib.Dec.{T, leb, leb→le, le→leb, ltb, nleb→lt, nltb→le}
use lib.IntN.{◌-ℤ◌, negsuc, pos, ℤ}
use lib.Signed.{le_z, ≤ℤ_refl}
use Rattle.game.specs.Grid.{Grid, cells, safe, same, size, zero_cell}
use Rattle.game.specs.Lists.{has, some_of}
use Rattle.game.specs.Openings.{holds, openings, unlabelled}
use Rattle.game.specs.Position.{Position, Tidy, closed, closed_safe, cost, gain, opened, premium, unopened}
use Rattle.game.specs.Rounds.{Choice, choice, chords, clicks, closed_unit_cell, highest, least_chosen, looked, top_cells, unit_cells, width}
use Rattle.game.proofs.Counts.{count_find}
use Rattle.game.proofs.Labels.{labelled→zero}
use Rattle.game.proofs.Members.{first_of, has_cases, has_keep, has_length, keep_has, rest_of}
use Rattle.game.proofs.Reveal.{zero_safe}
use Rattle.game.proofs.Squares.{cells→, →cells}
use Rattle.game.proofs.Tidy.{tidy_unopened}
use Rattle.game.proofs.Truth.{and_both, and_left, and_not, and_right, or_cases, or_left, or_right}

-- ---- the order of whole numbers

le_total : (a b : ℤ) → T (not (le_z a b)) → T (le_z b a)
le_total (pos a) (pos b) t = lt→leb b a (nleb→lt a b t)
  where
    lt→leb : (m n : ℕ) → m < n → T (leb m n)
    lt→leb m n h = le→leb m n (omega arith)
le_total (pos a) (negsuc b) t = tt
le_total (negsuc a) (pos b) t = absurd t
le_total (negsuc a) (negsuc b) t = le→leb a b (omega (arith, nleb→lt b a t))

pub le_z_trans : (a b c : ℤ) → T (le_z a b) → T (le_z b c) → T (le_z a c)
le_z_trans (pos a) (pos b) (pos c) t u = le→leb a c (omega (arith, leb→le a b t, leb→le b c u))
le_z_trans (pos a) (pos b) (negsuc c) t u = absurd u
le_z_trans (pos a) (negsuc b) c t u = absurd t
le_z_trans (negsuc a) (pos b) (pos c) t u = tt
le_z_trans (negsuc a) (pos b) (negsuc c) t u = absurd u
le_z_trans (negsuc a) (negsuc b) (pos c) t u = tt
le_z_trans (negsuc a) (negsuc b) (negsuc c) t u = le→leb c a (omega (arith, leb→le b a t, leb→le c b u))

-- a difference of 0 or more
difference_pays : (a b : ℕ) → T (le_z least_chosen (pos a -ℤ pos b)) → b ≤ a
difference_pays a zero t = omega arith
difference_pays a (suc b) t = nltb→le a (suc b) (go (ltb a (suc b)) t)
  where
    go : (c : Bool) → T (le_z least_chosen (cond c (negsuc (suc b - suc a)) (pos (a - suc b)))) → T (not c)
    go true u = u
    go false u = tt

-- ---- the highest

highest_bound : (f : ℕ → ℤ) (xs : List ℕ) (x : ℕ) → T (has x xs) → T (le_z (f x) (highest (map f xs)))
highest_bound f [] x t = absurd t
highest_bound f (y ∷ xs) x t = go (le_z (f y) (highest (map f xs))) refl (λ r. highest_bound f xs x r)
  where
    go : (b : Bool) → le_z (f y) (highest (map f xs)) ≡ b → (T (has x xs) → T (le_z (f x) (highest (map f xs)))) → T (le_z (f x) (cond b (highest (map f xs)) (f y)))
    go true e r = has_cases x y xs (λ q. rw q (rw e tt)) r t
    go false e r =
        has_cases x y xs (λ q. rw q (≤ℤ_refl (f y)).le)
        (λ u. le_z_trans (f x) (highest (map f xs)) (f y) (r u) (le_total (f y) (highest (map f xs)) (rw e tt))) t

highest_least : (f : ℕ → ℤ) (xs : List ℕ) (z : ℤ) → T (le_z (negsuc 0) z) → ((x : ℕ) → T (has x xs) → T (le_z (f x) z)) → T (le_z (highest (map f xs)) z)
highest_least f [] z b h = b
highest_least f (y ∷ xs) z b h = go (le_z (f y) (highest (map f xs))) (highest_least f xs z b (rest_of y xs h))
  where
    go : (c : Bool) → T (le_z (highest (map f xs)) z) → T (le_z (cond c (highest (map f xs)) (f y)) z)
    go true r = r
    go false r = first_of y xs h

-- ---- those of highest premium, if that is 0 or more

pub record Top (openedOnly : Bool) (g : Grid) (s : Position) (x : ℕ) : Type 0 where
  pub is_looked : T (has x (looked openedOnly g s))
  pub reaches : T (le_z least_chosen (premium g s x))
  pub none_higher : (y : ℕ) → T (has y (looked openedOnly g s)) → T (le_z (premium g s y) (premium g s x))

pub top→ : (openedOnly : Bool) (g : Grid) (s : Position) (x : ℕ) → T (has x (top_cells openedOnly g s)) → Top openedOnly g s x
unfolding top_cells
top→ openedOnly g s x t =
    let a = keep_has (λ i. le_z least_chosen m && same (premium g s i) m) x (looked openedOnly g s) t in
    let u = and_right (le_z (premium g s x) m) (le_z m (premium g s x)) (and_right (le_z least_chosen m) (same (premium g s x) m) a.1) in
    record {
      is_looked = a.0;
      reaches = le_z_trans least_chosen m (premium g s x) (and_left (le_z least_chosen m) (same (premium g s x) m) a.1) u;
      none_higher = λ y v. le_z_trans (premium g s y) m (premium g s x) (highest_bound (premium g s) (looked openedOnly g s) y v) u;
    }
  where
    m : ℤ
    m = highest (map (premium g s) (looked openedOnly g s))

pub →top : (openedOnly : Bool) (g : Grid) (s : Position) (x : ℕ) → Top openedOnly g s x → T (has x (top_cells openedOnly g s))
unfolding top_cells
→top openedOnly g s x p =
    let up = highest_bound (premium g s) (looked openedOnly g s) x p.is_looked in
    let down = highest_least (premium g s) (looked openedOnly g s) (premium g s x) (le_z_trans (negsuc 0) least_chosen (premium g s x) tt p.reaches) p.none_higher in
    has_keep (λ i. le_z least_chosen m && same (premium g s i) m) x (looked openedOnly g s) p.is_looked
    (and_both (le_z least_chosen m) (same (premium g s x) m) (le_z_trans least_chosen (premium g s x) m p.reaches up)
    (and_both (le_z (premium g s x) m) (le_z m (premium g s x)) up down))
  where
    m : ℤ
    m = highest (map (premium g s) (looked openedOnly g s))

pub looked→ : (openedOnly : Bool) (g : Grid) (s : Position) (x : ℕ) → T (has x (looked openedOnly g s)) → (x < size g) × T (safe g x)
looked→ openedOnly g s x t =
    let b = keep_has (λ i. safe g i && (opened s i || not openedOnly)) x (cells g) t in
    (cells→ g x b.0, and_left (safe g x) (opened s x || not openedOnly) b.1)

-- a cell of premium 0 or more gains what it costs
pub premium_pays : (g : Grid) (s : Position) (x : ℕ) → T (le_z least_chosen (premium g s x)) → cost g s x ≤ gain g s x
unfolding premium
premium_pays g s x t = difference_pays (gain g s x) (cost g s x) t

-- ---- while a safe cell is closed, a cell of number 0 or without label is

pub record UnitCell (g : Grid) (s : Position) (i : ℕ) : Type 0 where
  pub inside : i < size g
  pub is_safe : T (safe g i)
  pub is_closed : T (closed s i)
  pub which : T (zero_cell g i) ⊎ T (unlabelled g i)

pub →unit : (g : Grid) (s : Position) (i : ℕ) → UnitCell g s i → T (has i (unit_cells g s))
unfolding unit_cells
→unit g s i u =
    has_keep (closed_unit_cell g s) i (cells g) (→cells g i u.inside)
    (and_both (safe g i && closed s i) (zero_cell g i || unlabelled g i) (and_both (safe g i) (closed s i) u.is_safe u.is_closed)
    (⊎_elim (λ z. or_left (zero_cell g i) (unlabelled g i) z) (λ l. or_right (zero_cell g i) (unlabelled g i) l) u.which))

pub unit→ : (g : Grid) (s : Position) (i : ℕ) → T (has i (unit_cells g s)) → UnitCell g s i
unfolding unit_cells
unit→ g s i t =
    let a = keep_has (closed_unit_cell g s) i (cells g) t in
    let b = and_left (safe g i && closed s i) (zero_cell g i || unlabelled g i) a.1 in
    record {
      inside = cells→ g i a.0;
      is_safe = and_left (safe g i) (closed s i) b;
      is_closed = and_right (safe g i) (closed s i) b;
      which = or_cases (zero_cell g i) (unlabelled g i) (and_right (safe g i && closed s i) (zero_cell g i || unlabelled g i) a.1);
    }

-- a closed safe cell is a unit itself or stands by a closed 0-cell
unit_some : (g : Grid) (s : Position) → Tidy g s → 1 ≤ closed_safe g s → (i : ℕ) × T (has i (unit_cells g s))
unfolding closed_safe
unit_some g s f h = go (unlabelled g j) refl
  where
    w : (x : ℕ) × T (has x (cells g)) × T (safe g x && unopened s x)
    w = count_find (λ i. safe g i && unopened s i) (cells g) h

    j : ℕ
    j = w.0

    hj : j < size g
    hj = cells→ g j w.1

    sj : T (safe g j)
    sj = and_left (safe g j) (unopened s j) w.2

    cj : T (closed s j)
    cj = subst T (tidy_unopened g s j f hj sj) (and_right (safe g j) (unopened s j) w.2)

    go : (b : Bool) → unlabelled g j ≡ b → (i : ℕ) × T (has i (unit_cells g s))
    go true e = (j, →unit g s j (record { inside = hj; is_safe = sj; is_closed = cj; which = inr (rw e tt) }))
    go false e =
        let k = labelled→zero g j (and_not (safe g j) (some_of (holds g j) (openings g)) sj e) in
        let z = k.2 in (
          k.0,
          →unit g s k.0 (record {
            inside = z.inside;
            is_safe = zero_safe g k.0 z;
            is_closed = f.around k.0 j hj z.none k.1 cj;
            which = inl z.none;
          }),
        )

-- where no premium is 0 or more the choice is for one L
pub choice_none : (openedOnly : Bool) (g : Grid) (s : Position) → top_cells openedOnly g s ≡ [] → choice openedOnly g s ≡ clicks (unit_cells g s)
unfolding choice
choice_none openedOnly g s e = ap (λ (ts : List ℕ). elim ts [ [] ↦ clicks (unit_cells g s) | x ∷ xs ↦ chords (x ∷ xs) ]) e

-- else it is among the cells of highest premium
pub choice_some : (openedOnly : Bool) (g : Grid) (s : Position) (x : ℕ) → T (has x (top_cells openedOnly g s)) → choice openedOnly g s ≡ chords (top_cells openedOnly g s)
unfolding choice
choice_some openedOnly g s x t = go (top_cells openedOnly g s) t
  where
    go : (ts : List ℕ) → T (has x ts) → ◌≡◌ {A = Choice} (elim ts [ [] ↦ clicks (unit_cells g s) | x ∷ xs ↦ chords (x ∷ xs) ]) (chords ts)
    go [] u = absurd u
    go (y ∷ ys) u = refl

-- the exit without a move is never reached: there is always something to choose
pub never_stuck : (openedOnly : Bool) (g : Grid) (s : Position) → Tidy g s → 1 ≤ closed_safe g s → 1 ≤ width (choice openedOnly g s)
unfolding choice
never_stuck openedOnly g s f h = go (top_cells openedOnly g s)
  where
    go : (ts : List ℕ) → 1 ≤ width (elim ts [ [] ↦ clicks (unit_cells g s) | x ∷ xs ↦ chords (x ∷ xs) ])
    go [] = let w = unit_some g s f h in has_length w.0 (unit_cells g s) w.1
    go (x ∷ xs) = omega arith
