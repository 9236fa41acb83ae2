-- Demand 3 of greedy and openings-first: their steps fit, and they end with all safe cells open. Assumes nothing.
use Prim.Native.Nat.{ℕ, ◌<◌, ◌≤◌, suc, zero}
use native.Mathlib.Omega.{arith}
use native.Mathlib.Decide.{dec_le}
use mathlib.Core.Path.{◌∙◌, ◌≡◌, ap, refl}
use mathlib.Core.Logic.{inl}
use mathlib.Core.Bool.{Bool, ◌&&◌, false, true}
use mathlib.Core.List.{List, [], ◌++◌, ◌∷◌}
use lib.Dec.{T}
use Rattle.game.specs.Demands.{Sound}
use Rattle.game.specs.Grid.{Grid, cells, size, zero_cell}
use Rattle.game.specs.Lists.{has}
use Rattle.game.specs.Moves.{after}
use Rattle.game.specs.Openings.{three_bv}
use Rattle.game.specs.Position.{Position, Tidy, closed, closed_safe, closed_units, untouched}
use Rattle.game.specs.Rounds.{Step, after_step, choice, click_step, first_clicks, greedy_steps, moves_of, opening_clicks, openings_first_steps, step_of, steps_from}
use Rattle.game.proofs.Choices.{never_stuck, →unit}
use Rattle.game.proofs.Members.{first_of, rest_of}
use Rattle.game.proofs.Narrow.{after_append}
use Rattle.game.proofs.Tidy.{untouched_tidy}
use Rattle.game.proofs.Reveal.{zero_safe}
use Rattle.game.proofs.Runs.{Fits, Run, choice_fits, fit_takes, moves_append, no_units, run_append, run_falls, run_tidy, sound, step_tidy, unit}
use Rattle.game.proofs.Squares.{cells→}
use Rattle.game.proofs.Truth.{and_left, and_right}
use Rattle.game.proofs.Units.{units_untouched}
use Rattle.game.proofs.Zeros.{Zero}

-- ---- steps by the lowest index

-- one of two by a number: the first where it is 0, else the second
pub by_none : {A : Type 0} (x y : A) (k : ℕ) → k ≡ 0 → elim k as (λ _. A) [ zero ↦ x | suc j ↦ y ] ≡ x
by_none x y zero e = refl
by_none x y (suc k) e = absurd (omega arith)

pub by_some : {A : Type 0} (x y : A) (k : ℕ) → 1 ≤ k → elim k as (λ _. A) [ zero ↦ x | suc j ↦ y ] ≡ y
by_some x y zero h = absurd (omega arith)
by_some x y (suc k) h = refl

-- where a safe cell is closed, there is a step
pub steps-on : (n : ℕ) (openedOnly : Bool) (g : Grid) (s : Position) → 1 ≤ closed_safe g s
    → steps_from (suc n) openedOnly g s ≡ step_of g s (choice openedOnly g s) 0 ∷ steps_from n openedOnly g (after_step g s (step_of g s (choice openedOnly g s) 0))
steps-on n openedOnly g s h =
    by_some [] (step_of g s (choice openedOnly g s) 0 ∷ steps_from n openedOnly g (after_step g s (step_of g s (choice openedOnly g s) 0))) (closed_safe g s) h

-- else there is none
pub steps_none : (n : ℕ) (openedOnly : Bool) (g : Grid) (s : Position) → closed_safe g s ≡ 0 → steps_from n openedOnly g s ≡ []
steps_none zero openedOnly g s e = refl
steps_none (suc n) openedOnly g s e =
    by_none [] (step_of g s (choice openedOnly g s) 0 ∷ steps_from n openedOnly g (after_step g s (step_of g s (choice openedOnly g s) 0))) (closed_safe g s) e

pub steps_run : (n : ℕ) (openedOnly : Bool) (g : Grid) (s : Position) → Tidy g s → Run g s (steps_from n openedOnly g s)
steps_run zero openedOnly g s f = tt
steps_run (suc n) openedOnly g s f =
    go (λ p. steps_run n openedOnly g (after_step g s t) p) (closed_safe g s) refl
  where
    t : Step
    t = step_of g s (choice openedOnly g s) 0

    go : (Tidy g (after_step g s t) → Run g (after_step g s t) (steps_from n openedOnly g (after_step g s t))) → (k : ℕ) → closed_safe g s ≡ k
        → Run g s (elim k [ zero ↦ [] | suc k ↦ t ∷ steps_from n openedOnly g (after_step g s t) ])
    go r zero e = tt
    go r (suc k) e =
        let p = choice_fits openedOnly g s 0 (never_stuck openedOnly g s f (omega arith)) in
        (p, r (step_tidy g s t f p))

-- as many steps as there are closed units come to the end
pub steps_end : (n : ℕ) (openedOnly : Bool) (g : Grid) (s : Position) → Tidy g s → closed_units g s ≤ n → closed_safe g (after g s (moves_of (steps_from n openedOnly g s))) ≡ 0
steps_end zero openedOnly g s f h =
    elim (dec_le 1 (closed_safe g s)) [
      | yes k ↦ absurd (omega (arith, fit_takes g s (step_of g s (choice openedOnly g s) 0) f (choice_fits openedOnly g s 0 (never_stuck openedOnly g s f k))))
      | no k ↦ omega arith
    ]
steps_end (suc n) openedOnly g s f h =
    go (λ p l. steps_end n openedOnly g (after_step g s t) p l) (closed_safe g s) refl
  where
    t : Step
    t = step_of g s (choice openedOnly g s) 0

    go : (Tidy g (after_step g s t) → closed_units g (after_step g s t) ≤ n → closed_safe g (after g (after_step g s t) (moves_of (steps_from n openedOnly g (after_step g s t)))) ≡ 0)
        → (k : ℕ) → closed_safe g s ≡ k → closed_safe g (after g s (moves_of (elim k [ zero ↦ [] | suc k ↦ t ∷ steps_from n openedOnly g (after_step g s t) ]))) ≡ 0
    go r zero e = e
    go r (suc k) e =
        let p = choice_fits openedOnly g s 0 (never_stuck openedOnly g s f (omega arith)) in
        ap (closed_safe g) (after_append g t.moves (moves_of (steps_from n openedOnly g (after_step g s t))) s)
        ∙ r (step_tidy g s t f p) (omega (arith, fit_takes g s t f p))

-- units are closed exactly while safe cells are
pub all_done : (g : Grid) (s : Position) → Tidy g s → closed_units g s ≤ 0 → closed_safe g s ≡ 0
all_done g s f h = steps_end 0 false g s f h

pub safe_left : (g : Grid) (s : Position) → Tidy g s → 1 ≤ closed_units g s → 1 ≤ closed_safe g s
safe_left g s f h =
    elim (dec_le 1 (closed_safe g s)) [ yes k ↦ k | no k ↦ absurd (omega (arith, no_units g s f (omega arith))) ]

pub greedy_sound : (g : Grid) → Sound g (greedy_steps g)
unfolding greedy_steps
greedy_sound g =
    sound g (steps_from (three_bv g) false g (untouched g)) (steps_run (three_bv g) false g (untouched g) (untouched_tidy g))
    (steps_end (three_bv g) false g (untouched g) (untouched_tidy g) (omega (arith, units_untouched g)))

-- ---- openings first

pub clicks_run : (g : Grid) (is : List ℕ) (s : Position) → ((i : ℕ) → T (has i is) → i < size g) → Tidy g s → Run g s (opening_clicks g s is)
clicks_run g [] s h f = tt
clicks_run g (i ∷ is) s h f =
    go (zero_cell g i && closed s i) refl (clicks_run g is (after_step g s (click_step i)) (rest_of i is h)) (clicks_run g is s (rest_of i is h) f)
  where
    go : (b : Bool) → (zero_cell g i && closed s i) ≡ b
        → (Tidy g (after_step g s (click_step i)) → Run g (after_step g s (click_step i)) (opening_clicks g (after_step g s (click_step i)) is)) → Run g s (opening_clicks g s is)
        → Run g s (elim b [ true ↦ click_step i ∷ opening_clicks g (after_step g s (click_step i)) is | false ↦ opening_clicks g s is ])
    go true e hit miss =
        let t : T (zero_cell g i && closed s i) = rw e tt in
        let z : Zero g i = record { inside = first_of i is h; none = and_left (zero_cell g i) (closed s i) t } in
        let p : Fits g s (click_step i) = unit i (→unit g s i (record {
          inside = z.inside;
          is_safe = zero_safe g i z;
          is_closed = and_right (zero_cell g i) (closed s i) t;
          which = inl z.none;
        })) in
        (p, hit (step_tidy g s (click_step i) f p))
    go false e hit miss = miss

pub openings_first_sound : (g : Grid) → Sound g (openings_first_steps g)
unfolding openings_first_steps first_clicks
openings_first_sound g =
    sound g (first_clicks g ++ steps_from (three_bv g) true g hit) (run_append g (untouched g) (first_clicks g) (steps_from (three_bv g) true g hit) first (steps_run (three_bv g) true g hit played))
    (ap (closed_safe g) (ap (after g (untouched g)) (moves_append (first_clicks g) (steps_from (three_bv g) true g hit)) ∙ after_append g (moves_of (first_clicks g)) (moves_of (steps_from (three_bv g) true g hit)) (untouched g))
    ∙ steps_end (three_bv g) true g hit played (enough (run_falls g (untouched g) (first_clicks g) (untouched_tidy g) first)))
  where
    hit : Position
    hit = after g (untouched g) (moves_of (first_clicks g))

    first : Run g (untouched g) (first_clicks g)
    first = clicks_run g (cells g) (untouched g) (cells→ g) (untouched_tidy g)

    played : Tidy g hit
    played = run_tidy g (untouched g) (first_clicks g) (untouched_tidy g) first

    enough : closed_units g hit ≤ closed_units g (untouched g) → closed_units g hit ≤ three_bv g
    enough h = omega (arith, units_untouched g)
