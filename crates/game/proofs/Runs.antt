-- Runs of steps, each at a cell of premium 0 or more or a click on a closed unit: the ledger, legality and the end. Assumes nothing.
use Prim.Native.Nat.{ℕ, ◌+◌, ◌-◌, ◌<◌, ◌≤◌}
use native.Mathlib.Omega.{arith}
use mathlib.Core.Path.{◌∙◌, ◌≡◌, ap, refl, subst, sym}
use mathlib.Core.Bool.{Bool, ◌&&◌, cond, false, not, true}
use mathlib.Core.List.{List, [], ◌++◌, ◌∷◌, append_assoc, map}
use lib.Dec.{T, eqb, eqb→eq}
use lib.IntN.{+ℤ_assoc, +ℤ_comm, +ℤ-neg_ℤ_cancel, ◌+ℤ◌, ◌-ℤ◌, nat_abs, neg_ℤ, pos, ℤ}
use lib.ListN.{get_or, length, length-append, length-map}
use Rattle.game.specs.Demands.{Sound, earned, standing, worth}
use Rattle.game.specs.Grid.{Grid, cells, mine, safe, size, square, zero_cell}
use Rattle.game.specs.Lists.{bit, has, keep}
use Rattle.game.specs.Moves.{Move, after, chord, flag, left, play}
use Rattle.game.specs.Openings.{openings, three_bv}
use Rattle.game.specs.Position.{Position, Tidy, cell_unit, closed, closed_safe, closed_units, cost, gain, opened, opening_closed, premium, unflagged, unopened, untouched}
use Rattle.game.specs.Rounds.{Step, after_step, choice, chord_step, chords, click_step, clicks, moves_at, moves_of, step_of, top_cells, unit_cells, width}
use Rattle.game.proofs.Choices.{Top, looked→, premium_pays, top→, unit→}
use Rattle.game.proofs.Counts.{count_each, count_none, count_one, each_map, length_keep}
use Rattle.game.proofs.Legal.{cell_left, click_narrow, moves_narrow, none_left, none_of, opening_left, zero_poor}
use Rattle.game.proofs.Members.{get_d_has}
use Rattle.game.proofs.Narrow.{AllNarrow, after_append, after_tidy, all_legal, narrow_append}
use Rattle.game.proofs.Openings.{good}
use Rattle.game.proofs.Owners.{closed_unopened}
use Rattle.game.proofs.Squares.{cells→, →cells}
use Rattle.game.proofs.Tidy.{tidy_unfinished, tidy_unopened, tidy_won, untouched_tidy}
use Rattle.game.proofs.Truth.{and_both, no→false}
use Rattle.game.proofs.Units.{units_at_most_cells, units_left, units_moves, units_untouched}

-- ---- one step

-- a step that a round may take
pub data Fits (g : Grid) (s : Position) : Step → Type 0 where
  pays : (i : ℕ) → i < size g → T (safe g i) → cost g s i ≤ gain g s i → Fits g s (chord_step g s i)
  unit : (i : ℕ) → T (has i (unit_cells g s)) → Fits g s (click_step i)

-- a chosen cell is no 0-cell
pub chosen_numbered : (g : Grid) (s : Position) (i : ℕ) → Tidy g s → i < size g → cost g s i ≤ gain g s i → T (zero_cell g i) → ⊥
chosen_numbered g s i f h c u = let p = zero_poor g s i f (record { inside = h; none = u }) in absurd (omega arith)

-- while a unit is closed a safe cell is
unit_left : (g : Grid) (s : Position) (i : ℕ) → T (has i (unit_cells g s)) → 1 ≤ closed_safe g s
unfolding closed_safe
unit_left g s i u =
    let v = unit→ g s i u in
    count_one (λ i. safe g i && unopened s i) i (cells g) (→cells g i v.inside) (and_both (safe g i) (unopened s i) v.is_safe (closed_unopened s i v.is_closed))

-- its moves are those of the rounds where they stand
pub fit_narrow : (g : Grid) (s : Position) (t : Step) → Tidy g s → Fits g s t → AllNarrow g s t.moves
fit_narrow g s t f (pays i h k c) = moves_narrow g s i f h k (chosen_numbered g s i f h c) c
fit_narrow g s t f (unit i u) = (tidy_unfinished g s f (unit_left g s i u), click_narrow g s i u, tt)

-- the moves at a cell are as many as it costs
pub moves_cost : (g : Grid) (s : Position) (i : ℕ) → Tidy g s → i < size g → T (safe g i) → length (moves_at g s i) ≡ cost g s i
unfolding moves_at cost
moves_cost g s i f h t =
    let a = length-append (cond (closed s i) (left i ∷ []) [] ++ map flag ms) (chord i ∷ []) in
    let b = length-append (cond (closed s i) (left i ∷ []) []) (map flag ms) in
    let c = length-map ms flag in
    let d = length_keep (unflagged g s) (square g i) in
    omega (arith, one (closed s i), ap bit (tidy_unopened g s i f h t))
  where
    ms : List ℕ
    ms = keep (unflagged g s) (square g i)

    one : (b : Bool) → length {A = Move} (cond b (left i ∷ []) []) ≡ bit b
    one true = refl
    one false = refl

-- a click on a unit takes it
pub unit_takes : (g : Grid) (s : Position) (i : ℕ) → Tidy g s → T (has i (unit_cells g s)) → closed_units g s ≡ closed_units g (play g s (left i)) + 1
unit_takes g s i f u = let v = unit→ g s i u in units_left g s i v.is_safe v.inside f v.is_closed v.which

-- each step takes a unit
pub fit_takes : (g : Grid) (s : Position) (t : Step) → Tidy g s → Fits g s t → closed_units g (after_step g s t) < closed_units g s
unfolding cost
fit_takes g s t f (pays i h k c) = omega (arith, units_moves g s i f h k (chosen_numbered g s i f h c))
fit_takes g s t f (unit i u) = omega (arith, unit_takes g s i f u)

cost_and_gain : (u g c : ℕ) → pos c +ℤ pos u +ℤ (pos g -ℤ pos c) ≡ pos (u + g)
cost_and_gain u g c =
    sym (+ℤ_assoc (pos (c + u)) (pos g) (neg_ℤ (pos c))) ∙ ap (λ (k : ℕ). pos k -ℤ pos c) same_sum ∙ +ℤ-neg_ℤ_cancel (pos (u + g)) (pos c)
  where
    same_sum : c + u + g ≡ u + g + c
    same_sum = omega arith

-- clicks paid + closed units left + the chosen cell's premium = closed units before
pub fit_sum : (g : Grid) (s : Position) (t : Step) → Tidy g s → Fits g s t
    → pos (length t.moves) +ℤ pos (closed_units g (after_step g s t)) +ℤ worth g s t ≡ pos (closed_units g s)
unfolding premium
fit_sum g s t f (pays i h k c) =
    ap (λ (n : ℕ). pos n +ℤ pos (closed_units g (after g s (moves_at g s i))) +ℤ (pos (gain g s i) -ℤ pos (cost g s i))) (moves_cost g s i f h k)
    ∙ cost_and_gain (closed_units g (after g s (moves_at g s i))) (gain g s i) (cost g s i)
    ∙ ap pos (sym (units_moves g s i f h k (chosen_numbered g s i f h c)))
fit_sum g s t f (unit i u) =
    ap pos (one (closed_units g (play g s (left i))) (closed_units g s) (unit_takes g s i f u))
  where
    one : (a b : ℕ) → b ≡ a + 1 → 1 + a + 0 ≡ b
    one a b e = omega arith

-- the premium of the chosen cell is 0 or more
pub fit_worth : (g : Grid) (s : Position) (t : Step) → Fits g s t → (k : ℕ) × (worth g s t ≡ pos k)
unfolding premium
fit_worth g s t (pays i h k c) = (
  gain g s i - cost g s i,
  ap (λ (n : ℕ). pos n -ℤ pos (cost g s i)) (split (gain g s i) (cost g s i) c) ∙ +ℤ-neg_ℤ_cancel (pos (gain g s i - cost g s i)) (pos (cost g s i)),
)
  where
    split : (a b : ℕ) → b ≤ a → a ≡ a - b + b
    split a b h = omega arith
fit_worth g s t (unit i u) = (0, refl)

-- the choice at a position fits, whichever of its cells is taken
pub choice_fits : (openedOnly : Bool) (g : Grid) (s : Position) (k : ℕ) → k < width (choice openedOnly g s) → Fits g s (step_of g s (choice openedOnly g s) k)
unfolding choice
choice_fits openedOnly g s k h = go (top_cells openedOnly g s) (λ x t. top→ openedOnly g s x t) h
  where
    go : (ts : List ℕ) → ((x : ℕ) → T (has x ts) → Top openedOnly g s x) → k < width (elim ts [ [] ↦ clicks (unit_cells g s) | x ∷ xs ↦ chords (x ∷ xs) ])
        → Fits g s (step_of g s (elim ts [ [] ↦ clicks (unit_cells g s) | x ∷ xs ↦ chords (x ∷ xs) ]) k)
    go [] f l = unit (get_or (unit_cells g s) k 0) (get_d_has (unit_cells g s) k l)
    go (x ∷ xs) f l =
        let i = get_or (x ∷ xs) k 0 in
        let w = f i (get_d_has (x ∷ xs) k l) in
        let v = looked→ openedOnly g s i w.is_looked in
        pays i v.0 v.1 (premium_pays g s i w.reaches)

-- ---- steps one after the other

abbrev pub Run : Grid → Position → List Step → Type 0
Run g s [] = Unit {0}
Run g s (t ∷ ts) = Fits g s t × Run g (after_step g s t) ts

pub step_tidy : (g : Grid) (s : Position) (t : Step) → Tidy g s → Fits g s t → Tidy g (after_step g s t)
step_tidy g s t f p = after_tidy g t.moves s (fit_narrow g s t f p) f

pub run_before : (g : Grid) (s : Position) (ts us : List Step) → Run g s (ts ++ us) → Run g s ts
run_before g s [] us r = tt
run_before g s (t ∷ ts) us r = (r.0, run_before g (after_step g s t) ts us r.1)

pub run_behind : (g : Grid) (s : Position) (ts us : List Step) → Run g s (ts ++ us) → Run g (after g s (moves_of ts)) us
run_behind g s [] us r = r
run_behind g s (t ∷ ts) us r =
    subst (λ (p : Position). Run g p us) (sym (after_append g t.moves (moves_of ts) s)) (run_behind g (after_step g s t) ts us r.1)

pub run_append : (g : Grid) (s : Position) (ts us : List Step) → Run g s ts → Run g (after g s (moves_of ts)) us → Run g s (ts ++ us)
run_append g s [] us r q = q
run_append g s (t ∷ ts) us r q =
    (r.0, run_append g (after_step g s t) ts us r.1 (subst (λ (p : Position). Run g p us) (after_append g t.moves (moves_of ts) s) q))

pub run_narrow : (g : Grid) (s : Position) (ts : List Step) → Tidy g s → Run g s ts → AllNarrow g s (moves_of ts)
run_narrow g s [] f r = tt
run_narrow g s (t ∷ ts) f r =
    narrow_append g t.moves (moves_of ts) s (fit_narrow g s t f r.0) (run_narrow g (after_step g s t) ts (step_tidy g s t f r.0) r.1)

pub run_tidy : (g : Grid) (s : Position) (ts : List Step) → Tidy g s → Run g s ts → Tidy g (after g s (moves_of ts))
run_tidy g s ts f r = after_tidy g (moves_of ts) s (run_narrow g s ts f r) f

-- two balances one after the other
join : (a b u₀ u₁ u₂ : ℕ) (w e : ℤ) → pos a +ℤ pos u₁ +ℤ w ≡ pos u₀ → pos b +ℤ pos u₂ +ℤ e ≡ pos u₁ → pos (a + b) +ℤ pos u₂ +ℤ (w +ℤ e) ≡ pos u₀
join a b u₀ u₁ u₂ w e p q =
    ap (λ (z : ℤ). z +ℤ (w +ℤ e)) (+ℤ_assoc (pos a) (pos b) (pos u₂))
    ∙ +ℤ_assoc (pos a) (pos b +ℤ pos u₂) (w +ℤ e)
    ∙ ap (λ (z : ℤ). pos a +ℤ z) (ap (λ (z : ℤ). pos b +ℤ pos u₂ +ℤ z) (+ℤ_comm w e) ∙ sym (+ℤ_assoc (pos b +ℤ pos u₂) e w) ∙ ap (λ (z : ℤ). z +ℤ w) q)
    ∙ sym (+ℤ_assoc (pos a) (pos u₁) w) ∙ p

pub run_sum : (g : Grid) (s : Position) (ts : List Step) → Tidy g s → Run g s ts
    → pos (length (moves_of ts)) +ℤ pos (closed_units g (after g s (moves_of ts))) +ℤ earned g s ts ≡ pos (closed_units g s)
run_sum g s [] f r = ap pos (none_paid (closed_units g s))
  where
    none_paid : (u : ℕ) → 0 + u + 0 ≡ u
    none_paid u = omega arith
run_sum g s (t ∷ ts) f r =
    ap (λ (k : ℕ). pos k +ℤ pos (closed_units g (after g s (t.moves ++ moves_of ts))) +ℤ earned g s (t ∷ ts)) (length-append t.moves (moves_of ts))
    ∙ ap (λ (p : Position). pos (length t.moves + length (moves_of ts)) +ℤ pos (closed_units g p) +ℤ earned g s (t ∷ ts)) (after_append g t.moves (moves_of ts) s)
    ∙ join (length t.moves) (length (moves_of ts)) (closed_units g s) (closed_units g (after_step g s t)) (closed_units g (after g (after_step g s t) (moves_of ts)))
    (worth g s t) (earned g (after_step g s t) ts) (fit_sum g s t f r.0) (run_sum g (after_step g s t) ts (step_tidy g s t f r.0) r.1)

-- a run takes closed units away, if any
pub run_falls : (g : Grid) (s : Position) (ts : List Step) → Tidy g s → Run g s ts → closed_units g (after g s (moves_of ts)) ≤ closed_units g s
run_falls g s [] f r = omega arith
run_falls g s (t ∷ ts) f r =
    omega (
      arith,
      ap (closed_units g) (after_append g t.moves (moves_of ts) s),
      fit_takes g s t f r.0,
      run_falls g (after_step g s t) ts (step_tidy g s t f r.0) r.1,
    )

pub moves_append : (ts us : List Step) → moves_of (ts ++ us) ≡ moves_of ts ++ moves_of us
moves_append [] us = refl
moves_append (t ∷ ts) us = ap (λ (ms : List Move). t.moves ++ ms) (moves_append ts us) ∙ sym (append_assoc t.moves (moves_of ts) (moves_of us))

run_earned : (g : Grid) (s : Position) (ts : List Step) → Run g s ts → (k : ℕ) × (earned g s ts ≡ pos k)
run_earned g s [] r = (0, refl)
run_earned g s (t ∷ ts) r =
    let a = fit_worth g s t r.0 in
    let b = run_earned g (after_step g s t) ts r.1 in
    (a.0 + b.0, ap (λ (z : ℤ). z +ℤ earned g (after_step g s t) ts) a.1 ∙ ap (λ (z : ℤ). pos a.0 +ℤ z) b.1)

-- ---- the end

module _ (g : Grid) (s : Position) (f : Tidy g s) (done : closed_safe g s ≡ 0) where
  -- exactly the safe cells are open
  pub exactly_safe : (i : ℕ) → i < size g → opened s i ≡ safe g i
  exactly_safe i h = go (mine g i) refl
    where
      never_both : (x : ℕ) → eqb x 2 ≡ not (eqb x 0) → T (eqb x 1) → ⊥
      never_both x e t = let q : x ≡ 1 = eqb→eq x 1 t in subst T (sym (subst (λ (k : ℕ). eqb k 2 ≡ not (eqb k 0)) q e)) tt

      go : (b : Bool) → mine g i ≡ b → opened s i ≡ not b
      go true e = no→false (opened s i) (never_both (get_or s i 0) (f.mines i h (rw e tt)))
      go false e =
          let t : T (safe g i) = rw e tt in
          f.safes i h t ∙ ap not (no→false (closed s i) (λ u. none_left g s done i h t (closed_unopened s i u)))

  -- no unit is closed
  pub no_units : closed_units g s ≡ 0
  unfolding closed_units
  no_units =
      let a = count_each (opening_closed s) (λ o. false) (openings g) (each_map (openings g) (opening_left g s done) (good g).full) in
      let b = count_none (cell_unit g s) (cells g) (λ i t u. cell_left g s done i (cells→ g i t) u) in
      omega (arith, none_of (openings g))

-- ---- demand 3 of a run to its end

pub sound : (g : Grid) (ts : List Step) → Run g (untouched g) ts → closed_safe g (standing g ts) ≡ 0 → Sound g ts
sound g ts r e =
    record {
      ledger = λ done left q. run_sum g (untouched g) done start (run_before g (untouched g) done left (subst (Run g (untouched g)) q r))
          ∙ ap pos (units_untouched g);
      takes = λ done left t q.
          let p = subst (Run g (untouched g)) q r in
          fit_takes g (standing g done) t (run_tidy g (untouched g) done start (run_before g (untouched g) done (t ∷ left) p))
          (run_behind g (untouched g) done (t ∷ left) p).0;
      legal_moves = all_legal g (moves_of ts) (untouched g) (run_narrow g (untouched g) ts start r) start;
      opens = exactly_safe g (standing g ts) final e;
      wins = tidy_won g (standing g ts) final e;
      finished = no_units g (standing g ts) final e;
      at_most_units = paid (length (moves_of ts)) (closed_units g (standing g ts)) (three_bv g) (earned g (untouched g) ts)
          (run_earned g (untouched g) ts r) (run_sum g (untouched g) ts start r ∙ ap pos (units_untouched g));
      units_at_most = units_at_most_cells g;
    }
  where
    start : Tidy g (untouched g)
    start = untouched_tidy g

    final : Tidy g (standing g ts)
    final = run_tidy g (untouched g) ts start r

    paid : (a u b : ℕ) (w : ℤ) → (k : ℕ) × (w ≡ pos k) → pos a +ℤ pos u +ℤ w ≡ pos b → a ≤ b
    paid a u b w k q =
        let p : a + u + k.0 ≡ b = ap nat_abs (ap (λ (z : ℤ). pos a +ℤ pos u +ℤ z) (sym k.1) ∙ q) in
        omega arith
