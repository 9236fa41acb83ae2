-- A random round under way, from any source that draws among the places: the steps drawn so far, and those still to come from where they led. Assumes nothing.
use Prim.Native.Nat.{ℕ, ◌*◌, ◌+◌, ◌<◌, ◌≤◌, suc}
use native.Mathlib.Omega.{arith}
use mathlib.Core.Path.{◌∙◌, ◌≡◌, ap, ap₂, refl, subst, sym}
use mathlib.Core.Bool.{false}
use mathlib.Core.List.{List, [], ◌++◌, ◌∷◌, append_assoc, append-nil, map}
use mathlib.Core.Option.{Option, none, some}
use lib.IntN.{ℤ}
use lib.ListN.{get_or, length, length-map, set}
use lib.Seq.{get_or-set_other, length-sets, sets}
use Rattle.moves.specs.declared.State.{State}
use Rattle.random.specs.declared.Onward.{Onward}
use Rattle.std.specs.Prelude as Code
use Rattle.std.specs.Prelude.{None, Some}
use Rattle.area.specs.Stages.{Stands}
use Rattle.game.specs.Draws.{Drawn, Mode, Places, Source}
use Rattle.supplies.specs.declared.Supply.{Supply}
use Rattle.supplies.specs.Origins.{Origin, Reads, source_of}
use Rattle.game.specs.Grid.{Grid}
use Rattle.game.specs.Moves.{Move, after, word}
use Rattle.game.specs.Openings.{three_bv}
use Rattle.game.specs.Position.{Position, Tidy, closed_safe, closed_units, untouched}
use Rattle.game.specs.Rounds.{Round, Step, after_step, before, choice, moves_of, random_from, random_round, step_of, width}
use Rattle.random.specs.Promises.{Rolling, Stepping, Went}
use Rattle.moves.specs.Promises.{Made}
use Rattle.rounds.specs.Promises.{Fresh}
use Rattle.area.proofs.Cells.{cells_few}
use Rattle.game.proofs.Randoms.{by_draw, drawn_fits, draws_none, draws_on}
use Rattle.game.proofs.Rounds.{all_done, safe_left}
use Rattle.game.proofs.Runs.{Fits, moves_append}
use Rattle.game.proofs.Tidy.{untouched_tidy}
use Rattle.game.proofs.Narrow.{after_append}
use Rattle.game.proofs.Units.{units_at_most_cells, units_untouched}
use Rattle.moves.proofs.Partway.{Partway, partway_begins, partway_falls, partway_goes_on, partway_more}
use Rattle.supplies.proofs.Standing.{at_used}

-- ---- the list past what was written

sets_past : (xs l : List ℕ) (i k : ℕ) → i + length xs ≤ k → get_or (sets l i xs) k 0 ≡ get_or l k 0
sets_past [] l i k h = refl
sets_past (x ∷ xs) l i k h = sets_past xs (set l i x) (suc i) k (omega arith) ∙ get_or-set_other l i k x 0 (λ e. absurd (omega arith))

-- ---- the steps by their definition

-- steps before the rest of their round
abbrev ahead : List Step → Option Round → Option Round
ahead ts none = none
ahead ts (some r) = some (record { steps = ts ++ r.steps; next = r.next })

ahead_before : (ts : List Step) (t : Step) (o : Option Round) → ahead ts (before t o) ≡ ahead (ts ++ t ∷ []) o
ahead_before ts t none = refl
ahead_before ts t (some r) = ap (λ (us : List Step). some (record { steps = us; next = r.next })) (sym (append_assoc ts (t ∷ []) r.steps))

ahead_none : (o : Option Round) → o ≡ ahead [] o
ahead_none none = refl
ahead_none (some r) = refl

moves_one : (ts : List Step) (t : Step) → moves_of (ts ++ t ∷ []) ≡ moves_of ts ++ t.moves
moves_one ts t = moves_append ts (t ∷ []) ∙ ap (λ (ms : List Move). moves_of ts ++ ms) (append-nil t.moves)

-- ---- under way

-- the steps that the moves done are, and k steps at most that are still to come, from the place of the next draw on
pub record Left (g : Grid) (source : Source) (at next : ℕ) (done : List Move) (k : ℕ) : Type 0 where
  pub steps : List Step
  pub moves_are : done ≡ moves_of steps
  pub all : random_round g source at ≡ ahead steps (random_from k g source (after g (untouched g) done) next)

-- before any step
abbrev pub fresh : ℕ → State
fresh units = record { moves = 0; units = units }

-- the steps so far, and the supply, at the place of the next draw
pub record Course (rows columns : ℕ) (g : Grid) (old : List ℤ) (origin : Origin) (source : Source) (units at : ℕ) (list : List ℕ) (w' : List ℤ) (list' : List ℕ) (t' : State) (rest : Supply) : Type 0 where
  pub way : Partway rows columns g (untouched g) old list (fresh units) (Left g source at rest.used) w' list' t'
  pub reads : Reads origin rest.used rest

-- the units are few
pub units_few : (rows columns : ℕ) (w : List ℤ) (units : ℕ) → Fresh rows columns w units → units ≤ 65025
units_few rows columns w units f =
    omega (arith, f.counts, units_at_most_cells f.grid, cells_few rows columns f.stands.shape, ap₂ ◌*◌ f.stands.rows_are f.stands.columns_are)

-- whatever grid of so many units the area stood for, and wherever the supply stood
pub record RoundMidway (rows columns : ℕ) (w : List ℤ) (mode : Mode) (bytes : List ℕ) (units : ℕ) (supply : Supply) (list : List ℕ) (w' : List ℤ) (list' : List ℕ) (t' : State) (rest : Supply) : Type 0 where
  pub course : (g : Grid) (old : List ℤ) (origin : Origin) (at : ℕ) → Stands rows columns g (untouched g) old w → units ≡ three_bv g → Reads origin at supply
      → Course rows columns g old origin (source_of mode bytes origin) units at list w' list' t' rest

pub midway_begins : (rows columns : ℕ) (w : List ℤ) (mode : Mode) (bytes : List ℕ) (units : ℕ) (supply : Supply) (list : List ℕ)
    → RoundMidway rows columns w mode bytes units supply list w list (fresh units) supply
unfolding random_round
midway_begins rows columns w mode bytes units supply list =
    record {
      course = λ g old origin at st counts d.
          let source = source_of mode bytes origin in
          record {
            way = partway_begins rows columns g (untouched g) old list (fresh units) (Left g source at supply.used) w (three_bv g) st (untouched_tidy g)
                (counts ∙ sym (units_untouched g))
                (omega (arith, units_untouched g))
                (record {
                  steps = [];
                  moves_are = refl;
                  all = ap (random_from (three_bv g) g source (untouched g)) (sym d.used_is) ∙ ahead_none (random_from (three_bv g) g source (untouched g) supply.used);
                });
            reads = at_used origin at supply d;
          };
    }

module _ (rows columns : ℕ) (g : Grid) (old : List ℤ) (origin : Origin) (source : Source) (units at : ℕ) (list : List ℕ) (v : List ℤ) (l : List ℕ) (u : State) (rest : Supply)
    (c : Course rows columns g old origin source units at list v l u rest) where
  abbrev o : Partway rows columns g (untouched g) old list (fresh units) (Left g source at rest.used) v l u
  o = c.way

  abbrev here : Position
  here = after g (untouched g) o.done

  -- no unit is closed
  pub course_ends : u.units ≡ 0 → Rolling rows columns g old origin (random_round g source at) list v l (Some (record { clicks = u.moves; supply = rest }))
  course_ends z =
      let k = o.rest in
      let e = draws_none o.left_over g source here rest.used (all_done g here o.made.tidy (omega (arith, o.made.left_units))) in
      let m : u.moves ≡ length (moves_of k.steps) = omega (arith, o.made.clicks, ap (λ (ms : List Move). length ms) k.moves_are) in
      subst (λ (x : Option Round). Rolling rows columns g old origin x list v l (Some (record { clicks = u.moves; supply = rest })))
      (sym (k.all ∙ ap (ahead k.steps) e ∙ ap (λ (ts : List Step). some (record { steps = ts; next = rest.used })) (append-nil k.steps)))
      (record {
        supply = rest;
        answer = ap (λ (n : ℕ). Some (record { clicks = n; supply = rest })) m;
        reads = c.reads;
        stands = subst (λ (ms : List Move). Stands rows columns g (after g (untouched g) ms) old v) k.moves_are o.made.stands;
        none_left = ap (λ (ms : List Move). closed_units g (after g (untouched g) ms)) (sym k.moves_are) ∙ sym o.made.left_units ∙ z;
        noted = o.made.noted ∙ ap (λ (ms : List Move). sets list 0 (map word ms)) k.moves_are;
      })

  module _ (w' : List ℤ) (list' : List ℕ) (r : Code.Option Onward) (h : 0 < u.units)
      (q : (s : Position) (next : ℕ) → Stands rows columns g s old v → Tidy g s → 1 ≤ closed_units g s → u.units ≡ closed_units g s → Reads origin next rest
      → Stepping rows columns g s old origin (source next (width (choice false g s))) l u v w' list' r) where
    some_closed : 1 ≤ closed_units g here
    some_closed = omega (arith, o.made.left_units)

    some_safe : 1 ≤ closed_safe g here
    some_safe = safe_left g here o.made.tidy some_closed

    came : Stepping rows columns g here old origin (source rest.used (width (choice false g here))) l u v w' list' r
    came = q here rest.used o.made.stands o.made.tidy some_closed o.made.left_units c.reads

    -- the draws ran dry
    pub course_breaks : r ≡ None → Rolling rows columns g old origin (random_round g source at) list w' list' None
    course_breaks y = go (source rest.used (width (choice false g here))) refl came
      where
        go : (x : Option Drawn) → source rest.used (width (choice false g here)) ≡ x → Stepping rows columns g here old origin x l u v w' list' r
            → Rolling rows columns g old origin (random_round g source at) list w' list' None
        go none e k =
            let n = partway_more rows columns g (untouched g) old list (fresh units) (Left g source at rest.used) v l u o some_closed in
            let f = k.same-list ∙ o.made.noted in
            subst (λ (x : Option Round). Rolling rows columns g old origin x list w' list' None)
            (sym (n.1.all ∙ ap (ahead n.1.steps) (draws_on n.0 g source here rest.used some_safe ∙ ap (by_draw n.0 g source here) e)))
            (record {
              answer = refl;
              position = here;
              stands = rw k.same-work o.made.stands;
              long = ap (λ (x : List ℕ). length x) f ∙ length-sets list 0 (map word o.done);
              past = λ i m. ap (λ (x : List ℕ). get_or x i 0) f
                  ∙ sets_past (map word o.done) list 0 i (omega (arith, length-map o.done word, o.few, units_untouched g, units_at_most_cells g));
            })
        go (some d) e k = let z : ◌≡◌ {A = ℕ} 0 1 = cc (k.answer, y) in absurd (omega arith)

    -- the step went
    module _ (p : Places source) (t' : Onward) (y : r ≡ Some t') where
      drew : (d : Drawn) × (source rest.used (width (choice false g here)) ≡ some d)
          × Went rows columns g here old origin (step_of g here (choice false g here) d.place).moves d.next l u w' list' r
      drew = go (source rest.used (width (choice false g here))) refl came
        where
          go : (x : Option Drawn) → source rest.used (width (choice false g here)) ≡ x → Stepping rows columns g here old origin x l u v w' list' r
              → (d : Drawn) × (source rest.used (width (choice false g here)) ≡ some d)
              × Went rows columns g here old origin (step_of g here (choice false g here) d.place).moves d.next l u w' list' r
          go none e k = let z : ◌≡◌ {A = ℕ} 0 1 = cc (k.answer, y) in absurd (omega arith)
          go (some d) e k = (d, e, k)

      abbrev step : Step
      step = step_of g here (choice false g here) drew.0.place

      fits : Fits g here step
      fits = drawn_fits g source p here rest.used drew.0 o.made.tidy some_safe drew.1

      -- what it handed on is the state after it, and the supply where its draw left off
      went : Made rows columns g here old step.moves l u w' list' t'.state × Reads origin drew.0.next t'.supply
      went =
          let k : record { state = drew.2.state; supply = drew.2.supply } ≡ t' = cc (drew.2.answer, y) in (
            subst (λ (z : Onward). Made rows columns g here old step.moves l u w' list' z.state) k drew.2.made,
            subst (λ (z : Onward). Reads origin drew.0.next z.supply) k drew.2.reads,
          )

      pub course_falls : t'.state.units < u.units
      course_falls = partway_falls rows columns g (untouched g) old list (fresh units) (Left g source at rest.used) v l u o step fits w' list' t'.state went.0

      pub course_goes_on : Course rows columns g old origin source units at list w' list' t'.state t'.supply
      course_goes_on =
          record {
            way = partway_goes_on rows columns g (untouched g) old list (fresh units) (Left g source at rest.used) v l u o step fits w' list' t'.state went.0 (Left g source at t'.supply.used) (λ k c.
                record {
                  steps = c.steps ++ step ∷ [];
                  moves_are = ap (λ (ms : List Move). ms ++ step.moves) c.moves_are ∙ sym (moves_one c.steps step);
                  all = c.all ∙ ap (ahead c.steps) (draws_on k g source here rest.used some_safe ∙ ap (by_draw k g source here) drew.1)
                      ∙ ahead_before c.steps step (random_from k g source (after_step g here step) drew.0.next)
                      ∙ ap₂ (λ x j. ahead (c.steps ++ step ∷ []) (random_from k g source x j)) (sym (after_append g o.done step.moves (untouched g))) (sym went.1.used_is);
                });
            reads = at_used origin drew.0.next t'.supply went.1;
          }
