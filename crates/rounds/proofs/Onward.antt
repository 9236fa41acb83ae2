-- Steps by the lowest index, one after the other: those made so far, and those still to come from the position that they came to. Assumes nothing.
use Prim.Native.Nat.{ℕ, ◌<◌, ◌≤◌}
use native.Mathlib.Omega.{arith}
use mathlib.Core.Path.{◌∙◌, ◌≡◌, ap, refl, subst, sym}
use mathlib.Core.Bool.{Bool}
use mathlib.Core.List.{List, ◌++◌, append_assoc, append-nil}
use lib.IntN.{ℤ}
use Rattle.moves.specs.declared.State.{State}
use Rattle.area.specs.Stages.{Stands}
use Rattle.game.specs.Grid.{Grid}
use Rattle.game.specs.Moves.{Move, after}
use Rattle.game.specs.Position.{Position, Tidy, closed_safe, closed_units}
use Rattle.game.specs.Rounds.{Step, after_step, choice, moves_of, step_of, steps_from}
use Rattle.moves.specs.Promises.{Made}
use Rattle.rounds.specs.Promises.{Going}
use Rattle.game.proofs.Choices.{never_stuck}
use Rattle.game.proofs.Rounds.{all_done, safe_left, steps_none, steps-on}
use Rattle.game.proofs.Runs.{Fits, choice_fits}
use Rattle.game.proofs.Narrow.{after_append}
use Rattle.moves.proofs.Partway.{Partway, partway_begins, partway_falls, partway_goes_on}

-- one step was made, whatever tidy position w stood for
abbrev pub Stepping : Bool → (rows columns : ℕ) → List ℤ → List ℕ → State → List ℤ → List ℕ → State → Type 0
Stepping openedOnly rows columns w list t w' list' t' =
    (g : Grid) (s : Position) (old : List ℤ) → Stands rows columns g s old w → Tidy g s → 1 ≤ closed_units g s → t.units ≡ closed_units g s
    → Made rows columns g s old (step_of g s (choice openedOnly g s) 0).moves list t w' list' t'

-- the moves of n steps at most are those done, and those of k steps at most that are still to come
pub record Left (openedOnly : Bool) (g : Grid) (s : Position) (n : ℕ) (done : List Move) (k : ℕ) : Type 0 where
  pub all : moves_of (steps_from n openedOnly g s) ≡ done ++ moves_of (steps_from k openedOnly g (after g s done))

-- whatever tidy position the steps began with
pub record StepsMidway (openedOnly : Bool) (rows columns : ℕ) (w : List ℤ) (list : List ℕ) (t : State) (w' : List ℤ) (list' : List ℕ) (t' : State) : Type 0 where
  pub partway : (g : Grid) (s : Position) (old : List ℤ) (n : ℕ) → Stands rows columns g s old w → Tidy g s → t.units ≡ closed_units g s → closed_units g s ≤ n
      → Partway rows columns g s old list t (Left openedOnly g s n) w' list' t'

module _ (openedOnly : Bool) (rows columns : ℕ) (w : List ℤ) (list : List ℕ) (t : State) where
  pub midway_begins : StepsMidway openedOnly rows columns w list t w list t
  midway_begins =
      record { partway = λ g s old n st f e k. partway_begins rows columns g s old list t (Left openedOnly g s n) w n st f e k (record { all = refl }) }

  module _ (v : List ℤ) (l : List ℕ) (u : State) (m : StepsMidway openedOnly rows columns w list t v l u) where
    -- the way from the position that w is known to stand for
    pub known : (o : Going rows columns w t) → Partway rows columns o.grid o.position o.old list t (Left openedOnly o.grid o.position (closed_units o.grid o.position)) v l u
    known o = m.partway o.grid o.position o.old (closed_units o.grid o.position) o.stands o.tidy o.counts (omega arith)

    pub midway_ends : u.units ≡ 0 → (g : Grid) (s : Position) (old : List ℤ) (n : ℕ) → Stands rows columns g s old w → Tidy g s → t.units ≡ closed_units g s → closed_units g s ≤ n
        → Made rows columns g s old (moves_of (steps_from n openedOnly g s)) list t v l u
    midway_ends z g s old n st f e k =
        let o = m.partway g s old n st f e k in
        let y = steps_none o.left_over openedOnly g (after g s o.done) (all_done g (after g s o.done) o.made.tidy (omega (arith, o.made.left_units))) in
        subst (λ (ms : List Move). Made rows columns g s old ms list t v l u)
        (sym (o.rest.all ∙ ap (λ (ts : List Step). o.done ++ moves_of ts) y ∙ append-nil o.done)) o.made

    module _ (w' : List ℤ) (list' : List ℕ) (t' : State) (q : Stepping openedOnly rows columns v l u w' list' t') (h : 0 < u.units) where
      module _ (g : Grid) (s : Position) (old : List ℤ) (n : ℕ) (o : Partway rows columns g s old list t (Left openedOnly g s n) v l u) where
        abbrev here : Position
        here = after g s o.done

        some_closed : 1 ≤ closed_units g here
        some_closed = omega (arith, o.made.left_units)

        some_safe : 1 ≤ closed_safe g here
        some_safe = safe_left g here o.made.tidy some_closed

        abbrev next : Step
        next = step_of g here (choice openedOnly g here) 0

        fits : Fits g here next
        fits = choice_fits openedOnly g here 0 (never_stuck openedOnly g here o.made.tidy some_safe)

        stepped : Made rows columns g here old next.moves l u w' list' t'
        stepped = q g here old o.made.stands o.made.tidy some_closed o.made.left_units

        falls : t'.units < u.units
        falls = partway_falls rows columns g s old list t (Left openedOnly g s n) v l u o next fits w' list' t' stepped

        onward : Partway rows columns g s old list t (Left openedOnly g s n) w' list' t'
        onward =
            partway_goes_on rows columns g s old list t (Left openedOnly g s n) v l u o next fits w' list' t' stepped (Left openedOnly g s n) (λ k r.
            record {
              all = r.all ∙ ap (λ (ts : List Step). o.done ++ moves_of ts) (steps-on k openedOnly g here some_safe)
                  ∙ sym (append_assoc o.done next.moves (moves_of (steps_from k openedOnly g (after_step g here next))))
                  ∙ ap (λ (y : Position). (o.done ++ next.moves) ++ moves_of (steps_from k openedOnly g y)) (sym (after_append g o.done next.moves s));
            })

      pub units_fall : Going rows columns w t → t'.units < u.units
      units_fall o = falls o.grid o.position o.old (closed_units o.grid o.position) (known o)

      pub midway_goes_on : StepsMidway openedOnly rows columns w list t w' list' t'
      midway_goes_on = record { partway = λ g s old n st f e k. onward g s old n (m.partway g s old n st f e k) }
