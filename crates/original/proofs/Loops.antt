-- zinialg's loop takes the defined steps, one turn each, until all safe cells are open; both bounds on the turns suffice. Assumes nothing.
use Prim.Native.Nat.{ℕ, ◌+◌, ◌≤◌, suc, zero}
use native.Mathlib.Omega.{arith}
use native.Mathlib.Nat.{add-zero}
use mathlib.Core.Path.{◌∙◌, ◌≡◌, ap, ap₂, refl, sym}
use mathlib.Core.Bool.{Bool, false, true}
use mathlib.Core.List.{List, [], ◌∷◌}
use mathlib.Core.Option.{Option, none, some}
use lib.Dec.{ltb}
use lib.ListN.{length, length-append}
use Rattle.game.specs.Grid.{Grid, cells, mine}
use Rattle.game.specs.Lists.{count}
use Rattle.game.specs.Position.{Position, Tidy, closed_safe, closed_units}
use Rattle.game.specs.Rounds.{Step, after_step, choice, moves_of, step_of, steps_from}
use Rattle.original.specs.Play.{State}
use Rattle.original.specs.Rounds.{apply_zini, zini_loop}
use Rattle.game.proofs.Choices.{never_stuck}
use Rattle.game.proofs.Rounds.{all_done, steps_none}
use Rattle.game.proofs.Runs.{choice_fits, fit_takes, step_tidy}
use Rattle.original.proofs.Applying.{applies}
use Rattle.original.proofs.Positions.{Models}
use Rattle.original.proofs.CellsLeft.{cells_left}

-- ---- the loop

loop-stops : (fuel : ℕ) (human : Bool) (g : Grid) (s : Position) (n : ℕ) (st : State) → Models g s n st → closed_safe g s ≡ 0
    → (zini_loop fuel g.rows human (count (mine g) (cells g)) st).zini ≡ n
loop-stops zero human g s n st w e = w.clicks
loop-stops (suc fuel) human g s n st w e = ap (λ (b : Bool). (by b).zini) (cells_left g s n st w 0 e) ∙ w.clicks
  where
    by : Bool → State
    by b = elim b [ true ↦ elim (apply_zini g.rows human st) [ none ↦ st | some d ↦ zini_loop fuel g.rows human (count (mine g) (cells g)) d ] | false ↦ st ]

loop-ends : (fuel m : ℕ) (human : Bool) (g : Grid) (s : Position) (n : ℕ) (st : State) → Models g s n st → closed_safe g s ≡ 0
    → (zini_loop fuel g.rows human (count (mine g) (cells g)) st).zini ≡ n + length (moves_of (steps_from m human g s))
loop-ends fuel m human g s n st w e =
    loop-stops fuel human g s n st w e ∙ sym (ap (λ (ts : List Step). n + length (moves_of ts)) (steps_none m human g s e) ∙ add-zero n)

-- from any position that the state stands for, with as many turns and steps as there are closed units
pub loop-clicks : (fuel m : ℕ) (human : Bool) (g : Grid) (s : Position) (n : ℕ) (st : State) → Models g s n st → Tidy g s → closed_units g s ≤ fuel → closed_units g s ≤ m
    → (zini_loop fuel g.rows human (count (mine g) (cells g)) st).zini ≡ n + length (moves_of (steps_from m human g s))
loop-clicks zero m human g s n st w f h l = loop-ends zero m human g s n st w (all_done g s f h)
loop-clicks (suc fuel) zero human g s n st w f h l = loop-ends (suc fuel) zero human g s n st w (all_done g s f l)
loop-clicks (suc fuel) (suc m) human g s n st w f h l = go (closed_safe g s) refl (λ d a b. loop-clicks fuel m human g (after_step g s t) (n + length t.moves) d a b)
  where
    t : Step
    t = step_of g s (choice human g s) 0

    by : Bool → Option State → State
    by b o = elim b [ true ↦ elim o [ none ↦ st | some d ↦ zini_loop fuel g.rows human (count (mine g) (cells g)) d ] | false ↦ st ]

    go : (k : ℕ) → closed_safe g s ≡ k
        → ((d : State) → Models g (after_step g s t) (n + length t.moves) d → Tidy g (after_step g s t) → closed_units g (after_step g s t) ≤ fuel → closed_units g (after_step g s t) ≤ m
        → (zini_loop fuel g.rows human (count (mine g) (cells g)) d).zini ≡ n + length t.moves + length (moves_of (steps_from m human g (after_step g s t))))
        → (by (ltb (count (mine g) (cells g)) st.closed-cells) (apply_zini g.rows human st)).zini
        ≡ n + length (moves_of (elim k [ zero ↦ [] | suc k ↦ t ∷ steps_from m human g (after_step g s t) ]))
    go zero e r = loop-stops (suc fuel) human g s n st w e ∙ sym (add-zero n)
    go (suc k) e r =
        let a = applies human g s n st w f (omega arith) in
        let p = choice_fits human g s 0 (never_stuck human g s f (omega arith)) in
        let q = fit_takes g s t f p in
        ap₂ (λ b o. (by b o).zini) (cells_left g s n st w (suc k) e) a.is_some
        ∙ r a.done a.stands (step_tidy g s t f p) (omega arith) (omega arith)
        ∙ omega (arith, length-append t.moves (moves_of (steps_from m human g (after_step g s t))))
