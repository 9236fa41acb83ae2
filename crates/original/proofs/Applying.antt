-- apply_zini takes the step at the lowest index. Assumes nothing.
use Prim.Native.Nat.{ℕ, ◌+◌, ◌≤◌}
use native.Mathlib.Omega.{arith}
use mathlib.Core.Path.{◌∙◌, ◌≡◌, ap, ap₂, refl}
use mathlib.Core.Bool.{Bool}
use mathlib.Core.List.{List, [], ◌∷◌}
use mathlib.Core.Option.{Option, none, some}
use lib.IntN.{negsuc}
use lib.ListN.{length}
use Rattle.game.specs.Grid.{Grid, cells}
use Rattle.game.specs.Lists.{fold, range}
use Rattle.game.specs.Position.{Position, Tidy, closed_safe}
use Rattle.game.specs.Rounds.{Step, after_step, choice, chords, clicks, step_of, top_cells, unit_cells, width}
use Rattle.original.specs.Play.{State, click}
use Rattle.original.specs.Rounds.{apply_zini, better, first_fall, play_at}
use Rattle.game.proofs.Choices.{looked→, never_stuck, top→, unit→}
use Rattle.game.proofs.Members.{has_head}
use Rattle.game.proofs.Squares.{cells→}
use Rattle.original.proofs.Positions.{Models}
use Rattle.original.proofs.Scans.{head_of}
use Rattle.original.proofs.Turns.{click_stands, turn_stands}
use Rattle.original.proofs.Choosing.{best_first, first_unit}

module _ (human : Bool) (g : Grid) (s : Position) (n : ℕ) (st : State) (w : Models g s n st) where
  -- what a step comes to
  pub record Applies (t : Step) : Type 0 where
    pub done : State
    pub is_some : apply_zini g.rows human st ≡ some done
    pub stands : Models g (after_step g s t) (n + length t.moves) done

  -- while a safe cell is closed it takes the step at the lowest index
  pub applies : Tidy g s → 1 ≤ closed_safe g s → Applies (step_of g s (choice human g s) 0)
  unfolding apply_zini choice unit_cells
  applies f c = go (top_cells human g s) (unit_cells g s) refl refl (never_stuck human g s f c)
    where
      by : Option ℕ → Option ℕ → Option State
      by a b =
          elim a [
            | some i ↦ some (play_at g.rows st i)
            | none ↦ elim b [ some i ↦ some (click g.rows st i) | none ↦ none ]
          ]

      finds : apply_zini g.rows human st ≡ by (head_of (top_cells human g s)) (head_of (unit_cells g s))
      finds =
          ap (λ (l : ℕ). by (fold (better human st.cells) (record { maxp = negsuc 0; curi = none }) (range 0 l)).curi (first_fall st.cells (range 0 l))) w.board.long
          ∙ ap₂ by (best_first human g s n st w) (first_unit human g s n st w f (cells g) (cells→ g))

      go : (ts us : List ℕ) → top_cells human g s ≡ ts → unit_cells g s ≡ us → 1 ≤ width (elim ts [ [] ↦ clicks us | x ∷ xs ↦ chords (x ∷ xs) ])
          → Applies (step_of g s (elim ts [ [] ↦ clicks us | x ∷ xs ↦ chords (x ∷ xs) ]) 0)
      go [] [] e d l = absurd (omega arith)
      go [] (u ∷ us) e d l =
          let v = unit→ g s u (rw d (has_head u u us refl)) in
          record {
            done = click g.rows st u;
            is_some = finds ∙ ap₂ (λ a b. by (head_of a) (head_of b)) e d;
            stands = click_stands g s n st u v.inside v.is_safe f w;
          }
      go (x ∷ xs) us e d l =
          let v = looked→ human g s x (top→ human g s x (rw e (has_head x x xs refl))).is_looked in
          record {
            done = play_at g.rows st x;
            is_some = finds ∙ ap₂ (λ a b. by (head_of a) (head_of b)) e d;
            stands = turn_stands g s n st x v.0 v.1 f w;
          }
