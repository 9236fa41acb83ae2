-- What a call comes to that writes into one lent run, by the verdict of its checks. Assumes nothing.
use Prim.Native.Nat.{ℕ}
use mathlib.Core.Path.{◌≡◌, ap, ◌∙◌}
use mathlib.Core.List.{List}
use mathlib.Core.Option.{Option, none, some}
use lib.IntN.{ℤ}
use Rattle.game.specs.Calls.{Answer, Refusal, refuses}
use Rattle.lines.specs.BoardLine.{GridOutcome, unless_refused}
use Rattle.lines.specs.Answers.{KeepsGrid}
use Rattle.lines.specs.Outputs.{KeepsRun, RunOutcome, unless_given}

-- a run of bytes or words
module _ (o : Option Refusal) (lent : List ℕ) (x : RunOutcome) where
  pub run_refused : (f : Refusal) → some f ≡ o → KeepsRun (unless_given o lent x) (refuses f) lent
  run_refused f e =
      record {
        answers = ap (λ (v : Option Refusal). (unless_given v lent x).answer) e;
        leaves = ap (λ (v : Option Refusal). (unless_given v lent x).run) e;
      }

  pub run_else : (a : Answer) (run : List ℕ) → none ≡ o → a ≡ x.answer → run ≡ x.run → KeepsRun (unless_given o lent x) a run
  run_else a run e f g =
      record {
        answers = f ∙ ap (λ (v : Option Refusal). (unless_given v lent x).answer) e;
        leaves = g ∙ ap (λ (v : Option Refusal). (unless_given v lent x).run) e;
      }

-- a run of values
module _ (o : Option Refusal) (lent : List ℤ) (x : GridOutcome) where
  pub grid_refused : (f : Refusal) → some f ≡ o → KeepsGrid (unless_refused o lent x) (refuses f) lent
  grid_refused f e =
      record {
        answers = ap (λ (v : Option Refusal). (unless_refused v lent x).answer) e;
        leaves = ap (λ (v : Option Refusal). (unless_refused v lent x).values) e;
      }

  pub grid_else : (a : Answer) (values : List ℤ) → none ≡ o → a ≡ x.answer → values ≡ x.values → KeepsGrid (unless_refused o lent x) a values
  grid_else a values e f g =
      record {
        answers = f ∙ ap (λ (v : Option Refusal). (unless_refused v lent x).answer) e;
        leaves = g ∙ ap (λ (v : Option Refusal). (unless_refused v lent x).values) e;
      }
