-- `start::begin::settle`: cell by cell. Assumes nothing.
use Prim.Native.Nat.{ℕ}
use mathlib.Core.Path.{ap, sym, ◌∙◌}
use mathlib.Core.List.{List}
use lib.IntN.{ℤ}
use Rattle.game.specs.Lists.{fold, range}
use Rattle.start.specs.Passes.{settle_cell}
use Rattle.start.proofs.Settled.{settled_all}
use Rattle.start.proofs.begin.settle.Goals as goal

pub returns : goal.returns
returns c =
    λ g s old e room q.
    c.settle_cells.ensures ∙ ap (λ (w : List ℤ). fold settle_cell w (range 0 c.args.cells)) q
    ∙ ap (λ (n : ℕ). fold settle_cell (Rattle.area.specs.Stages.held g s old) (range 0 n)) (sym e) ∙ settled_all g s old room
