-- `choices::known::best`: the first column of highest premium has the lowest of the cells that have it, if there is one. Assumes nothing.
use Prim.Native.Nat.{ℕ, ◌*◌, ◌+◌, ◌<◌, ◌≤◌}
use mathlib.Core.Path.{◌∙◌, ◌≡◌, ap, subst}
use mathlib.Core.Bool.{Bool}
use mathlib.Core.List.{List}
use lib.IntN.{ℤ}
use lib.ListN.{get_or}
use Rattle.area.specs.Stages.{Stands}
use Rattle.game.specs.Grid.{Grid}
use Rattle.game.specs.Lists.{keep, range}
use Rattle.game.specs.Position.{Position}
use Rattle.game.specs.Rounds.{top_cells}
use Rattle.choices.specs.Picks.{found_first}
use Rattle.choices.specs.Tests.{top_at}
use Rattle.choices.specs.Tops.{first_of}
use Rattle.choices.specs.declared.Best.{Best}
use Rattle.std.specs.Prelude.{Some, None}
use Rattle.choices.proofs.Tops.{best_found, best_none}
use Rattle.choices.proofs.known.best.Goals as goal

module _ (openedOnly : Bool) (w : List ℤ) (rows columns : ℕ) (first : Best) (e : first ≡ first_of openedOnly w rows columns columns)
    (g : Grid) (s : Position) (old : List ℤ) (t : Stands rows columns g s old w) where
  no_column : columns ≤ first.at → None ≡ found_first (top_cells openedOnly g s)
  no_column h = best_none openedOnly rows columns g s old w t (subst (λ (b : Best). columns ≤ b.at) e h)

  in-column : (found : ℕ) → first.at < columns → found ≡ get_or (keep (top_at openedOnly first.top w) (range (first.at * rows) (first.at * rows + rows))) 0 0
      → Some found ≡ found_first (top_cells openedOnly g s)
  in-column found h q =
      ap Some (q ∙ ap (λ (b : Best). get_or (keep (top_at openedOnly b.top w) (range (b.at * rows) (b.at * rows + rows))) 0 0) e)
      ∙ best_found openedOnly rows columns g s old w t (subst (λ (b : Best). b.at < columns) e h)

pub returns-then-column-columns-clause-value : goal.returns-then-column-columns-clause-value
returns-then-column-columns-clause-value c =
    let a = c.args in
    λ g s old t. no_column a.opened_only a.work.now a.rows a.columns c.first_column-first.result c.first_column-first.ensures.value g s old t c.if-column-columns.true

pub returns-clause-value : goal.returns-clause-value
returns-clause-value c =
    let a = c.args in
    λ g s old t. in-column a.opened_only a.work.now a.rows a.columns c.first_column-first.result c.first_column-first.ensures.value g s old t c.first_row.result c.if-column-columns.false c.first_row.ensures
