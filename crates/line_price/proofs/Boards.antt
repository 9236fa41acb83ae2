-- What a board line that was read is priced at: its refusal, or the figures of the grid at the start of the lent run. Assumes nothing.
use Prim.Native.Nat.{ℕ, ◌*◌, ◌≤◌}
use mathlib.Core.Path.{◌≡◌, ap, subst, sym, ◌∙◌}
use mathlib.Core.List.{List, [], ◌∷◌}
use mathlib.Core.Option.{Option, none, some}
use lib.IntN.{ℤ}
use lib.ListN.{length, take}
use Rattle.game.specs.Grid.{Grid}
use Rattle.game.specs.Calls.{Refusal, gives, refuses}
use Rattle.area.specs.Numbers.{grid_of}
use Rattle.lines.specs.BoardLine.{board_line_call, line_grid}
use Rattle.lines.specs.Answers.{KeepsGrid}
use Rattle.lines.proofs.LineRead.{accepted, refused_so, same-grid}
use Rattle.lines.proofs.Verdict.{length_values, passed}
use Rattle.line_price.specs.Taken.{Taken}
use Rattle.line_price.specs.Prices.{price_of, price_or}

module _ (line : List ℕ) (lent : List ℤ) (room : 2048 ≤ length lent) where
  pub line_refused : (f : Refusal) → refuses f ≡ (board_line_call line lent).answer → (g : Grid) → price_or (some f) g ≡ price_of line
  unfolding price_of
  line_refused f a g =
      refused_so line lent room (λ (o : Option Refusal). price_or (some f) g ≡ price_or o (line_grid line)) f a
      (λ f' e. ap (λ (n : ℕ). record { number = n; units = 0; greedy = 0; openings-first = 0 }) e)

  module _ (rows columns : ℕ) (values : List ℤ) (k : KeepsGrid (board_line_call line lent) (gives (rows ∷ columns ∷ [])) values) where
    pub line_taken : Taken rows columns (take (rows * columns) values)
    line_taken =
        let p = passed line (accepted line lent room rows columns values k) in
        subst (λ (g : Grid). Taken g.rows g.columns g.values) (sym (same-grid line lent room rows columns values k))
        (record {
          shaped = record { some_rows = p.some_rows; few_rows = p.few_rows; some_columns = p.some_columns; few_columns = p.few_columns };
          few = p.few;
          whole = length_values line;
        })

    pub line_priced : price_or none (grid_of rows columns (take (rows * columns) values)) ≡ price_of line
    unfolding price_of
    line_priced = ap (price_or none) (same-grid line lent room rows columns values k) ∙ ap (λ (o : Option Refusal). price_or o (line_grid line)) (sym (accepted line lent room rows columns values k))
