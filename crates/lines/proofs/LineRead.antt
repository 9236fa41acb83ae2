-- A board line that was read into a run of 2,048 values or more: no check refused it, and its grid stands at the start of the run. Assumes nothing.
use Prim.Native.Nat.{ℕ, ◌*◌, ◌≤◌}
use native.Mathlib.Omega.{arith}
use mathlib.Core.Path.{◌≡◌, ap, refl, sym, ◌∙◌}
use mathlib.Core.List.{List, [], ◌∷◌}
use mathlib.Core.Option.{Option, none, some}
use lib.IntN.{ℤ}
use lib.ListN.{drop, get_or, length, length-take, take}
use lib.Seq.{take_at}
use Rattle.game.specs.Grid.{Grid, size}
use Rattle.game.specs.Area.{begun}
use Rattle.game.specs.Calls.{Answer, Refusal, gives, number_of, refuses}
use Rattle.game.proofs.Checks.{numbered}
use Rattle.std.specs.Prelude.{Result, Ok, Err}
use Rattle.refusals.specs.Names.{answer_of, named}
use Rattle.refusals.specs.declared.Refusal as Refused
use Rattle.lines.specs.BoardLine.{board_line_call, line_grid, line_refusal}
use Rattle.lines.specs.Answers.{KeepsGrid}
use Rattle.lines.proofs.Calls.{board_read, board_refused}
use Rattle.lines.proofs.Verdict.{length_values, passed}

-- a refusal is no answer with values
pub no_refusal : (f : Refusal) (n : ℕ) (ns : List ℕ) → refuses f ≡ gives (n ∷ ns) → ⊥
no_refusal f n ns e = omega (arith, numbered f, ap (λ (a : Answer). a.number) e)

-- an answer of one value is given
pub given_one : (r : Result ℕ Refused.Refusal) (n : ℕ) → answer_of (λ (k : ℕ). k ∷ []) r ≡ gives (n ∷ []) → r ≡ Ok n
given_one (Ok m) n e = ap (λ (a : Answer). Ok (get_or a.values 0 0)) e
given_one (Err f) n e = absurd (no_refusal (named f) n [] e)

module _ (line : List ℕ) (lent : List ℤ) (room : 2048 ≤ length lent) where
  -- a line that no check refuses is read
  reads : line_refusal line ≡ none → KeepsGrid (board_line_call line lent) (gives ((line_grid line).rows ∷ (line_grid line).columns ∷ [])) (begun (line_grid line).values lent)
  reads e = board_read line lent (begun (line_grid line).values lent) (line_grid line).rows (line_grid line).columns e (omega (arith, (passed line e).few)) refl refl refl

  -- a refusal that was answered is that of the checks, by its number
  pub refused_so : (P : Option Refusal → Type 0) (f : Refusal) → refuses f ≡ (board_line_call line lent).answer → ((f' : Refusal) → number_of f ≡ number_of f' → P (some f')) → P (line_refusal line)
  refused_so P f a h = go (line_refusal line) refl
    where
      go : (o : Option Refusal) → line_refusal line ≡ o → P o
      go none e = absurd (no_refusal f (line_grid line).rows ((line_grid line).columns ∷ []) (a ∙ sym (reads e).answers))
      go (some f') e = h f' (ap (λ (x : Answer). x.number) (a ∙ sym (board_refused line lent f' (sym e)).answers))

  module _ (rows columns : ℕ) (values : List ℤ) (k : KeepsGrid (board_line_call line lent) (gives (rows ∷ columns ∷ [])) values) where
    -- a line that was read is refused by no check
    pub accepted : line_refusal line ≡ none
    accepted = go (line_refusal line) refl
      where
        go : (o : Option Refusal) → line_refusal line ≡ o → o ≡ none
        go none e = refl
        go (some f) e = absurd (no_refusal f rows (columns ∷ []) ((board_refused line lent f (sym e)).answers ∙ sym k.answers))

    -- the grid at the start of the run
    abbrev front : Grid
    front = record { rows = rows; columns = columns; values = take (rows * columns) values }

    -- it is the line's
    pub same-grid : front ≡ line_grid line
    same-grid =
        let sides = k.answers ∙ sym (reads accepted).answers in
        let same_rows : rows ≡ (line_grid line).rows = ap (λ (a : Answer). get_or a.values 0 0) sides in
        let same-columns : columns ≡ (line_grid line).columns = ap (λ (a : Answer). get_or a.values 1 0) sides in
        let same-values : take (size (line_grid line)) values ≡ (line_grid line).values =
        ap (take (size (line_grid line))) (k.leaves ∙ sym (reads accepted).leaves)
        ∙ take_at (line_grid line).values (drop (length (line_grid line).values) lent) (size (line_grid line)) (length_values line) in
        (λ i. record { rows = same_rows i; columns = same-columns i; values = take (same_rows i * same-columns i) values })
        ∙ ap (λ (vs : List ℤ). record { rows = (line_grid line).rows; columns = (line_grid line).columns; values = vs }) same-values

    -- there are values for its cells
    pub enough_values : rows * columns ≤ length values
    enough_values = omega (arith, ap (λ (g : Grid). size g) same-grid, ap (λ (g : Grid). length g.values) same-grid, length_values line, length-take (rows * columns) values)
