-- `record_checks::check_counts`: the refusal by the lengths stands, else the two checks that follow decide. Assumes nothing.
use Prim.Native.Nat.{ℕ, ◌<◌, ◌≤◌}
use mathlib.Core.Path.{◌≡◌, ap, sym, ◌∙◌}
use mathlib.Core.List.{List, ◌++◌}
use mathlib.Core.Option.{Option, none, some}
use borrow.Author.Rules.{rules}
use lib.IntN.{ℤ}
use Rattle.game.specs.Calls.{Refusal, first_given, grid_checks, trace}
use Rattle.game.specs.Grid.{Grid}
use Rattle.area.specs.Numbers.{grid_of}
use Rattle.refusals.specs.Names.{refusal_of}
use Rattle.checks.proofs.More.{enough, first_stands, reaches, too_low}
use Rattle.record_checks.proofs.check_counts.Goals as goal

-- the verdict, by the checks of every call and the two that follow
module _ (g : Grid) (ws : List ℤ) (room words count : ℕ) where
  abbrev all : Option Refusal
  all = first_given (grid_checks g ws ++ (reaches room count trace ++ reaches words count trace))

  first : (f : Refusal) → some f ≡ first_given (grid_checks g ws) → some f ≡ all
  first f e = first_stands (grid_checks g ws) (reaches room count trace ++ reaches words count trace) f e

  module _ (fine : none ≡ first_given (grid_checks g ws)) where
    short_run : room < count → some trace ≡ all
    short_run l = first_stands (grid_checks g ws ++ reaches room count trace) (reaches words count trace) trace (too_low (grid_checks g ws) room count trace fine l)

    short_words : count ≤ room → words < count → some trace ≡ all
    short_words l m = too_low (grid_checks g ws ++ reaches room count trace) words count trace (enough (grid_checks g ws) room count trace fine l) m

    nothing_refused : count ≤ room → count ≤ words → none ≡ all
    nothing_refused l m = enough (grid_checks g ws ++ reaches room count trace) words count trace (enough (grid_checks g ws) room count trace fine l) m

pub returns-in_err-check_lengths : goal.returns-in_err-check_lengths
returns-in_err-check_lengths c = λ vs ws e₁ e₂.
    let a = c.args in
    let told : c.from_residual.result ≡ c.check_lengths.result = search rules in
    ap refusal_of (told ∙ c.in_err-check_lengths.was) ∙ first (grid_of a.rows a.columns vs) ws a.room a.words a.count _ (sym (ap refusal_of c.in_err-check_lengths.was) ∙ c.check_lengths.ensures vs ws e₁ e₂)

pub returns-then-room-count : goal.returns-then-room-count
returns-then-room-count c = λ vs ws e₁ e₂.
    let a = c.args in
    short_run (grid_of a.rows a.columns vs) ws a.room a.words a.count (sym (ap refusal_of c.in_ok-check_lengths.was) ∙ c.check_lengths.ensures vs ws e₁ e₂) c.if-room-count.true

pub returns-then-words-count : goal.returns-then-words-count
returns-then-words-count c = λ vs ws e₁ e₂.
    let a = c.args in
    short_words (grid_of a.rows a.columns vs) ws a.room a.words a.count (sym (ap refusal_of c.in_ok-check_lengths.was) ∙ c.check_lengths.ensures vs ws e₁ e₂) c.if-room-count.false c.if-words-count.true

pub returns : goal.returns
returns c = λ vs ws e₁ e₂.
    let a = c.args in
    nothing_refused (grid_of a.rows a.columns vs) ws a.room a.words a.count (sym (ap refusal_of c.in_ok-check_lengths.was) ∙ c.check_lengths.ensures vs ws e₁ e₂) c.if-room-count.false c.if-words-count.false
