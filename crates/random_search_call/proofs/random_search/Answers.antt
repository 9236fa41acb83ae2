-- `random_search_call::random_search`: refused as the checks say, else played. Assumes nothing.
use mathlib.Core.Path.{◌≡◌, ap, sym, ◌∙◌}
use Rattle.std.specs.Prelude.{Err}
use borrow.Author.Rules.{rules}
use mathlib.Core.List.{◌++◌}
use mathlib.Core.Option.{Option}
use Rattle.area.specs.Numbers.{grid_of}
use Rattle.refusals.specs.Names.{refusal_of}
use mathlib.Core.Bool.{Bool}
use mathlib.Core.List.{[], ◌∷◌}
use lib.Dec.{eqb}
use Rattle.game.specs.Draws.{lent}
use Rattle.game.specs.Rounds.{random_search}
use Rattle.game.specs.Calls.{Outcome, Refusal, drawn_search, first_given, grid_checks, random_search_call, rounds}
use Rattle.checks.proofs.More.{none_below}
use Rattle.checks.proofs.Verdict.{all_passed}
use Rattle.answers.proofs.Promises.{keeps_else, keeps_refused}
use Rattle.draws.specs.Answers.{mode_of}
use Prim.Native.Nat.{ℕ}
use mathlib.Core.List.{List}
use lib.IntN.{ℤ}
use Rattle.draws.specs.declared.Mode.{Mode}
use Rattle.random_search_call.proofs.random_search.Goals as goal

-- the refusal that is given, by whether there are no rounds
abbrev given : (rows columns : ℕ) (grid work : List ℤ) → Bool → Option Refusal
given rows columns grid work none_at_all = first_given (grid_checks (grid_of rows columns grid) work ++ record { given = none_at_all; refusal = rounds } ∷ [])

-- what the call comes to where none is
abbrev come : (rows columns : ℕ) (grid work : List ℤ) (draws : List ℕ) → Mode → ℕ → Outcome
come rows columns grid work draws mode many = let g = grid_of rows columns grid in drawn_search g (random_search g (lent (mode_of mode) draws) many) work

pub search_checked-requires : goal.search_checked-requires
search_checked-requires c =
    let a = c.args in
    let p = all_passed (grid_of a.rows a.columns a.grid.now) a.work.now a.rounds 1 rounds (sym c.check_more.ensures ∙ ap refusal_of c.in_ok-check_more.was) in
    record { shape = p.0.shaped; grid_len = (p.0.whole, p.0.room, p.1) }

pub returns-in_err-check_more : goal.returns-in_err-check_more
unfolding random_search_call
returns-in_err-check_more c =
    let a = c.args in
    let told : c.from_residual.result ≡ Err c.in_err-check_more.field-0.0 = search rules in
    rw told
    (keeps_refused (given a.rows a.columns a.grid.now a.work.now (eqb a.rounds 0)) _ _ (come a.rows a.columns a.grid.now a.work.now a.draws.now a.mode a.rounds)
    (ap refusal_of (sym c.in_err-check_more.was) ∙ c.check_more.ensures ∙ ap (given a.rows a.columns a.grid.now a.work.now) (none_below a.rounds)))

pub returns : goal.returns
unfolding random_search_call
returns c =
    let a = c.args in
    keeps_else (given a.rows a.columns a.grid.now a.work.now (eqb a.rounds 0)) _ _ _ (come a.rows a.columns a.grid.now a.work.now a.draws.now a.mode a.rounds)
    (sym (ap refusal_of c.in_ok-check_more.was) ∙ c.check_more.ensures ∙ ap (given a.rows a.columns a.grid.now a.work.now) (none_below a.rounds)) c.search_checked.ensures
