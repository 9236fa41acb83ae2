-- `random_search_call::keyed_search`: refused as the checks say, else played. Assumes nothing.
use mathlib.Core.Path.{◌≡◌, ap, sym, ◌∙◌}
use Rattle.std.specs.Prelude.{Err}
use borrow.Author.Rules.{rules}
use mathlib.Core.List.{List, [], ◌++◌, ◌∷◌}
use mathlib.Core.Option.{Option}
use Rattle.area.specs.Numbers.{grid_of}
use Rattle.refusals.specs.Names.{refusal_of}
use Rattle.game.specs.Calls.{Check, Outcome, Refusal, first_given, grid_checks, handing, key_check, keyed_rounds_check, keyed_search_call, search_by}
use Rattle.game.specs.Keys.{keyed}
use Rattle.keys.specs.Stands.{key_of}
use Rattle.checks.proofs.Verdict.{keyed_passed}
use Rattle.answers.proofs.Promises.{keeps_else, keeps_refused}
use Rattle.draws.specs.Answers.{mode_of}
use Prim.Native.Nat.{ℕ}
use lib.IntN.{ℤ}
use Rattle.draws.specs.declared.Mode.{Mode}
use Rattle.keys.specs.declared.Key.{Key}
use Rattle.random_search_call.proofs.keyed_search.Goals as goal

-- the checks before the key's
abbrev firsts : (rows columns : ℕ) (grid work : List ℤ) → ℕ → List Check
firsts rows columns grid work many = grid_checks (grid_of rows columns grid) work ++ keyed_rounds_check many ∷ []

-- the refusal that is given
abbrev given : (rows columns : ℕ) (grid work : List ℤ) → ℕ → Key → Option Refusal
given rows columns grid work many key = first_given (firsts rows columns grid work many ++ key_check (key_of key) ∷ [])

-- what the call comes to where none is
abbrev come : (rows columns : ℕ) (grid work : List ℤ) → ℕ → Key → Mode → Outcome
come rows columns grid work many key mode =
    let g = grid_of rows columns grid in
    handing (key_of key) (search_by (keyed (mode_of mode) (key_of key)) many g work)

pub search_keyed-requires : goal.search_keyed-requires
search_keyed-requires c =
    let a = c.args in
    let p = keyed_passed (grid_of a.rows a.columns a.grid.now) a.work.now a.rounds (key_of a.key) (sym (c.check_key.ensures (firsts a.rows a.columns a.grid.now a.work.now a.rounds) c.check_keyed_rounds-counted.ensures) ∙ ap refusal_of c.in_ok-check_key.was) in
    record { shape = p.0.shaped; grid_len = (p.0.whole, p.0.room, p.1, p.2) }

pub returns-in_err-check_key : goal.returns-in_err-check_key
unfolding keyed_search_call
returns-in_err-check_key c =
    let a = c.args in
    let told : c.from_residual.result ≡ Err c.in_err-check_key.field-0.0 = search rules in
    rw told
    (keeps_refused (given a.rows a.columns a.grid.now a.work.now a.rounds a.key) _ _ (come a.rows a.columns a.grid.now a.work.now a.rounds a.key a.mode)
    (ap refusal_of (sym c.in_err-check_key.was) ∙ c.check_key.ensures (firsts a.rows a.columns a.grid.now a.work.now a.rounds) c.check_keyed_rounds-counted.ensures))

pub returns : goal.returns
unfolding keyed_search_call
returns c =
    let a = c.args in
    keeps_else (given a.rows a.columns a.grid.now a.work.now a.rounds a.key) _ _ _ (come a.rows a.columns a.grid.now a.work.now a.rounds a.key a.mode)
    (sym (ap refusal_of c.in_ok-check_key.was) ∙ c.check_key.ensures (firsts a.rows a.columns a.grid.now a.work.now a.rounds) c.check_keyed_rounds-counted.ensures) c.search_keyed.ensures
