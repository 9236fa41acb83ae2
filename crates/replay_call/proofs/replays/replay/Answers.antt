-- `replay_call::replays::replay`: refused as the checks say, else played. Assumes nothing.
use mathlib.Core.Path.{ap, sym, ◌∙◌}
use mathlib.Core.List.{List, ◌++◌}
use Prim.Native.Nat.{ℕ}
use lib.IntN.{ℤ}
use mathlib.Core.Option.{Option}
use borrow.Author.Rules.{rules}
use Rattle.std.specs.Prelude.{Err, ◌≡◌}
use Rattle.answers.specs.declared.Unplayed.TheVariants as Unplays
use Rattle.game.specs.Calls.{Outcome, Refusal, first_given, grid_checks, replay_call, replayed_list, trace}
use Rattle.area.specs.Numbers.{grid_of}
use lib.ListN.{length}
use Rattle.refusals.specs.Names.{refusal_of}
use Rattle.checks.proofs.More.{reaches}
use Rattle.checks.proofs.Verdict.{all_passed}
use Rattle.answers.proofs.Promises.{keeps_else, keeps_refused}
use Rattle.replay_call.proofs.replays.replay.Goals as goal

-- the refusal that is given
abbrev given : (rows columns count : ℕ) → List ℤ → List ℤ → List ℕ → Option Refusal
given rows columns count grid work list = first_given (grid_checks (grid_of rows columns grid) work ++ reaches (length list) count trace)

-- what the call comes to where none is
abbrev come : (rows columns count : ℕ) → List ℤ → List ℤ → List ℕ → Outcome
come rows columns count grid work list = replayed_list (grid_of rows columns grid) work list count

pub replay_checked-requires : goal.replay_checked-requires
replay_checked-requires c =
    let a = c.args in
    let p = all_passed (grid_of a.rows a.columns a.grid.now) a.work.now (length a.list.now) a.count trace (sym c.check_more.ensures ∙ ap refusal_of c.in_ok-check_more.was) in
    record { shape = p.0.shaped; grid_len = (p.0.whole, p.0.room, p.1) }

pub returns-in_err-check_more : goal.returns-in_err-check_more
unfolding replay_call
returns-in_err-check_more c =
    let a = c.args in
    let told : c.from_residual.result ≡ Err (Unplays.Refused c.in_err-check_more.field-0.0) = search rules in
    rw told (keeps_refused (given a.rows a.columns a.count a.grid.now a.work.now a.list.now) _ _ (come a.rows a.columns a.count a.grid.now a.work.now a.list.now) (ap refusal_of (sym c.in_err-check_more.was) ∙ c.check_more.ensures))

pub returns : goal.returns
unfolding replay_call
returns c =
    let a = c.args in
    keeps_else (given a.rows a.columns a.count a.grid.now a.work.now a.list.now) _ _ _ (come a.rows a.columns a.count a.grid.now a.work.now a.list.now) (sym (sym c.check_more.ensures ∙ ap refusal_of c.in_ok-check_more.was)) c.replay_checked.ensures
