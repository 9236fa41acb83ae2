-- `random_round_call::random_round`: refused as the checks say, else played. Assumes nothing.
use mathlib.Core.Path.{◌≡◌, ap, sym, ◌∙◌}
use borrow.Author.Rules.{rules}
use Rattle.std.specs.Prelude.{Err}
use mathlib.Core.List.{List, ◌++◌}
use mathlib.Core.Option.{Option}
use Prim.Native.Nat.{ℕ, ◌*◌}
use lib.IntN.{ℤ}
use Rattle.draws.specs.declared.Mode.{Mode}
use lib.ListN.{length}
use Rattle.area.specs.Numbers.{grid_of}
use Rattle.refusals.specs.Names.{refusal_of}
use Rattle.game.specs.Draws.{lent}
use Rattle.game.specs.Rounds.{random_round}
use Rattle.game.specs.Calls.{ListOutcome, Refusal, drawn_round, first_given, grid_checks, random_round_call, trace}
use Rattle.checks.proofs.More.{reaches}
use Rattle.checks.proofs.Verdict.{all_passed}
use Rattle.answers.proofs.Promises.{list_else, list_refused}
use Rattle.draws.specs.Answers.{mode_of}
use Rattle.random_round_call.proofs.random_round.Goals as goal

-- the refusal that is given
abbrev given : (rows columns : ℕ) (grid work : List ℤ) (list : List ℕ) → Option Refusal
given rows columns grid work list =
    first_given (grid_checks (grid_of rows columns grid) work ++ reaches (length list) (rows * columns) trace)

-- what the call comes to where none is
abbrev come : (rows columns : ℕ) (grid work : List ℤ) (list draws : List ℕ) (mode : Mode) → ListOutcome
come rows columns grid work list draws mode =
    let g = grid_of rows columns grid in
    drawn_round g (random_round g (lent (mode_of mode) draws) 0) work list

pub roll_checked-requires : goal.roll_checked-requires
roll_checked-requires c =
    let a = c.args in
    let p = all_passed (grid_of a.rows a.columns a.grid.now) a.work.now (length a.list.now) (a.rows * a.columns) trace (sym c.check_room.ensures ∙ ap refusal_of c.in_ok-check_room.was) in
    record { shape = p.0.shaped; grid_len = (p.0.whole, p.0.room, p.1) }

pub returns-in_err-check_room : goal.returns-in_err-check_room
unfolding random_round_call
returns-in_err-check_room c =
    let told : c.from_residual.result ≡ Err c.in_err-check_room.field-0.0 = search rules in
    rw told (list_refused (given c.args.rows c.args.columns c.args.grid.now c.args.work.now c.args.list.now) _ _ _ (come c.args.rows c.args.columns c.args.grid.now c.args.work.now c.args.list.now c.args.draws.now c.args.mode) (ap refusal_of (sym c.in_err-check_room.was) ∙ c.check_room.ensures))

pub returns : goal.returns
unfolding random_round_call
returns c =
    list_else (given c.args.rows c.args.columns c.args.grid.now c.args.work.now c.args.list.now) _ _ _ _ _ (come c.args.rows c.args.columns c.args.grid.now c.args.work.now c.args.list.now c.args.draws.now c.args.mode) (sym (ap refusal_of c.in_ok-check_room.was) ∙ c.check_room.ensures) c.roll_checked.ensures
