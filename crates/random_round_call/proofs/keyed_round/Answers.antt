-- `random_round_call::keyed_round`: refused as the checks say, else played. Assumes nothing.
use mathlib.Core.Path.{◌≡◌, ap, sym, ◌∙◌}
use borrow.Author.Rules.{rules}
use Rattle.std.specs.Prelude.{Err}
use mathlib.Core.List.{List, [], ◌++◌, ◌∷◌}
use mathlib.Core.Option.{Option}
use Prim.Native.Nat.{ℕ, ◌*◌}
use lib.IntN.{ℤ}
use Rattle.keys.specs.declared.Key.{Key}
use Rattle.draws.specs.declared.Mode.{Mode}
use lib.ListN.{length}
use Rattle.area.specs.Numbers.{grid_of}
use Rattle.refusals.specs.Names.{refusal_of}
use Rattle.game.specs.Calls.{Check, ListOutcome, Refusal, first_given, grid_checks, handing_listed, key_check, keyed_round_call, round_by, trace}
use Rattle.game.specs.Keys.{keyed}
use Rattle.keys.specs.Stands.{key_of}
use Rattle.checks.proofs.More.{first_none, reaches}
use Rattle.checks.proofs.Verdict.{all_passed}
use Rattle.answers.proofs.Promises.{list_else, list_refused}
use Rattle.draws.specs.Answers.{mode_of}
use Rattle.random_round_call.proofs.keyed_round.Goals as goal

-- the checks before the key's
abbrev firsts : (rows columns : ℕ) (grid work : List ℤ) (list : List ℕ) → List Check
firsts rows columns grid work list = grid_checks (grid_of rows columns grid) work ++ reaches (length list) (rows * columns) trace

-- the refusal that is given
abbrev given : (rows columns : ℕ) (grid work : List ℤ) (list : List ℕ) (key : Key) → Option Refusal
given rows columns grid work list key = first_given (firsts rows columns grid work list ++ key_check (key_of key) ∷ [])

-- what the call comes to where none is
abbrev come : (rows columns : ℕ) (grid work : List ℤ) (list : List ℕ) (key : Key) (mode : Mode) → ListOutcome
come rows columns grid work list key mode =
    let g = grid_of rows columns grid in
    handing_listed (key_of key) (round_by (keyed (mode_of mode) (key_of key)) g work list)

pub roll_keyed-requires : goal.roll_keyed-requires
roll_keyed-requires c =
    let a = c.args in
    let e = first_none (firsts c.args.rows c.args.columns c.args.grid.now c.args.work.now c.args.list.now) (key_check (key_of a.key) ∷ []) (sym (c.check_key.ensures (firsts c.args.rows c.args.columns c.args.grid.now c.args.work.now c.args.list.now) c.check_room-room.ensures) ∙ ap refusal_of c.in_ok-check_key.was) in
    let p = all_passed (grid_of a.rows a.columns a.grid.now) a.work.now (length a.list.now) (a.rows * a.columns) trace e in
    record { shape = p.0.shaped; grid_len = (p.0.whole, p.0.room, p.1) }

pub returns-in_err-check_key : goal.returns-in_err-check_key
unfolding keyed_round_call
returns-in_err-check_key c =
    let told : c.from_residual.result ≡ Err c.in_err-check_key.field-0.0 = search rules in
    rw told (list_refused (given c.args.rows c.args.columns c.args.grid.now c.args.work.now c.args.list.now c.args.key) _ _ _ (come c.args.rows c.args.columns c.args.grid.now c.args.work.now c.args.list.now c.args.key c.args.mode) (ap refusal_of (sym c.in_err-check_key.was) ∙ (c.check_key.ensures (firsts c.args.rows c.args.columns c.args.grid.now c.args.work.now c.args.list.now) c.check_room-room.ensures)))

pub returns : goal.returns
unfolding keyed_round_call
returns c =
    list_else (given c.args.rows c.args.columns c.args.grid.now c.args.work.now c.args.list.now c.args.key) _ _ _ _ _ (come c.args.rows c.args.columns c.args.grid.now c.args.work.now c.args.list.now c.args.key c.args.mode) (sym (ap refusal_of c.in_ok-check_key.was) ∙ (c.check_key.ensures (firsts c.args.rows c.args.columns c.args.grid.now c.args.work.now c.args.list.now) c.check_room-room.ensures)) c.roll_keyed.ensures
