-- `replay_call::replays::replay_checked`: set out, played, the premiums laid, settled. Assumes nothing.
use native.Mathlib.Omega.{arith}
use mathlib.Core.Path.{refl, sym, subst}
use lib.ListN.{take}
use Rattle.game.specs.Position.{untouched}
use Rattle.game.specs.Moves.{replay_from}
use Rattle.game.specs.Calls.{replayed_list}
use Rattle.game.proofs.Sane.{untouched_sane}
use Rattle.game.proofs.Tidy.{tidy_lost, untouched_tidy}
use Rattle.area.specs.Numbers.{grid_of}
use Rattle.answers.specs.Answers.{Keeps, replayed_answer}
use Rattle.std.specs.Prelude.{Result}
use Rattle.answers.specs.declared.Played.{Played}
use Rattle.answers.specs.declared.Unplayed.{Unplayed}
use Rattle.replay_call.proofs.Played.{replay_kept}
use Rattle.replay_call.proofs.replays.replay_checked.Goals as goal

pub returns : goal.returns
returns c =
    let a = c.args in
    let g = grid_of a.rows a.columns a.grid.now in
    let k = c.run-played.ensures g (untouched g) a.work.now c.set_out-safe.ensures.moving (untouched_sane g) (tidy_lost g (untouched g) (untouched_tidy g)) c.set_out-safe.ensures.safe in
    subst (λ (x : Result Played Unplayed). Keeps (replayed_list g a.work.now a.list.now a.count) (replayed_answer x) c.settle.new.work)
    (sym c.replay_answer.ensures)
    (replay_kept a.rows a.columns g a.work.now c.run-played.new.work c.settle.new.work a.count (replay_from g 0 (untouched g) (take a.count a.list.now)) c.run-played.result k
    (λ s m. c.settle.ensures g s a.work.now refl (omega arith) (c.lay.ensures g s a.work.now m).holds_it))
