-- `random_round_call::end_round`: by the case that it is. Assumes nothing.
use Prim.Native.Nat.{ℕ, ◌*◌}
use mathlib.Core.Path.{subst, sym}
use lib.IntN.{pos}
use lib.ListN.{length}
use Rattle.game.specs.Rounds.{random_round}
use Rattle.clears.specs.Clearing.{Cleared}
use Rattle.random_round_call.proofs.Rolling.{few_moves, round_dry, round_ended}
use Rattle.random_round_call.proofs.end_round.Goals as goal

pub returns-in-Some : goal.returns-in-Some
returns-in-Some c =
    let a = c.args in
    λ g source origin old before d e h b p.
    round_ended a.rows a.columns g origin old a.work.now c.settle.new.work a.finish (random_round g source 0) before a.list.now
    (λ r q. few_moves g source d (length before) r b q) _ c.in-Some.is (λ s q. c.settle.ensures g s old e h q) p

pub returns-in-None : goal.returns-in-None
returns-in-None c =
    let a = c.args in
    λ g source origin old before d e h b p.
    round_dry a.rows a.columns g origin old a.work.now c.clear_area.new.work a.finish (random_round g source 0) before a.list.now c.clear_list.new.list h b c.in-None.is
    (subst (λ (n : ℕ). Cleared (pos 0) (5 * n) a.work.now c.clear_area.new.work) (sym e) c.clear_area.ensures)
    (subst (λ (n : ℕ). Cleared 0 n a.list.now c.clear_list.new.list) (sym e) c.clear_list.ensures) p
