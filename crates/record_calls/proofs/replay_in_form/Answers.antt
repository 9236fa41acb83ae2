-- `record_calls::replay_in_form`: the checks, the words that are copied, and the flat replay of them. Assumes nothing.
use Prim.Native.Nat.{ℕ}
use mathlib.Core.Path.{ap, refl, ◌∙◌}
use mathlib.Core.List.{map}
use lib.ListN.{take}
use Rattle.area.specs.Numbers.{grid_of}
use Rattle.refusals.specs.Names.{refusal_of}
use Rattle.records.specs.Records.{move_word, over}
use Rattle.record_checks.proofs.Keeping.{keeps_replay}
use Rattle.record_calls.proofs.replay_in_form.Goals as goal

pub returns : goal.returns
returns c =
    let a = c.args in
    keeps_replay a.strict (grid_of a.rows a.columns a.grid.now) a.work.now a.list.now a.run.now a.count (refusal_of c.check_replay-checked.result) _ _ c.words_of.new.list (c.check_replay-checked.ensures a.work.now refl)
    (c.words_of.ensures ∙ ap (λ (n : ℕ). over (map (move_word a.rows) (take n a.run.now)) a.list.now) c.copied-moves.ensures) c.replay_unless.ensures
