-- `inputs::read_some`: the read is handed the part behind the first bytes, which stay. Assumes nothing.
use Rattle.std.proofs.Common.{◌-◌, ℕ, ap, ◌∙◌, to_z, of_z, w32, w64}
use borrow.Rule.Slice.PartMut.{take_put}
use Rattle.inputs.specs.Reads.{got_of}
use Rattle.inputs.proofs.Standings.{length_part}
use Rattle.inputs.proofs.read_some.Goals as goal

pub returns : goal.returns
returns c =
    let a = c.args in
    let end = c.end_of-end in
    let answer = to_z w64 (of_z w64 c.read-got.result) in
    let error = to_z w32 (of_z w32 c.error-error.result) in
    record {
      answer = answer;
      error = error;
      stays = take_put a.count (end.result - a.count) a.held.now c.read-got.new.block c.requires;
      comes =
          c.taken.ensures
          ∙ ap (λ (n : ℕ). got_of answer error n) (c.read-got.auto.block ∙ length_part a.count end.result a.held.now c.requires end.ensures);
    }
