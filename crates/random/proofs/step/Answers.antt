-- `random::step`: as many are drawn among as the choice has, so the drawn place is one of its places, and it is taken. Assumes nothing.
use Rattle.draws.specs.Answers.{mode_of}
use Rattle.supplies.specs.Origins.{source_of}
use Rattle.random.proofs.Supplies.{origin_places}
use Rattle.random.proofs.Takes.{any_marks, drawn_inside, step_dry, step_went, went_grows}
use borrow.Author.Rules.{rules}
use Rattle.random.proofs.step.Goals as goal

pub returns-in_err-dealt-clause-stepping : goal.returns-in_err-dealt-clause-stepping
returns-in_err-dealt-clause-stepping c =
    let a = c.args in
    λ g s old origin at st f h e q. (
      rw c.from_residual.ensures (step_dry a.rows a.columns g s old a.work.now origin (source_of (mode_of a.mode) a.draws.now origin) at c.count_candidates-candidates.result.count a.list.now a.state c.draw.result
          (c.count_candidates-candidates.ensures.tells g s old st).1 (c.draw.ensures.dealing origin at q) c.in_err-dealt.was),
      c.count_candidates-candidates.ensures.tops_len_unchanged.1,
      any_marks a.work.now a.rows a.columns _ _ c.count_candidates-candidates.ensures.units_len_unchanged.1,
    )

pub take_place-taken-requires : goal.take_place-taken-requires
take_place-taken-requires c =
    record { shape = c.requires.shape; has_cells = (search rules, search rules); tops_known = (c.count_candidates-candidates.ensures.tops_len_unchanged.1, c.count_candidates-candidates.ensures.units_len_unchanged.1) }

pub returns-clause-step_grows : goal.returns-clause-step_grows
returns-clause-step_grows c = went_grows c.args.supply c.draw.result _ c.take_place-taken.result c.draw.ensures.draw_grows c.in_ok-dealt.was

pub returns-clause-stepping : goal.returns-clause-stepping
returns-clause-stepping c =
    let a = c.args in
    let y = c.take_place-taken in
    λ g s old origin at st f h e q.
    let source = source_of (mode_of a.mode) a.draws.now origin in
    let k = c.count_candidates-candidates.ensures.tells g s old st in
    let i = drawn_inside a.rows a.columns g s old a.work.now origin source at c.count_candidates-candidates.result.count a.list.now a.state c.draw.result
    k.1 (c.draw.ensures.dealing origin at q) c.in_ok-dealt.dealt c.in_ok-dealt.was (origin_places (mode_of a.mode) a.draws.now origin) f h in
    let z = y.ensures g s old st f k.0 i e in (
      step_went a.rows a.columns g s old a.work.now origin source at c.count_candidates-candidates.result.count a.list.now a.state c.draw.result
          k.1 (c.draw.ensures.dealing origin at q) c.in_ok-dealt.dealt c.in_ok-dealt.was y.new.work y.new.list y.result z.0,
      z.1,
      z.2,
    )
