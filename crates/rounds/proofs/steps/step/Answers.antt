-- `rounds::steps::step`: the first cell of highest premium is found; where none reaches 0, the step is one L. Assumes nothing.
use Prim.Native.Nat.{ℕ}
use native.Mathlib.Omega.{arith}
use mathlib.Core.Path.{◌≡◌, refl}
use mathlib.Core.List.{List}
use Rattle.game.specs.Moves.{Move}
use Rattle.rounds.specs.Promises.{MadeKnown}
use Rattle.rounds.proofs.Columns.{step_kept}
use Rattle.rounds.proofs.Takes.{click_taken, top_inside, top_taken}
use Rattle.rounds.proofs.steps.step.Goals as goal

pub act_at-chorded-requires-clause-has_cells : goal.act_at-chorded-requires-clause-has_cells
act_at-chorded-requires-clause-has_cells c =
    let a = c.args in
    (omega arith, top_inside a.rows a.columns a.work.now c.best-found.result a.opened_only c.in-Some.index c.requires.standing c.best-found.ensures.value c.in-Some.is, omega arith)

pub returns-in-Some : goal.returns-in-Some
returns-in-Some c =
    let a = c.args in
    let tops = c.best-found.new.tops in
    let y = c.act_at-chorded in
    λ g s old st p n e. step_kept a.opened_only a.rows a.columns g s old a.list.now a.work.now tops a.state a.from y.new.work y.new.list y.new.tops (record { state = y.result; from = a.from })
    (top_taken a.rows a.columns a.work.now c.best-found.result g s
    (λ (ms : List Move) (column : ℕ). MadeKnown a.opened_only a.rows a.columns g s old ms a.list.now a.work.now tops a.state y.new.work y.new.list y.new.tops y.result
    × (a.from ≡ column))
    a.opened_only a.from (c.best-found.ensures.value g s old st) c.in-Some.index p c.in-Some.is (λ t z. (y.ensures a.opened_only g s old st p t z e, refl)))
    c.best-found.ensures.tops_len_unchanged.1

pub returns-in-None : goal.returns-in-None
returns-in-None c =
    let a = c.args in
    let tops = c.best-found.new.tops in
    let y = c.click_lowest in
    λ g s old st p n e. step_kept a.opened_only a.rows a.columns g s old a.list.now a.work.now tops a.state a.from y.new.work y.new.list y.new.tops y.result
    (click_taken a.rows a.columns a.work.now c.best-found.result g s
    (λ (ms : List Move) (column : ℕ). MadeKnown a.opened_only a.rows a.columns g s old ms a.list.now a.work.now tops a.state y.new.work y.new.list y.new.tops y.result.state
    × (y.result.from ≡ column))
    a.opened_only a.from (c.best-found.ensures.value g s old st) p n c.in-None.is (λ l q. y.ensures a.opened_only g s old st p l q e))
    c.best-found.ensures.tops_len_unchanged.1
