-- `rounds::steps::click_lowest`: the search finds the first closed unit, and its column. Assumes nothing.
use Prim.Native.Nat.{ℕ}
use native.Mathlib.Omega.{arith}
use mathlib.Core.Path.{◌∙◌, ◌≡◌, ap}
use mathlib.Core.List.{List}
use Rattle.choices.specs.Picks.{found_column}
use Rattle.game.specs.Moves.{Move}
use Rattle.rounds.specs.Promises.{MadeKnown}
use Rattle.rounds.proofs.Takes.{unit_inside, unit_taken}
use Rattle.rounds.proofs.steps.click_lowest.Goals as goal

pub click_at-clicked-requires-clause-has_cells : goal.click_at-clicked-requires-clause-has_cells
click_at-clicked-requires-clause-has_cells c =
    let a = c.args in
    let i = unit_inside a.rows a.columns a.work.now c.lowest-lowest.result.found c.in-Some.index c.requires.standing (λ g s old st. (c.lowest-lowest.ensures g s old st).0) c.in-Some.is in
    (omega arith, i, omega arith)

pub returns-in-Some : goal.returns-in-Some
returns-in-Some c =
    let a = c.args in
    let y = c.click_at-clicked in
    λ o g s old st p n q e. let f = c.lowest-lowest.ensures g s old st in
    unit_taken a.rows a.columns a.work.now c.lowest-lowest.result.found g s
    (λ (ms : List Move) (column : ℕ). MadeKnown o a.rows a.columns g s old ms a.list.now a.work.now a.tops.now a.state y.new.work y.new.list y.new.tops y.result
    × (c.lowest-lowest.result.column ≡ column))
    c.in-Some.index c.in-Some.is f.0 (λ t u. (y.ensures o g s old st p t u q e, f.1 ∙ ap (found_column g) c.in-Some.is))
