-- `start::load::load`: the columns passed are loaded, so at the end the grid is. Assumes nothing.
use Prim.Native.Nat.{ℕ, ◌+◌, min}
use native.Mathlib.Omega.{arith}
use mathlib.Core.Path.{◌≡◌, ap, ◌∙◌}
use Rattle.game.specs.Lists.{range, fold}
use Rattle.area.specs.Numbers.{grid_of}
use Rattle.start.specs.Passes.{load_column}
use Rattle.start.proofs.Loaded.{columns_more, loaded_first}
use Rattle.start.proofs.load.load.Goals as goal

pub loop-from-preserved : goal.loop-from-preserved
loop-from-preserved c =
    let to = c.min in
    let l = c.loop-from in
    let a = c.args in
    let g = grid_of a.rows a.columns a.grid.now in
    let n : min l.from a.columns ≡ l.from = omega arith in
    let m : to.result ≡ min (l.from + 32) a.columns = to.ensures in
    columns_more g a.work.now l.work _ l.from to.result (omega (arith, to.ensures)) (l.invariant ∙ ap (λ (k : ℕ). fold (load_column g) a.work.now (range 0 k)) n) c.load_columns.ensures
    ∙ ap (λ (k : ℕ). fold (load_column g) a.work.now (range 0 k)) m

pub returns : goal.returns
returns c =
    let a = c.args in
    let l = c.loop-from in
    let e : min l.from a.columns ≡ a.columns = omega arith in
    l.invariant ∙ ap (λ (k : ℕ). fold (load_column (grid_of a.rows a.columns a.grid.now)) a.work.now (range 0 k)) e
    ∙ loaded_first (grid_of a.rows a.columns a.grid.now) a.work.now a.columns (omega arith)

-- the last columns
pub returns-2 : goal.returns-2
returns-2 c =
    let to = c.min in
    let l = c.loop-from in
    let a = c.args in
    let g = grid_of a.rows a.columns a.grid.now in
    let n : min l.from a.columns ≡ l.from = omega arith in
    let m : to.result ≡ a.columns = omega (arith, to.ensures) in
    columns_more g a.work.now l.work _ l.from to.result (omega (arith, to.ensures)) (l.invariant ∙ ap (λ (k : ℕ). fold (load_column g) a.work.now (range 0 k)) n) c.load_columns.ensures
    ∙ ap (λ (k : ℕ). fold (load_column g) a.work.now (range 0 k)) m
    ∙ loaded_first g a.work.now a.columns (omega arith)
