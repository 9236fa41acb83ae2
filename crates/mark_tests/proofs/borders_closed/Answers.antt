-- `marks::borders_closed`: no place passed has a closed 0-cell; all nine are the square. Assumes nothing.
use Prim.Native.Nat.{ℕ, ◌%◌, ◌+◌, ◌-◌, ◌/◌}
use native.Mathlib.Omega.{arith}
use mathlib.Core.Path.{◌∙◌, ◌≡◌, ap, ap₂, subst, sym}
use mathlib.Core.Bool.{Bool, ◌||◌}
use mathlib.Core.List.{[]}
use lib.Dec.{T}
use Rattle.area.specs.Numbers.{grid_of}
use Rattle.area.specs.Squares.{near_cell}
use Rattle.area.proofs.SquareSides.{near-cell, nine, nine_none}
use Rattle.game.specs.Lists.{some_of}
use Rattle.game.proofs.Truth.{T→true, or_right}
use Rattle.mark_tests.specs.Tests.{closed_zero_at}
use Rattle.mark_tests.proofs.Borders.{borders_there, some_more, some_on}
use Rattle.mark_tests.proofs.borders_closed.Goals.{After-closed_zero}
use Rattle.mark_tests.proofs.borders_closed.Goals as goal

pub loop-place-init : goal.loop-place-init
loop-place-init c =
    let a = c.args in
    ap (some_of (closed_zero_at a.work.now)) (nine_none (grid_of a.rows a.columns []) a.index)

-- what the place has
place-has : (c : After-closed_zero) → let a = c.args in
    c.closed_zero.result ≡ some_of (closed_zero_at a.work.now) (near_cell (grid_of a.rows a.columns []) a.index (c.loop-place.place / 3) (c.loop-place.place % 3))
place-has c =
    let a = c.args in
    let k = c.loop-place.place in
    c.closed_zero.ensures
    ∙ ap (some_of (closed_zero_at a.work.now)) (near-cell (grid_of a.rows a.columns []) a.index (k / 3) (k % 3) c.near-near.result c.requires.shape.some_rows c.near-near.ensures)

pub returns-then-closed_zero : goal.returns-then-closed_zero
returns-then-closed_zero c = λ g s old t.
    let a = c.args in
    let k = c.loop-place.place in
    let x = grid_of a.rows a.columns [] in
    let f = closed_zero_at a.work.now in
    let e : (k + 1) + (8 - k) ≡ 9 = omega arith in
    let u : T (some_of f (nine x a.index (k + 1))) =
    subst T (sym (some_more f x a.index k)) (or_right (some_of f (nine x a.index k)) (some_of f (near_cell x a.index (k / 3) (k % 3))) (subst T (sym c.if-closed_zero.true ∙ place-has c.before) tt)) in
    sym (T→true (some_of f (nine x a.index 9)) (subst (λ (m : ℕ). T (some_of f (nine x a.index m))) e (some_on f x a.index (8 - k) (k + 1) u)))
    ∙ borders_there a.rows a.columns a.work.now a.index c.requires.has_cells.1 g s old t

pub loop-place-preserved : goal.loop-place-preserved
loop-place-preserved c =
    let a = c.args in
    let f = closed_zero_at a.work.now in
    some_more f (grid_of a.rows a.columns []) a.index c.loop-place.place ∙ ap₂ (λ (p q : Bool). p || q) c.loop-place.invariant (sym (place-has c.before) ∙ c.if-closed_zero.false)

pub returns : goal.returns
returns c = λ g s old t.
    let l = c.loop-place in
    let a = c.args in
    let e : l.place ≡ 9 = omega arith in
    sym l.invariant ∙ ap (λ (k : ℕ). some_of (closed_zero_at a.work.now) (nine (grid_of a.rows a.columns []) a.index k)) e
    ∙ borders_there a.rows a.columns a.work.now a.index c.requires.has_cells.1 g s old t
