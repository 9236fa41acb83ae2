-- `early::looks::zero_near`: no cell passed is a 0-cell. Assumes nothing.
use Prim.Native.Nat.{ℕ}
use native.Mathlib.Omega.{arith}
use mathlib.Core.Path.{◌∙◌, ap, ap₂, refl, sym}
use mathlib.Core.Bool.{Bool, ◌||◌, false}
use mathlib.Core.List.{List, [], ◌∷◌}
use borrow.Author.Tests.{eq-eqb, ne_eqb}
use Rattle.game.specs.Lists.{some_of}
use Rattle.game.proofs.Members.{some_append}
use Rattle.squares.proofs.Going.{begun, done, goes_on, on_grid}
use Rattle.early.specs.Looks.{zero_at}
use Rattle.early.proofs.looks.zero_near.Goals as goal

pub loop-near-init : goal.loop-near-init
loop-near-init c = let a = c.args in
    let e = c.into_iter-near-iterator.ensures.into_iter_gives ∙ c.around-near-items.ensures in
    (begun a.rows a.columns a.index c.into_iter-near-iterator.result e (omega arith), refl)

pub content-requires : goal.content-requires
content-requires c = let a = c.args in
    let l = c.loop-near in
    omega (arith, on_grid a.rows a.columns a.index l.yielded l.near-iterator l.invariant.0 c.in-Some.near c.next.new.self c.in-Some.ensures.steps)

pub returns-then-content-eq1 : goal.returns-then-content-eq1
returns-then-content-eq1 c =
    let a = c.args in
    let l = c.loop-near in
    let f = zero_at a.work.now in
    let rest = c.next.new.self in
    sym (ap (some_of f) (sym l.invariant.0.parts) ∙ some_append f l.yielded l.near-iterator ∙ ap (λ (xs : List ℕ). some_of f l.yielded || some_of f xs) c.in-Some.ensures.steps
    ∙ ap₂ (λ (p q : Bool). p || (q || some_of f rest)) l.invariant.1 (eq-eqb _ _ (sym c.content.ensures.0 ∙ c.if-content-eq1.true)))

pub loop-near-preserved : goal.loop-near-preserved
loop-near-preserved c =
    let a = c.args in
    let l = c.loop-near in
    let f = zero_at a.work.now in
    let near = c.in-Some.near in (
      goes_on a.rows a.columns a.index l.yielded l.near-iterator l.invariant.0 near c.next.new.self c.in-Some.ensures.steps,
      some_append f l.yielded (near ∷ []) ∙ ap₂ (λ (p q : Bool). p || (q || false)) l.invariant.1 (ne_eqb _ _ (λ e. c.if-content-eq1.false (c.content.ensures.0 ∙ e))),
    )

pub returns : goal.returns
returns c =
    let a = c.args in
    let l = c.loop-near in
    sym (ap (some_of (zero_at a.work.now)) (sym (done a.rows a.columns a.index l.yielded l.near-iterator l.invariant.0 c.in-None.ensures.steps.0)) ∙ l.invariant.1)
