-- `spread::reveal`: the work area is that of a position that the spread came to, until none waits. Twice the closed cells, plus the cells that wait, fall. Assumes nothing.
use Prim.Native.Nat.{ℕ, ◌*◌, ◌+◌, ◌-◌}
use native.Mathlib.Omega.{arith}
use mathlib.Core.Path.{◌∙◌, ◌≡◌, refl, subst, sym}
use Rattle.area.specs.Numbers.{HasCells}
use Rattle.area.proofs.Cells.{cells_few}
use Rattle.spread.specs.Spreads.{Fits, now_spread}
use Rattle.spread.proofs.Reveals.{Spreads, spreads_first, spreads_last, spreads_more, spreads_none}
use Rattle.spread.proofs.Visits.{fits_first, taken_fits, taken_less, taken_onward, visit_onward}
use Rattle.spread.proofs.reveal.Goals.{After-struct_known-in-loop-so-1}
use Rattle.spread.proofs.reveal.Goals as goal

pub returns-then-content-eq0 : goal.returns-then-content-eq0
returns-then-content-eq0 c = let a = c.args in
    λ g s old m. spreads_none a.rows a.columns g s old a.index a.work.now c.content.result m c.requires.has_cells.1 c.content.ensures.0 c.if-content-eq0.true

pub loop-so-init : goal.loop-so-init
loop-so-init c = let a = c.args in
    let v = c.visit-so in
    let o = visit_onward (a.rows * a.columns) (cells_few a.rows a.columns c.requires.shape) (now_spread a.work.now 0 0) c.requires.has_cells.0 (fits_first (a.rows * a.columns) a.work.now) a.index c.requires.has_cells.1 in
    (subst (Fits (a.rows * a.columns)) (sym v.ensures) o.fits, refl, λ g s old p. p)

-- there are places for those that wait
fits : (c : After-struct_known-in-loop-so-1) → Fits (c.args.rows * c.args.columns) (now_spread c.loop-so.work (c.loop-so.so.waiting - 1 + 1) c.loop-so.so.opened)
fits c =
    let l = c.loop-so in
    let e : l.so.waiting ≡ l.so.waiting - 1 + 1 = omega arith in
    subst (λ (t : ℕ). Fits (c.args.rows * c.args.columns) (now_spread l.work t l.so.opened)) e l.invariant.0

room : (c : After-struct_known-in-loop-so-1) → HasCells c.loop-so.work (c.args.rows * c.args.columns)
room c = omega (arith, c.loop-so.invariant.1, c.visit-so.auto.work, c.requires.has_cells.0)

pub visit_square-so-requires-clause-fits : goal.visit_square-so-requires-clause-fits
visit_square-so-requires-clause-fits c = let a = c.args in
    let l = c.loop-so in
    let p = c.put_waiting in
    let w = c.waiting-at in
    taken_fits a.rows a.columns c.requires.shape l.work (l.so.waiting - 1) l.so.opened w.result p.new.work (room c.before.before.before.before.before) (fits c.before.before.before.before.before) w.ensures.0 p.ensures

pub loop-so-smaller : goal.loop-so-smaller
loop-so-smaller c = let a = c.args in
    let l = c.loop-so in
    let top = l.so.waiting - 1 in
    let p = c.put_waiting in
    let w = c.waiting-at in
    let v = c.visit_square-so in
    omega (
      arith,
      taken_less a.rows a.columns c.requires.shape l.work top l.so.opened w.result p.new.work (room c.before.before.before.before.before.before.before) (fits c.before.before.before.before.before.before.before) w.ensures.0 p.ensures
          (now_spread v.new.work v.result.waiting v.result.opened) v.ensures,
    )

pub loop-so-preserved : goal.loop-so-preserved
loop-so-preserved c = let a = c.args in
    let l = c.loop-so in
    let top = l.so.waiting - 1 in
    let p = c.put_waiting in
    let w = c.waiting-at in
    let v = c.visit_square-so in
    let r = now_spread v.new.work v.result.waiting v.result.opened in
    let e : l.so.waiting ≡ top + 1 = omega arith in
    let o = taken_onward a.rows a.columns c.requires.shape l.work top l.so.opened w.result p.new.work (room c.before.before.before.before.before.before.before) (fits c.before.before.before.before.before.before.before) w.ensures.0 p.ensures r v.ensures in (
      o.fits,
      o.long ∙ p.auto.work ∙ l.invariant.1,
      λ g t old q. spreads_more a.rows a.columns g t old a.index l.work top l.so.opened w.result p.new.work w.ensures.0 p.ensures r (fits c.before.before.before.before.before.before.before) v.ensures
          (subst (λ (k : ℕ). Spreads a.rows a.columns g t old a.index (now_spread l.work k l.so.opened)) e (l.invariant.2 g t old q)),
    )

pub returns : goal.returns
returns c = let a = c.args in
    let l = c.loop-so in
    λ g p old m. spreads_last a.rows a.columns g p old a.index l.work l.so.waiting l.so.opened (omega arith)
    (l.invariant.2 g p old (spreads_first a.rows a.columns g p old a.index a.work.now (now_spread c.visit-so.new.work c.visit-so.result.waiting c.visit-so.result.opened)
    c.content.result m c.requires.has_cells.1 c.content.ensures.0 c.if-content-eq0.false c.visit-so.ensures))
