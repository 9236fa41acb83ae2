-- `lines::board::fill`: the cells passed have their values. Assumes nothing.
use Prim.Native.Nat.{ℕ}
use native.Mathlib.Omega.{arith}
use mathlib.Core.Path.{◌≡◌, ap, refl, subst, sym, ◌∙◌}
use mathlib.Core.Bool.{Bool, true, false}
use lib.IntN.{ℤ}
use lib.ListN.{length-set}
use mir.Syntax.{w32}
use mir.Val.{SFits, to_z, of_z}
use mir.Facts.{to_z-of_z}
use Rattle.game.specs.Area.{begun}
use Rattle.hex_digits.specs.Hex.{bytes_of}
use Rattle.lines.specs.BoardLine.{cell_values, mine_bit, value_of}
use Rattle.lines.proofs.Runs.{fill_more}
use Rattle.lines.proofs.board.fill.Goals as goal

value_fits : (b : Bool) → SFits w32 (value_of b)
value_fits true = record { sfits = omega arith }
value_fits false = record { sfits = omega arith }

pub loop-k-init : goal.loop-k-init
loop-k-init c = (omega arith, refl, refl)

pub cell_value-value-requires : goal.cell_value-value-requires
cell_value-value-requires c = omega arith

pub bounds-grid-k : goal.bounds-grid-k
bounds-grid-k c = omega arith

pub loop-k-smaller : goal.loop-k-smaller
loop-k-smaller c = omega arith

pub loop-k-preserved : goal.loop-k-preserved
loop-k-preserved c =
    let l = c.loop-k in
    let a = c.args in
    let bytes = bytes_of a.line.now in
    let fit : SFits w32 c.cell_value-value.result = subst (SFits w32) (sym c.cell_value-value.ensures) (value_fits (mine_bit bytes l.k)) in
    let v : ℤ = to_z w32 (of_z w32 c.cell_value-value.result) in (
      omega arith,
      length-set l.grid l.k v ∙ l.invariant.1,
      fill_more (λ k. value_of (mine_bit bytes k)) l.k a.grid.now l.grid v l.invariant.2 (to_z-of_z fit ∙ c.cell_value-value.ensures) (omega arith),
    )

pub shape_of-grid : goal.shape_of-grid
shape_of-grid c = c.loop-k.invariant.1

pub returns : goal.returns
returns c =
    let l = c.loop-k in
    let a = c.args in
    let e : l.k ≡ a.cells = omega arith in
    l.invariant.2 ∙ ap (λ (n : ℕ). begun (cell_values (bytes_of a.line.now) n) a.grid.now) e
