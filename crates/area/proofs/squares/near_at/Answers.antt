-- `area::squares::near_at`: the index tells row and column again. Assumes nothing.
use Prim.Native.Nat.{◌+◌}
use native.Mathlib.Omega.{arith}
use mathlib.Core.List.{[]}
use Rattle.area.specs.Numbers.{grid_of}
use Rattle.game.proofs.Squares.{index-column, index-row}
use Rattle.area.proofs.SquareSides.{on-grid}
use Rattle.area.proofs.squares.near_at.Goals as goal

pub returns : goal.returns
returns c =
    let a = c.args in
    let g = grid_of a.rows a.columns [] in
    let h = c.requires.row_lt_rows.0 in
    on-grid _ _ c.requires.shape _ _ _ (a.row + a.down) (a.column + a.right)
    (omega (arith, index-row g a.row a.column h)) (omega (arith, index-column g a.row a.column h))
    (omega (arith, c.if-below-eq0.false)) c.if-below-rows.false (omega (arith, c.if-beside-eq0.false)) c.if-beside-columns.false
