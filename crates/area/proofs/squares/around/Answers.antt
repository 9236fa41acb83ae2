-- `area::squares::around`: the rows and columns beside the cell, cut at the edge, are its square's. Assumes nothing.
use Prim.Native.Nat.{◌%◌, ◌+◌, ◌/◌}
use native.Mathlib.Omega.{arith}
use mathlib.Core.Path.{◌≡◌}
use Rattle.std.specs.Prelude.{min}
use Rattle.area.proofs.Rows.{sides_around}
use Rattle.area.proofs.squares.around.Goals as goal

pub returns : goal.returns
returns c =
    let a = c.args in
    let last : c.min.result ≡ min (a.index % a.rows + 2) a.rows = omega (arith, c.saturating_add.ensures, c.min.ensures, c.ranges.rows.fits) in
    let to : c.min-2.result ≡ min (a.index / a.rows + 2) a.columns = omega (arith, c.saturating_add-2.ensures, c.min-2.ensures, c.ranges.columns.fits) in
    rw (c.saturating_sub.ensures, last, c.saturating_sub-2.ensures, to) (sides_around a.rows a.columns a.index c.requires)
