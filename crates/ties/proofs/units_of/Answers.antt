-- `ties::units_of`: what is kept is right, and what is counted again is kept. Assumes nothing.
use Prim.Native.Nat.{ℕ, ◌*◌, ◌+◌, ◌-◌, ◌≤◌}
use native.Mathlib.Omega.{arith}
use mathlib.Core.List.{List}
use lib.IntN.{ℤ}
use Rattle.game.specs.Lists.{range}
use Rattle.game.proofs.Counts.{count_le}
use Rattle.game.proofs.Members.{length_from}
use Rattle.choices.specs.Tests.{unit_at}
use Rattle.choices.specs.Tops.{column_units}
use Rattle.ties.proofs.units_of.Goals as goal

-- a column has no more closed units than rows
units_few : (w : List ℤ) (rows column : ℕ) → column_units w rows column ≤ rows
units_few w rows column =
    omega (
      arith,
      count_le (unit_at w) (range (column * rows) (column * rows + rows)),
      length_from (column * rows + rows - column * rows) (column * rows),
    )

pub returns-then-kept-gt0-clause-value : goal.returns-then-kept-gt0-clause-value
returns-then-kept-gt0-clause-value c =
    let a = c.args in
    let e = c.from-kept.ensures in
    let q = c.requires.has_cells.2.right a.column c.requires.has_cells.1 (λ z. omega arith) (λ z. omega arith) in
    (omega (arith, q, e), omega (arith, q, e, units_few a.work.now a.rows a.column))
