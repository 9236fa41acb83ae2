-- The loops of zinialg and zinialg_rng go on exactly while a safe cell is closed. Assumes nothing.
use Prim.Native.Nat.{ℕ, suc, zero}
use native.Mathlib.Omega.{arith}
use mathlib.Core.Path.{◌≡◌}
use mathlib.Core.Bool.{false, true}
use lib.Dec.{ltb, ltb→lt, lt→ltb}
use Rattle.game.specs.Grid.{Grid, cells, mine}
use Rattle.game.specs.Lists.{count}
use Rattle.game.specs.Position.{Position, closed_safe}
use Rattle.original.specs.Play.{State}
use Rattle.game.proofs.Truth.{T→true, no→false}
use Rattle.original.proofs.Positions.{Models}

-- cells are left exactly while a safe cell is closed
pub cells_left : (g : Grid) (s : Position) (n : ℕ) (st : State) → Models g s n st → (k : ℕ) → closed_safe g s ≡ k
    → ltb (count (mine g) (cells g)) st.closed-cells ≡ elim k [ zero ↦ false | suc k ↦ true ]
cells_left g s n st w zero e = no→false (ltb (count (mine g) (cells g)) st.closed-cells) (λ t. omega (arith, ltb→lt (count (mine g) (cells g)) st.closed-cells t, w.left))
cells_left g s n st w (suc k) e =
    T→true (ltb (count (mine g) (cells g)) st.closed-cells) (lt→ltb (count (mine g) (cells g)) st.closed-cells (omega (arith, w.left)))
