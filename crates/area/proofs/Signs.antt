-- A signed number in a local is its bits: what tests on the bits say of the number. Assumes nothing.
use Prim.Native.Nat.{ℕ, zero, suc, ◌-◌, ◌%◌, ◌<◌}
use native.Mathlib.Omega.{arith}
use mathlib.Core.Path.{◌≡◌, refl}
use lib.Dec.{eqb}
use lib.IntN.{ℤ, pos, negsuc}
use lib.Signed.{mag}
use mir.Syntax.{w32}
use mir.Val.{SFits, of_z, to_z}
use mir.Facts.{to_z-of_z}
use borrow.Author.Tests.{ne_eqb}
use Rattle.game.specs.Grid.{is_mine}

-- v == -1
pub test_mine : (v : ℤ) → mag v < 2147483648 → eqb (of_z w32 v) 4294967295 ≡ is_mine v
test_mine (pos n) h = ne_eqb n 4294967295 (λ e. omega arith)
test_mine (negsuc zero) h = refl
test_mine (negsuc (suc n)) h = ne_eqb (4294967296 - suc (suc n)) 4294967295 (λ e. omega arith)

-- ---- what is stored

fits_below : (v : ℕ) → v < 2147483648 → SFits w32 (pos v)
fits_below v h = record { sfits = h }

-- a number of 31 bits
pub stored : (v : ℕ) → to_z w32 (v % 2147483648) ≡ pos (v % 2147483648)
stored v = to_z-of_z (fits_below (v % 2147483648) (omega arith))
