-- A test added to a count: one place more is counted. Assumes nothing.
use Prim.Native.Nat.{ℕ, ◌+◌, ◌≤◌}
use native.Mathlib.Omega.{arith}
use mathlib.Core.Path.{◌≡◌, refl, ap}
use mathlib.Core.Bool.{Bool, true, false}
use mir.Val.{bool_byte}
use Rattle.game.specs.Lists.{bit, count, range}
use Rattle.game.proofs.Counts.{count_more}

byte_bit : (b : Bool) → bool_byte b ≡ bit b
byte_bit true = refl
byte_bit false = refl

pub byte_le : (b : Bool) → bool_byte b ≤ 1
byte_le true = omega arith
byte_le false = omega arith

-- one place more
pub count_one_more : (f : ℕ → Bool) (a b m : ℕ) (r : Bool) → a ≤ b → m ≡ count f (range a b) → r ≡ f b → m + bool_byte r ≡ count f (range a (b + 1))
count_one_more f a b m r h e q = omega (arith, count_more f a b h, byte_bit r, ap bit q)
