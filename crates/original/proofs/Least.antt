-- What rzini's loop keeps of two counts is the lesser. Assumes nothing.
use Prim.Native.Nat.{ℕ, min}
use native.Mathlib.Omega.{arith}
use mathlib.Core.Path.{◌≡◌, refl}
use mathlib.Core.Bool.{Bool, cond, false, true}
use lib.Dec.{ltb, ltb→lt, nltb→le}

pub least : (a b : ℕ) → cond (ltb a b) a b ≡ min b a
least a b = go (ltb a b) refl
  where
    go : (c : Bool) → ltb a b ≡ c → cond c a b ≡ min b a
    go true e = omega (arith, ltb→lt a b (rw e tt))
    go false e = omega (arith, nltb→le a b (rw e tt))
