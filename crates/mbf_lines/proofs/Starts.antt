-- Bytes that a call put at the start of a lent run, taken from it again: what a program hands to its write. Assumes nothing.
use Prim.Native.Nat.{ℕ, ◌≤◌}
use native.Mathlib.Omega.{arith}
use mathlib.Core.Path.{◌≡◌, ap, ◌∙◌}
use mathlib.Core.List.{List}
use lib.ListN.{drop, length, length-append, take}
use lib.Seq.{take-append_seam}
use Rattle.game.specs.Area.{begun}

module _ (bytes before after : List ℕ) (count : ℕ) (counts : count ≡ length bytes) (leaves : after ≡ begun bytes before) where
  pub start_inside : count ≤ length after
  start_inside = omega (arith, ap length leaves, length-append bytes (drop (length bytes) before))

  pub start_is : take count after ≡ bytes
  start_is = (λ i. take (counts i) (leaves i)) ∙ take-append_seam bytes (drop (length bytes) before)
