-- The columns of an opening are without gap, as neighbours' columns differ by at most 1. Assumes nothing.
use Prim.Native.Nat.{ℕ, ◌+◌, ◌<◌, ◌≤◌}
use native.Mathlib.Omega.{arith}
use native.Mathlib.Decide.{ℕ_discrete}
use mathlib.Core.Path.{◌≡◌, sym}
use mathlib.Core.Logic.{◌⊎◌, inl, inr, ⊎_elim}
use lib.Dec.{T}
use Rattle.game.specs.Grid.{Grid, column_of, size, square}
use Rattle.game.specs.Lists.{has}
use Rattle.game.specs.Openings.{Joined, holds, itself, joined_to, onward}
use Rattle.game.proofs.Chains.{joined_last}
use Rattle.game.proofs.Members.{some_yes, yes_some}
use Rattle.game.proofs.Openings.{joined_to→, →joinedTo}
use Rattle.game.proofs.Squares.{in-own-square, square→}
use Rattle.game.proofs.Zeros.{Zero}

-- q lies between a and b, either way round
abbrev pub Within : ℕ → ℕ → ℕ → Type 0
Within a b q = ((a ≤ q) × (q ≤ b)) ⊎ ((b ≤ q) × (q ≤ a))

-- a place short of c lies short of a neighbour of c
nearer : (a b c q : ℕ) → Within a c q → (q ≡ c → ⊥) → b ≤ c + 1 → c ≤ b + 1 → Within a b q
nearer a b c q w n h k = ⊎_elim (λ p. inl (omega arith)) (λ p. inr (omega arith)) w

-- no further than a is a
only : (a q : ℕ) → Within a a q → a ≡ q
only a q w = ⊎_elim (λ p. omega arith) (λ p. omega arith) w

-- 0-cells joined to z are in every column between two of their columns
spans : (g : Grid) (z k q : ℕ) → Joined g z k → Within (column_of g z) (column_of g k) q → (y : ℕ) × Joined g z y × (column_of g y ≡ q)
spans g z k q (itself h n) w = (z, itself h n, only (column_of g z) q w)
spans g z k q (onward {b = b} j t n) w =
    elim (ℕ_discrete q (column_of g k)) [
      | yes e ↦ (k, onward j t n, sym e)
      | no m ↦
          let c = (square→ g b k (joined_last g z b j).inside t).1 in
          spans g z b q j (nearer (column_of g z) (column_of g b) (column_of g k) q w m c.west c.east)
    ]

-- and so are the cells that their opening holds
pub held_spans : (g : Grid) (z x q : ℕ) → Zero g z → x < size g → T (holds g x (joined_to g z)) → Within (column_of g z) (column_of g x) q
    → (y : ℕ) × (y < size g) × T (holds g y (joined_to g z)) × (column_of g y ≡ q)
held_spans g z x q zz h t w =
    elim (ℕ_discrete q (column_of g x)) [
      | yes e ↦ (x, h, t, sym e)
      | no m ↦
          let a = yes_some (λ j. has j (joined_to g z)) (square g x) t in
          let c = (square→ g x a.0 h a.1).1 in
          let y = spans g z a.0 q (joined_to→ g z a.0 zz a.2) (nearer (column_of g z) (column_of g a.0) (column_of g x) q w m c.east c.west) in
          let i = (joined_last g z y.0 y.1).inside in
          (y.0, i, some_yes (λ j. has j (joined_to g z)) y.0 (square g y.0) (in-own-square g y.0 i) (→joinedTo g z y.0 y.1), y.2)
    ]
