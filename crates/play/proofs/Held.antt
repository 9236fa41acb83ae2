-- The cells of a position, and how a move shifts each: by what its gain and its cost lose. Assumes nothing.
use Prim.Native.Nat.{ℕ, ◌%◌, ◌+◌, ◌-◌, ◌<◌, ◌≤◌}
use native.Mathlib.Omega.{arith}
use mathlib.Core.Path.{◌∙◌, ◌≡◌, ap, refl}
use mathlib.Core.Bool.{Bool, cond, false, true}
use lib.Dec.{T, eqb}
use lib.ListN.{get_or}
use Rattle.area.proofs.CellByCell.{Cell, priced, shift_cell}
use Rattle.game.specs.Grid.{Grid, mine, number, safe, size}
use Rattle.game.specs.Openings.{first_label, second_label}
use Rattle.game.specs.Position.{Position, cost, gain}
use Rattle.game.proofs.Ranges.{cost_range, gain_range}
use Rattle.area.proofs.Held.{held_cell}
use Rattle.area.specs.Stages.{content, raised}
use borrow.Author.Tests.{ne_eqb}

-- a cell with another state
abbrev pub restated : ℕ → Cell → Cell
restated k c = record { first = c.first; second = c.second; premium = c.premium; state = k; content = c.content }

-- as much up as down
pub level : (k : ℕ) (c : Cell) → c.premium + k < 2147483648 → shift_cell k k c ≡ c
level k c h = go (eqb c.content 0)
  where
    same : (c.premium + k - k) % 2147483648 ≡ c.premium
    same = omega arith

    go : (b : Bool) → cond b c (priced (c.premium + k - k) c) ≡ c
    go true = refl
    go false = ap (λ (p : ℕ). record { first = c.first; second = c.second; premium = p; state = c.state; content = c.content }) same

-- down once it went up
pub up_down : (c : Cell) → c.premium + 1 < 2147483648 → shift_cell 0 1 (shift_cell 1 0 c) ≡ c
up_down c h = go (eqb c.content 0) refl
  where
    same : ((c.premium + 1 - 0) % 2147483648 + 0 - 1) % 2147483648 ≡ c.premium
    same = omega arith

    go : (b : Bool) → eqb c.content 0 ≡ b → shift_cell 0 1 (cond b c (priced (c.premium + 1 - 0) c)) ≡ c
    go true e = ap (λ (b : Bool). cond b c (priced (c.premium + 0 - 1) c)) e
    go false e =
        ap (λ (b : Bool). cond b (priced (c.premium + 1 - 0) c) (priced ((c.premium + 1 - 0) % 2147483648 + 0 - 1) c)) e
        ∙ ap (λ (p : ℕ). record { first = c.first; second = c.second; premium = p; state = c.state; content = c.content }) same

-- a cell's gain falls by p, its cost by q: its premium goes q up and p down
pub moved : (g : Grid) (s t : Position) (x p q : ℕ) → x < size g → p ≤ 1 → q ≤ 1
    → (T (safe g x) → gain g s x ≡ gain g t x + p) → (T (safe g x) → cost g s x ≡ cost g t x + q)
    → shift_cell q p (restated (get_or t x 0) (held_cell g s x)) ≡ held_cell g t x
unfolding raised content
moved g s t x p q h pb qb e f = go (mine g x) refl
  where
    cell : ℕ → ℕ → Cell
    cell k m = record { first = first_label g x; second = second_label g x; premium = m; state = get_or t x 0; content = k }

    go : (b : Bool) → mine g x ≡ b
        → cond (eqb (cond b 0 (1 + number g x)) 0)
        (cell (cond b 0 (1 + number g x)) (cond b 0 (10 + gain g s x - cost g s x)))
        (cell (cond b 0 (1 + number g x)) ((cond b 0 (10 + gain g s x - cost g s x) + q - p) % 2147483648))
        ≡ cell (cond b 0 (1 + number g x)) (cond b 0 (10 + gain g t x - cost g t x))
    go true m = refl
    go false m =
        let u : T (safe g x) = rw m tt in
        let a = gain_range g s x h in
        let b = cost_range g s x h u in
        let c = e u in
        let d = f u in
        rw (ne_eqb (1 + number g x) 0 (λ z. absurd (omega arith))) (ap (cell (1 + number g x)) (omega arith))
