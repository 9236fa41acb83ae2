-- What L opens, cell by cell: the spread is what the words say. Assumes nothing.
use Prim.Native.Nat.{ℕ, ◌<◌}
use native.Mathlib.Omega.{arith}
use native.Mathlib.Decide.{ℕ_discrete}
use mathlib.Core.Path.{◌∙◌, ◌≡◌, ap, refl, sym}
use mathlib.Core.Logic.{⊎_elim}
use mathlib.Core.Bool.{Bool, ◌&&◌, ◌||◌, cond, false, true}
use lib.Dec.{T, eqb, eqb_refl, eqb→eq, not_T}
use lib.ListN.{get_or, length, set}
use lib.Seq.{get_or-set_other, get_or-set_same}
use Rattle.game.specs.Grid.{Grid, mine, safe, size, square, zero_cell}
use Rattle.game.specs.Lists.{has}
use Rattle.game.specs.Moves.{reveal, spread, sweep}
use Rattle.game.specs.Openings.{Chain, holds, itself}
use Rattle.game.specs.Position.{Position, closed, flagged}
use Rattle.game.proofs.Chains.{chain_first, chain_last}
use Rattle.game.proofs.Members.{some_yes, yes_some}
use Rattle.game.proofs.Openings.{chained_to→, →chainedTo}
use Rattle.game.proofs.Squares.{close_sym, get_d_cells, in-own-square, square→, →square}
use Rattle.game.proofs.Truth.{T→true, and_both, and_false, and_left, and_right, iff, no→false, or_cases, or_left, or_right}
use Rattle.game.proofs.Zeros.{Zero, zero→}
use borrow.Author.Tests.{eq-eqb, ne_eqb}

-- ---- what the words say

-- a closed unflagged 0-cell, which the spread passes through
abbrev pub passed : Grid → Position → ℕ → Bool
passed g s k = zero_cell g k && closed s k

-- a chain of closed unflagged 0-cells from a to b
abbrev pub Way : Grid → Position → ℕ → ℕ → Type 0
Way g s a b = Chain g (passed g s) a b

-- the cells that L on a closed unflagged safe cell i opens: closed, unflagged, and i itself or in the square of a 0-cell that a chain of closed unflagged 0-cells joins to i
pub data OpensAt (g : Grid) (s : Position) (i j : ℕ) : Type 0 where
  the_cell : j ≡ i → T (closed s j) → OpensAt g s i j
  by_spread : (z : ℕ) → Way g s i z → T (has j (square g z)) → T (closed s j) → OpensAt g s i j

-- i is closed, unflagged and safe, and L on it opens j
pub record OpenedFrom (g : Grid) (s : Position) (i j : ℕ) : Type 0 where
  pub is_safe : T (safe g i)
  pub is_closed : T (closed s i)
  pub opens : OpensAt g s i j

-- L on i opens j, as a test
unfoldable pub click_opens : Grid → Position → ℕ → ℕ → Bool
click_opens g s i j = (safe g i && closed s i) && (closed s j && (eqb j i || (zero_cell g i && holds g j (spread g s i))))

-- what L opens was closed
pub opens_closed : (g : Grid) (s : Position) (i j : ℕ) → OpensAt g s i j → T (closed s j)
opens_closed g s i j (the_cell e t) = t
opens_closed g s i j (by_spread z c u t) = t

-- and not flagged
pub flagged_off : (s : Position) (j : ℕ) → T (flagged s j) → T (closed s j) → ⊥
flagged_off s j t u = omega (arith, eqb→eq (get_or s j 0) 2 t, eqb→eq (get_or s j 0) 0 u)

-- a way ends at a 0-cell
pub way_zero : (g : Grid) (s : Position) (a b : ℕ) → Way g s a b → Zero g b
way_zero g s a b w =
    let p = chain_last g (passed g s) a b w in
    record { inside = p.inside; none = and_left (zero_cell g b) (closed s b) p.test }

-- a cell that L on a safe cell opens is safe
pub opens_safe : (g : Grid) (s : Position) (i j : ℕ) → T (safe g i) → OpensAt g s i j → T (safe g j)
opens_safe g s i j t (the_cell e u) = rw e t
opens_safe g s i j t (by_spread z w u v) =
    let zz = way_zero g s i z w in
    let b = square→ g z j zz.inside u in
    not_T (mine g j) (zero→ g z j zz b.0 b.1)

-- ---- the test says the same

module _ (g : Grid) (s : Position) (i j : ℕ) (hi : i < size g) (hj : j < size g) where
  -- j stands near the spread from i
  held→ : T (closed s i) → T (closed s j) → T (zero_cell g i && holds g j (spread g s i)) → OpensAt g s i j
  held→ c u t =
      let z = and_left (zero_cell g i) (holds g j (spread g s i)) t in
      let w = yes_some (λ k. has k (spread g s i)) (square g j) (and_right (zero_cell g i) (holds g j (spread g s i)) t) in
      let b = square→ g j w.0 hj w.1 in
      by_spread w.0
      (chained_to→ g (passed g s) i w.0 (record { inside = hi; test = and_both (zero_cell g i) (closed s i) z c }) w.2)
      (→square g w.0 j b.0 hj (close_sym g j w.0 b.1)) u

  →held : (z : ℕ) → Way g s i z → T (has j (square g z)) → T (zero_cell g i && holds g j (spread g s i))
  →held z w u =
      let h = (way_zero g s i z w).inside in
      and_both (zero_cell g i) (holds g j (spread g s i))
      (and_left (zero_cell g i) (closed s i) (chain_first g (passed g s) i z w).test)
      (some_yes (λ k. has k (spread g s i)) z (square g j) (→square g j z hj h (close_sym g z j (square→ g z j h u).1))
      (→chainedTo g (passed g s) i z w))

  -- if the test passes, L on i opens j
  pub click_opens→ : T (click_opens g s i j) → OpenedFrom g s i j
  unfolding click_opens
  click_opens→ t =
      let near = eqb j i || (zero_cell g i && holds g j (spread g s i)) in
      let a = and_left (safe g i && closed s i) (closed s j && near) t in
      let b = and_right (safe g i && closed s i) (closed s j && near) t in
      let c = and_right (safe g i) (closed s i) a in
      let u = and_left (closed s j) near b in
      record {
        is_safe = and_left (safe g i) (closed s i) a;
        is_closed = c;
        opens = ⊎_elim (λ e. the_cell (eqb→eq j i e) u) (λ v. held→ c u v)
            (or_cases (eqb j i) (zero_cell g i && holds g j (spread g s i)) (and_right (closed s j) near b));
      }

  -- and the other way round
  pub →clickOpens : OpenedFrom g s i j → T (click_opens g s i j)
  unfolding click_opens
  →clickOpens o =
      let near = eqb j i || (zero_cell g i && holds g j (spread g s i)) in
      and_both (safe g i && closed s i) (closed s j && near) (and_both (safe g i) (closed s i) o.is_safe o.is_closed)
      (and_both (closed s j) near (opens_closed g s i j o.opens) (go o.opens))
    where
      go : OpensAt g s i j → T (eqb j i || (zero_cell g i && holds g j (spread g s i)))
      go (the_cell e t) = or_left (eqb j i) (zero_cell g i && holds g j (spread g s i)) (rw e (eqb_refl i))
      go (by_spread z w u t) = or_right (eqb j i) (zero_cell g i && holds g j (spread g s i)) (→held z w u)

-- ---- one cell

-- the states after a sweep
pub sweep_at : (g : Grid) (s : Position) (i j : ℕ) → j < size g → get_or (sweep g s i) j 0 ≡ cond (closed s j && holds g j (spread g s i)) 1 (get_or s j 0)
unfolding sweep
sweep_at g s i j h = get_d_cells g (λ j. cond (closed s j && holds g j (spread g s i)) 1 (get_or s j 0)) j h

-- the closed 0-cell itself stands near its spread
own_spread : (g : Grid) (s : Position) (i : ℕ) → i < size g → T (zero_cell g i) → T (closed s i) → T (holds g i (spread g s i))
own_spread g s i h z c =
    and_right (zero_cell g i) (holds g i (spread g s i))
    (→held g s i i h h i (itself h (and_both (zero_cell g i) (closed s i) z c)) (in-own-square g i h))

module _ (g : Grid) (s : Position) (i j : ℕ) (hi : i < size g) (hj : j < size g) (l : length s ≡ size g) where
  -- a cell is opened if the test says so, and else it stays as it is
  pub reveal_at : get_or (reveal g s i) j 0 ≡ cond (click_opens g s i j) 1 (get_or s j 0)
  unfolding reveal click_opens
  reveal_at = go (safe g i && closed s i) refl (zero_cell g i) refl
    where
      -- the cell's own square is part of the spread's
      part : (b : Bool) → (j ≡ i → T b) → b ≡ (eqb j i || b)
      part b h = iff b (eqb j i || b) (or_right (eqb j i) b) (λ t. ⊎_elim (λ e. h (eqb→eq j i e)) (λ u. u) (or_cases (eqb j i) b t))

      go : (b : Bool) → (safe g i && closed s i) ≡ b → (z : Bool) → zero_cell g i ≡ z
          → get_or (elim b [ true ↦ elim z [ true ↦ sweep g s i | false ↦ set s i 1 ] | false ↦ s ]) j 0
          ≡ cond (b && (closed s j && (eqb j i || (z && holds g j (spread g s i))))) 1 (get_or s j 0)
      go false e z k = refl
      go true e true k =
          sweep_at g s i j hj
          ∙ ap (λ (b : Bool). cond (closed s j && b) 1 (get_or s j 0))
          (part (holds g j (spread g s i)) (λ q. rw q (own_spread g s i hi (rw k tt) (and_right (safe g i) (closed s i) (rw e tt)))))
      go true e false k =
          elim (ℕ_discrete j i) [
            | yes q ↦ ap (λ (x : ℕ). get_or (set s i 1) x 0) q ∙ get_or-set_same s i 1 0 (omega arith)
                ∙ sym (ap (λ (b : Bool). cond (closed s j && (b || false)) 1 (get_or s j 0)) (eq-eqb j i q)
                ∙ ap (λ (b : Bool). cond (b && true) 1 (get_or s j 0)) (T→true (closed s j) (rw q (and_right (safe g i) (closed s i) (rw e tt)))))
            | no n ↦ get_or-set_other s i j 1 0 n
                ∙ sym (ap (λ (b : Bool). cond (closed s j && (b || false)) 1 (get_or s j 0)) (ne_eqb j i n)
                ∙ ap (λ (b : Bool). cond b 1 (get_or s j 0)) (sym (and_false (closed s j))))
          ]

  -- L on a closed unflagged safe cell opens what the words say
  pub reveal_opens : T (safe g i) → T (closed s i) → OpensAt g s i j → get_or (reveal g s i) j 0 ≡ 1
  reveal_opens t c o =
      reveal_at ∙ ap (λ (b : Bool). cond b 1 (get_or s j 0))
      (T→true (click_opens g s i j) (→clickOpens g s i j hi hj (record { is_safe = t; is_closed = c; opens = o })))

  -- and leaves the others
  pub reveal_leaves : (OpensAt g s i j → ⊥) → get_or (reveal g s i) j 0 ≡ get_or s j 0
  reveal_leaves n =
      reveal_at ∙ ap (λ (b : Bool). cond b 1 (get_or s j 0)) (no→false (click_opens g s i j) (λ t. n (click_opens→ g s i j hi hj t).opens))
