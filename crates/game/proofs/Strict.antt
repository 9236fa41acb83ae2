-- The strict checks by the values: the verdict is the lowest wrong cell's, and a value is wrong exactly if it is another than the right one, so what they accept are the canonical grids. Assumes nothing.
use Prim.Native.Nat.{ℕ, zero, suc, ◌+◌, ◌-◌, ◌<◌, ◌≤◌}
use native.Mathlib.Decide.{ℕ_discrete}
use native.Mathlib.Omega.{arith}
use mathlib.Core.Path.{◌∙◌, ◌≡◌, ap, refl, subst, sym}
use mathlib.Core.Logic.{◌⊎◌, inl, inr, ⊎_elim}
use mathlib.Core.Bool.{Bool, false, not, true}
use mathlib.Core.List.{map}
use mathlib.Core.Option.{Option, some-ne-none, none, some}
use borrow.Author.Tests.{eqb-true, not-false}
use lib.Dec.{T, leb, leb→le}
use lib.IntN.{negsuc, pos, ℤ, ℤ_discrete}
use lib.ListN.{length}
use lib.Signed.{le_z, ≤ℤ_refl}
use Rattle.game.specs.Calls.{Check, Refusal, board, board_checks, first_given, number_wrong, number_check, shape, strict_checks}
use Rattle.game.specs.Grid.{Grid, canonical, cells, right_value, same, size, value_at, wrong}
use Rattle.game.specs.Lists.{from}
use Rattle.game.proofs.Canonical.{canonical_value, right_canonical}
use Rattle.game.proofs.Checks.{each_fails, first_decides, given_each, none_given, others_decide}
use Rattle.game.proofs.Draws.{IfSome}
use Rattle.game.proofs.Members.{map_each}
use Rattle.game.proofs.Truth.{T→true, and_both, and_left, and_right}

-- ---- wrong values

-- two numbers that pass the test are equal
same→ : (a b : ℤ) → T (same a b) → a ≡ b
same→ (pos a) (pos b) t =
    ap pos (omega (arith, leb→le a b (and_left (leb a b) (leb b a) t), leb→le b a (and_right (leb a b) (leb b a) t)))
same→ (pos a) (negsuc b) t = absurd t
same→ (negsuc a) (pos b) t = absurd t
same→ (negsuc a) (negsuc b) t =
    ap negsuc (omega (arith, leb→le b a (and_left (leb b a) (leb a b) t), leb→le a b (and_right (leb b a) (leb a b) t)))

-- a number passes the test with itself
same_self : (a : ℤ) → same a a ≡ true
same_self a = T→true (same a a) (and_both (le_z a a) (le_z a a) (≤ℤ_refl a).le (≤ℤ_refl a).le)

-- a value that is not wrong is the right one
pub wrong_no : (g : Grid) (i : ℕ) → wrong g i ≡ false → value_at g i ≡ right_value g i
unfolding wrong
wrong_no g i e = same→ (value_at g i) (right_value g i) (subst T (sym (not-false (same (value_at g i) (right_value g i)) e)) tt)

-- the right value is not wrong
pub right_no : (g : Grid) (i : ℕ) → value_at g i ≡ right_value g i → wrong g i ≡ false
unfolding wrong
right_no g i e = ap (λ (v : ℤ). not (same (value_at g i) v)) (sym e) ∙ ap not (same_self (value_at g i))

-- any other value is wrong
other_yes : (g : Grid) (i : ℕ) → (value_at g i ≡ right_value g i → ⊥) → wrong g i ≡ true
other_yes g i d = go (wrong g i) refl
  where
    go : (b : Bool) → wrong g i ≡ b → b ≡ true
    go true e = refl
    go false e = absurd (d (wrong_no g i e))

-- ---- the lowest wrong cell

module _ (g : Grid) where
  -- the verdict of the cells from a on, n of them
  abbrev verdict : ℕ → ℕ → Option Refusal
  verdict a n = first_given (map (number_check g) (from a n))

  -- by the test of the first of them
  by_first : (a n : ℕ) (b : Bool) → wrong g a ≡ b → verdict a (suc n) ≡ elim b [ true ↦ some (number_wrong a) | false ↦ verdict (suc a) n ]
  by_first a n b e = ap (λ (x : Bool). elim x [ true ↦ some (number_wrong a) | false ↦ verdict (suc a) n ]) e

  none_from : (a n : ℕ) → ((i : ℕ) → a ≤ i → i < a + n → wrong g i ≡ false) → verdict a n ≡ none
  none_from a zero h = refl
  none_from a (suc n) h = by_first a n false (h a (omega arith) (omega arith)) ∙ none_from (suc a) n (λ i k l. h i (omega arith) (omega arith))

  some_from : (a n i : ℕ) → a ≤ i → i < a + n → wrong g i ≡ true → ((j : ℕ) → a ≤ j → j < i → wrong g j ≡ false) → verdict a n ≡ some (number_wrong i)
  some_from a zero i h k w l = absurd (omega arith)
  some_from a (suc n) i h k w l =
      elim (ℕ_discrete a i) [
        | yes e ↦ by_first a n true (ap (wrong g) e ∙ w) ∙ ap (λ (c : ℕ). some (number_wrong c)) e
        | no e ↦ by_first a n false (l a (omega arith) (omega arith)) ∙ some_from (suc a) n i (omega arith) (omega arith) w (λ j p q. l j (omega arith) q)
      ]

  -- no value is wrong
  pub numbers_none : ((i : ℕ) → i < size g → wrong g i ≡ false) → first_given (map (number_check g) (cells g)) ≡ none
  numbers_none h = none_from 0 (size g - 0) (λ i k l. h i (omega arith))

  -- a cell is wrong, and no lower one
  pub numbers_some : (i : ℕ) → i < size g → wrong g i ≡ true → ((j : ℕ) → j < i → wrong g j ≡ false) → first_given (map (number_check g) (cells g)) ≡ some (number_wrong i)
  numbers_some i h w l = some_from 0 (size g - 0) i (omega arith) (omega arith) w (λ j p q. l j q)

-- ---- one or the other: every value is right, or there is a lowest cell at fault

-- every value is right
pub record AllRight (g : Grid) : Type 0 where
  pub at : (i : ℕ) → i < size g → value_at g i ≡ right_value g i

-- the lowest cell at fault
pub record Fault (g : Grid) : Type 0 where
  pub cell : ℕ
  pub inside : cell < size g
  pub differs : value_at g cell ≡ right_value g cell → ⊥
  pub lower : (j : ℕ) → j < cell → value_at g j ≡ right_value g j

-- every value below a cell is right
abbrev RightBelow : Grid → ℕ → Type 0
RightBelow g n = (i : ℕ) → i < n → value_at g i ≡ right_value g i

-- one cell after the other
right_below : (g : Grid) (n : ℕ) → n ≤ size g → RightBelow g n ⊎ Fault g
right_below g zero h = inl (λ i l. absurd (omega arith))
right_below g (suc n) h = ⊎_elim one_more inr (right_below g n (omega arith))
  where
    one_more : RightBelow g n → RightBelow g (suc n) ⊎ Fault g
    one_more r =
        elim (ℤ_discrete (value_at g n) (right_value g n)) [
          | yes e ↦ inl (λ i l. elim (ℕ_discrete i n) [ yes q ↦ rw q e | no q ↦ r i (omega arith) ])
          | no d ↦ inr (record { cell = n; inside = h; differs = d; lower = r })
        ]

pub right_or_fault : (g : Grid) → AllRight g ⊎ Fault g
right_or_fault g = ⊎_elim (λ r. inl (record { at = r })) inr (right_below g (size g) (omega arith))

-- ---- the verdict

-- SHAPE and BOARD come first
pub verdict_board : (g : Grid) (f : Refusal) → first_given (board_checks g) ≡ some f → first_given (strict_checks g) ≡ some f
verdict_board g f e = first_decides (board_checks g) (map (number_check g) (cells g)) f e

module _ (g : Grid) (passes : first_given (board_checks g) ≡ none) where
  -- then none where every value is right
  pub verdict_right : AllRight g → first_given (strict_checks g) ≡ none
  verdict_right r = others_decide (board_checks g) (map (number_check g) (cells g)) passes ∙ numbers_none g (λ i l. right_no g i (r.at i l))

  -- or NUMBER of the lowest cell at fault
  pub verdict_fault : (f : Fault g) → first_given (strict_checks g) ≡ some (number_wrong f.cell)
  verdict_fault f =
      others_decide (board_checks g) (map (number_check g) (cells g)) passes
      ∙ numbers_some g f.cell f.inside (other_yes g f.cell f.differs) (λ j l. right_no g j (f.lower j l))

-- ---- what the strict checks accept

-- a grid that they accept passes SHAPE and BOARD
pub accepted_board : (g : Grid) → first_given (strict_checks g) ≡ none → first_given (board_checks g) ≡ none
accepted_board g e = let h = each_fails (strict_checks g) e in none_given (board_checks g) (h.0, (h.1.0, tt))

-- and each of its values is right
accepted_right : (g : Grid) → first_given (strict_checks g) ≡ none → AllRight g
accepted_right g e =
    ⊎_elim (λ r. r) (λ f. absurd (some-ne-none _ (sym (verdict_fault g (accepted_board g e) f) ∙ e))) (right_or_fault g)

-- so it is canonical
pub accepted→ : (g : Grid) → first_given (strict_checks g) ≡ none → g ≡ canonical g
accepted→ g e =
    let h = each_fails (strict_checks g) e in
    right_canonical g (eqb-true (length g.values) (size g) (not-false _ h.1.0)) (accepted_right g e).at

-- a canonical grid is accepted
pub →accepted : (g : Grid) → first_given (board_checks g) ≡ none → g ≡ canonical g → first_given (strict_checks g) ≡ none
→accepted g passes e = verdict_right g passes (record { at = λ i l. ap (λ (h : Grid). value_at h i) e ∙ canonical_value g i l })

-- ---- what the strict checks refuse with

-- SHAPE, BOARD, or NUMBER of a cell
pub strict_named : (P : Refusal → Type 0) (g : Grid) → P shape → P board → ((i : ℕ) → P (number_wrong i)) → IfSome P (first_given (strict_checks g))
strict_named P g s b n = given_each P (strict_checks g) (s, (b, map_each (λ (c : Check). P c.refusal) (number_check g) (cells g) n))
