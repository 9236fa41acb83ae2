-- A run filled one entry after the other, and lent memory after DRAWS or an early count. Assumes nothing.
use Prim.Native.Nat.{ℕ, ◌*◌, ◌≤◌}
use native.Mathlib.Omega.{arith}
use native.Mathlib.Decide.{dec_le}
use mathlib.Core.Path.{◌≡◌, ap, refl, sym, ◌∙◌}
use mathlib.Core.List.{List}
use lib.IntN.{ℤ, pos}
use lib.ListN.{get_or, get_or-replicate, length, length-replicate, replicate}
use lib.Seq.{ext_get_or}
use Rattle.game.specs.Grid.{Grid, size}
use Rattle.game.specs.Position.{Position}
use Rattle.game.specs.Area.{cleared, cleared_area, cleared_list}
use Rattle.game.proofs.Areas.{begun_front, begun_past, laid_past, length_begun}
use Rattle.area.specs.Stages.{held_five, held}
use Rattle.area.proofs.Held.{length_held}
use Rattle.clears.specs.Clearing.{Cleared}

module _ {A : Type 0} (nought : A) (old : List A) where
  -- it is the only such run
  pub cleared_only : (n : ℕ) (new : List A) → n ≤ length old → Cleared nought n old new → new ≡ cleared nought n old
  cleared_only n new h c = ext_get_or nought new (cleared nought n old) (c.long ∙ sym (length_begun (replicate n nought) old (omega (arith, length-replicate n nought)))) (λ k b. same_at k (dec_le n k))
    where
      same_at : (k : ℕ) → Dec (n ≤ k) → get_or new k nought ≡ get_or (cleared nought n old) k nought
      same_at k (yes b) = c.past k b ∙ sym (begun_past (replicate n nought) old k nought (omega (arith, length-replicate n nought)))
      same_at k (no b) =
          c.front k (omega arith)
          ∙ sym (begun_front (replicate n nought) old k nought (omega (arith, length-replicate n nought)) ∙ get_or-replicate n k nought nought (omega arith))

  -- filled after other entries below n had changed
  pub cleared_since : (n : ℕ) (mid new : List A) → length mid ≡ length old → ((k : ℕ) → n ≤ k → get_or mid k nought ≡ get_or old k nought) → Cleared nought n mid new → Cleared nought n old new
  cleared_since n mid new e p c = record { long = c.long ∙ e; front = c.front; past = λ k h. c.past k h ∙ p k h }

-- the work area, whatever its cells' numbers were
pub cells_cleared : (g : Grid) (old w w' : List ℤ) → 5 * size g ≤ length old → length w ≡ length old → ((k : ℕ) → 5 * size g ≤ k → get_or w k (pos 0) ≡ get_or old k (pos 0))
    → Cleared (pos 0) (5 * size g) w w' → w' ≡ cleared_area g old
unfolding cleared_area
cells_cleared g old w w' h e p c = cleared_only (pos 0) old (5 * size g) w' h (cleared_since (pos 0) old (5 * size g) w w' e p c)

-- the work area after DRAWS, whatever position it stood for
pub area_cleared : (g : Grid) (s : Position) (old w w' : List ℤ) → 5 * size g ≤ length old → w ≡ held g s old → Cleared (pos 0) (5 * size g) w w' → w' ≡ cleared_area g old
unfolding held_five
area_cleared g s old w w' h e c =
    cells_cleared g old w w' h (ap length e ∙ length_held g s old h)
    (λ k b. ap (λ (v : List ℤ). get_or v k (pos 0)) e ∙ laid_past (held_five g s) (λ i. refl) (size g) old k b) c

-- the list after DRAWS, whatever was noted in it
pub list_cleared : (g : Grid) (old l l' : List ℕ) → size g ≤ length old → length l ≡ length old → ((k : ℕ) → size g ≤ k → get_or l k 0 ≡ get_or old k 0) → Cleared 0 (size g) l l' → l' ≡ cleared_list g old
unfolding cleared_list
list_cleared g old l l' h e p c = cleared_only 0 old (size g) l' h (cleared_since 0 old (size g) l l' e p c)
