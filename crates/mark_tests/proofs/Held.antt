-- What the content and the state of a cell in a work area say of it. Assumes nothing.
use Prim.Native.Nat.{ℕ, ◌<◌}
use mathlib.Core.Path.{◌∙◌, ◌≡◌, ap, ap₂, subst, sym}
use mathlib.Core.Bool.{Bool, ◌&&◌}
use mathlib.Core.List.{List}
use lib.Dec.{T, eqb, eqb→eq}
use lib.IntN.{ℤ}
use Rattle.area.specs.Numbers.{content_at}
use Rattle.area.specs.Stages.{content}
use Rattle.game.specs.Grid.{Grid, size, zero_cell}
use Rattle.game.specs.Position.{Position, closed}
use Rattle.area.proofs.Held.{Holds, content_zero}
use Rattle.mark_tests.specs.Tests.{closed_zero_at}

module _ (g : Grid) (s : Position) (w : List ℤ) (r : Holds g s w) where
  -- a cell of another content is no 0-cell
  pub other_content : (i : ℕ) → i < size g → (content_at w i ≡ 1 → ⊥) → T (zero_cell g i) → ⊥
  other_content i h f t = f (r.contents i h ∙ eqb→eq (content g i) 1 (subst T (sym (content_zero g i h)) t))

  -- a closed 0-cell
  pub closed_zero_there : (i : ℕ) → i < size g → closed_zero_at w i ≡ (zero_cell g i && closed s i)
  closed_zero_there i h =
      ap₂ (λ (k n : ℕ). eqb k 1 && eqb n 0) (r.contents i h) (r.states i h) ∙ ap (λ (b : Bool). b && closed s i) (content_zero g i h)
