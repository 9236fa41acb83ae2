-- Whether C may be played, by what is read of the cell and the flags counted: no mine is opened, so the content tells the number. Assumes nothing.
use Prim.Native.Nat.{ℕ, ◌*◌, ◌+◌, ◌-◌, ◌<◌}
use native.Mathlib.Omega.{arith}
use mathlib.Core.Path.{◌∙◌, ◌≡◌, ap, refl, subst, sym}
use mathlib.Core.Bool.{Bool, ◌&&◌, cond, false, not, true}
use mathlib.Core.List.{List}
use lib.Dec.{T, T_not, eqb, eqb→eq}
use lib.IntN.{ℤ}
use lib.ListN.{get_or}
use Rattle.area.specs.Numbers.{content_at, state_at}
use Rattle.area.specs.Squares.{square_of}
use Rattle.area.specs.Stages.{Moving, content}
use Rattle.game.specs.Grid.{Grid, mine, number, square, zero_cell}
use Rattle.game.specs.Lists.{count}
use Rattle.game.specs.Moves.{chordable}
use Rattle.game.specs.Position.{Position, Sane, flagged, opened}
use Rattle.area.proofs.Held.{content_zero}
use Rattle.game.proofs.Counts.{count_ext}
use Rattle.game.proofs.Squares.{square→}
use Rattle.game.proofs.Truth.{and_left, and_right, no→false}
use Rattle.replay.specs.Clicks.{flagged_at}
use Rattle.replay.proofs.Cells.{content_read, inside, size_is, square_is, state_read}
use borrow.Author.Tests.{eq-eqb, ne_eqb}

module _ (rows columns : ℕ) (g : Grid) (s : Position) (old w : List ℤ) (i : ℕ) (h : i < rows * columns) (m : Moving rows columns g s old w) (state : ℕ) (es : state ≡ state_at w i) where
  abbrev enough : Bool
  enough = eqb (count (flagged s) (square g i)) (number g i)

  state_is : state ≡ get_or s i 0
  state_is = es ∙ state_read rows columns g s old w m i h

  at_i : (k : ℕ) → k ≡ content_at w i → k ≡ content g i
  at_i k e = e ∙ content_read rows columns g s old w m i h

  pub not_opened : (state ≡ 1 → ⊥) → false ≡ chordable g s i
  unfolding chordable
  not_opened n =
      sym (no→false (chordable g s i) (λ t. n (state_is ∙ eqb→eq (get_or s i 0) 1
      (and_left (opened s i) (not (zero_cell g i)) (and_left (opened s i && not (zero_cell g i)) enough t)))))

  pub zero_opened : (k : ℕ) → k ≡ content_at w i → k ≡ 1 → false ≡ chordable g s i
  unfolding chordable
  zero_opened k e o =
      sym (no→false (chordable g s i) (λ t. T_not (zero_cell g i)
      (and_right (opened s i) (not (zero_cell g i)) (and_left (opened s i && not (zero_cell g i)) enough t))
      (subst T (sym (eq-eqb (content g i) 1 (sym (at_i k e) ∙ o)) ∙ content_zero g i (inside rows columns g s old w m i h)) tt)))

  -- the flags of the square
  flags_counted : (n : ℕ) → n ≡ count (flagged_at w) (square_of rows columns i) → n ≡ count (flagged s) (square g i)
  flags_counted n e =
      e ∙ ap (count (flagged_at w)) (square_is rows columns g s old w m i)
      ∙ count_ext (flagged_at w) (flagged s) (square g i) (λ j t. ap (λ (v : ℕ). eqb v 2)
      (state_read rows columns g s old w m j (omega (arith, (square→ g i j (inside rows columns g s old w m i h) t).0, size_is rows columns g s old w m))))

  -- an opened cell is safe, so its number is 1 less than its content
  number_told : Sane g s → state ≡ 1 → (k n : ℕ) → k ≡ content_at w i → n ≡ k - 1 → n ≡ number g i
  unfolding content
  number_told f o k n e d = go (mine g i) refl (at_i k e)
    where
      go : (b : Bool) → mine g i ≡ b → k ≡ cond b 0 (1 + number g i) → n ≡ number g i
      go true q c = absurd (subst T (f.mines i (inside rows columns g s old w m i h) (rw q tt)) (subst T (sym (eq-eqb (get_or s i 0) 1 (sym state_is ∙ o))) tt))
      go false q c = omega arith

  pub flags_decide : Sane g s → state ≡ 1 → (k n flags : ℕ) → k ≡ content_at w i → (k ≡ 1 → ⊥) → n ≡ k - 1 → flags ≡ count (flagged_at w) (square_of rows columns i) → eqb flags n ≡ chordable g s i
  unfolding chordable
  flags_decide f o k n flags e x d c =
      rw (flags_counted flags c, number_told f o k n e d, ← state_is, o, ← content_zero g i (inside rows columns g s old w m i h), ← at_i k e, ne_eqb k 1 x)
