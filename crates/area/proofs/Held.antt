-- What a work area that stands for a position holds of each cell, and what the content says of the cell. Assumes nothing.
use Prim.Native.Nat.{ℕ, ◌*◌, ◌+◌, ◌-◌, ◌<◌, ◌≤◌}
use native.Mathlib.Omega.{arith}
use mathlib.Core.Path.{◌∙◌, ◌≡◌, ap, refl, subst, sym}
use mathlib.Core.Bool.{Bool, cond, false, true}
use mathlib.Core.List.{List}
use lib.Dec.{T, eqb, eqb→eq}
use lib.IntN.{ℤ}
use lib.ListN.{get_or, length}
use Rattle.game.specs.Grid.{Grid, mine, number, size, square, zero_cell}
use Rattle.game.specs.Lists.{count}
use Rattle.game.specs.Openings.{first_label, second_label}
use Rattle.game.specs.Position.{Position, cost, gain}
use Rattle.game.proofs.Areas.{laid_length}
use Rattle.game.proofs.Counts.{count_le}
use Rattle.game.proofs.Ranges.{gain_range, length_square}
use Rattle.game.proofs.Squares.{self_close}
use Rattle.game.proofs.Truth.{iff, no→false}
use Rattle.game.proofs.Zeros.{zero→}
use Rattle.area.specs.Numbers.{first_at, content_at, premium_at, second_at, state_at}
use Rattle.area.specs.Stages.{Stands, held, held_five, content, raised}
use Rattle.area.proofs.CellByCell.{Cell, cell_area, read_first, read_content, read_premium, read_second, read_state}
use borrow.Author.Tests.{eq-eqb, ne_eqb}

-- the work area during play is as long as it was
pub length_held : (g : Grid) (s : Position) (old : List ℤ) → 5 * size g ≤ length old → length (held g s old) ≡ length old
unfolding held_five
length_held g s old h = laid_length (held_five g s) (λ i. refl) (size g) old h

-- ---- a cell's numbers

-- a cell of a position
abbrev pub held_cell : Grid → Position → ℕ → Cell
held_cell g s x =
    record { first = first_label g x; second = second_label g x; premium = raised g s x; state = get_or s x 0; content = content g x }

pub held_cells : (g : Grid) (s : Position) (old : List ℤ) → held g s old ≡ cell_area (held_cell g s) (size g) old
unfolding held_five
held_cells g s old = refl

-- each of its five numbers
pub record Holds (g : Grid) (s : Position) (w : List ℤ) : Type 0 where
  pub firsts : (i : ℕ) → i < size g → first_at w i ≡ first_label g i
  pub seconds : (i : ℕ) → i < size g → second_at w i ≡ second_label g i
  pub premiums : (i : ℕ) → i < size g → premium_at w i ≡ raised g s i
  pub states : (i : ℕ) → i < size g → state_at w i ≡ get_or s i 0
  pub contents : (i : ℕ) → i < size g → content_at w i ≡ content g i

pub held_numbers : (rows columns : ℕ) (g : Grid) (s : Position) (old w : List ℤ) → Stands rows columns g s old w → Holds g s w
held_numbers rows columns g s old w t =
    let e : w ≡ cell_area (held_cell g s) (size g) old = t.holds_it ∙ held_cells g s old in
    record {
      firsts = λ i h. ap (λ (v : List ℤ). first_at v i) e ∙ read_first (size g) old t.room (held_cell g s) i h;
      seconds = λ i h. ap (λ (v : List ℤ). second_at v i) e ∙ read_second (size g) old t.room (held_cell g s) i h;
      premiums = λ i h. ap (λ (v : List ℤ). premium_at v i) e ∙ read_premium (size g) old t.room (held_cell g s) i h;
      states = λ i h. ap (λ (v : List ℤ). state_at v i) e ∙ read_state (size g) old t.room (held_cell g s) i h;
      contents = λ i h. ap (λ (v : List ℤ). content_at v i) e ∙ read_content (size g) old t.room (held_cell g s) i h;
    }

-- ---- what the content says

-- content 0 is a mine
pub content_mine : (g : Grid) (x : ℕ) → eqb (content g x) 0 ≡ mine g x
unfolding content
content_mine g x = go (mine g x)
  where
    go : (b : Bool) → eqb (cond b 0 (1 + number g x)) 0 ≡ b
    go true = refl
    go false = ne_eqb (1 + number g x) 0 (λ e. absurd (omega arith))

-- a safe cell of content 1 has number 0
pub one_more : (n : ℕ) → eqb (1 + n) 1 ≡ eqb n 0
one_more n =
    iff (eqb (1 + n) 1) (eqb n 0)
    (λ t. subst T (sym (eq-eqb n 0 (omega (arith, eqb→eq (1 + n) 1 t)))) tt)
    (λ t. subst T (sym (eq-eqb (1 + n) 1 (omega (arith, eqb→eq n 0 t)))) tt)

-- content 1 is a 0-cell: a mine has no number 0
pub content_zero : (g : Grid) (i : ℕ) → i < size g → eqb (content g i) 1 ≡ zero_cell g i
unfolding content
content_zero g i h = go (mine g i) refl
  where
    go : (b : Bool) → mine g i ≡ b → eqb (cond b 0 (1 + number g i)) 1 ≡ zero_cell g i
    go true e = sym (no→false (zero_cell g i) (λ t. zero→ g i i (record { inside = h; none = t }) h (self_close g i) (rw e tt)))
    go false e = one_more (number g i)

-- ---- small numbers

pub content_few : (g : Grid) (i : ℕ) → content g i < 2147483648
unfolding content number
content_few g i = go (mine g i)
  where
    go : (b : Bool) → cond b 0 (1 + count (mine g) (square g i)) < 2147483648
    go true = omega arith
    go false = omega (arith, count_le (mine g) (square g i), length_square g i)

pub raised_small : (g : Grid) (s : Position) (x : ℕ) → x < size g → raised g s x ≤ 20
unfolding raised
raised_small g s x h = go (mine g x)
  where
    go : (b : Bool) → cond b 0 (10 + gain g s x - cost g s x) ≤ 20
    go true = omega arith
    go false = omega (arith, gain_range g s x h)
