-- A cell looked at in the first columns of a grid: one that is fresh is the lowest 0-cell of an opening, and a lone one is a safe cell without label. Assumes nothing.
use Prim.Native.Nat.{ℕ, ◌*◌, ◌<◌, ◌≤◌}
use native.Mathlib.Omega.{arith}
use mathlib.Core.Path.{◌∙◌, ◌≡◌, ap, ap₂, sym}
use mathlib.Core.Bool.{Bool, ◌&&◌, not}
use mathlib.Core.List.{List}
use lib.Dec.{T, eqb}
use lib.IntN.{ℤ}
use Rattle.area.specs.Numbers.{first_at}
use Rattle.area.specs.Squares.{square_of}
use Rattle.area.proofs.Held.{content_mine, content_zero}
use Rattle.game.specs.Area.{laid}
use Rattle.game.specs.Early.{met}
use Rattle.game.specs.Grid.{Grid, safe, size, square, zero_cell}
use Rattle.game.specs.Lists.{Each, has, some_of}
use Rattle.game.specs.Openings.{holds, openings, unlabelled}
use Rattle.game.proofs.Early.{meets}
use Rattle.game.proofs.Labels.{held-by, places_none, zero→labelled}
use Rattle.game.proofs.Members.{some_same, some_yes, yes_some}
use Rattle.game.proofs.Openings.{Full, good}
use Rattle.game.proofs.Squares.{square→}
use Rattle.game.proofs.Truth.{absorb, and_under, iff}
use Rattle.labels.specs.Labels.{fresh_of, shaped}
use Rattle.openings.specs.Numbering.{part_five}
use Rattle.openings.proofs.Numbers.{contents, firsts, fresh_out, good_met}
use Rattle.premiums.specs.Laying.{safe_at}
use Rattle.early.specs.Looks.{lone_at, zero_at}

held_near : (g : Grid) (i : ℕ) (os : List (List ℕ)) → Each (Full g) os → T (some_of (holds g i) os) → T (some_of (zero_cell g) (square g i))
held_near g i os e t = let a = held-by g i os e t in some_yes (zero_cell g) a.0 (square g i) a.1 a.2.none

-- a cell has a label exactly if a 0-cell stands in its square
labelled_near : (g : Grid) (i : ℕ) → i < size g → some_of (holds g i) (openings g) ≡ some_of (zero_cell g) (square g i)
labelled_near g i h =
    iff (some_of (holds g i) (openings g)) (some_of (zero_cell g) (square g i))
    (held_near g i (openings g) (good g).full)
    (λ t. let a = yes_some (zero_cell g) (square g i) t in
    zero→labelled g i a.0 a.1 (record { inside = (square→ g i a.0 h a.1).0; none = a.2 }))

-- the first columns have the square of the cell i, and the labels of the openings met below it
module _ (g : Grid) (columns i : ℕ) (old w : List ℤ) (is : w ≡ laid (part_five g (met g i)) (g.rows * columns) old) (h : i < g.rows * columns)
    (few : g.rows * columns ≤ size g) (s : square_of g.rows columns i ≡ square g i) where
  zeros : (x : ℕ) → x < g.rows * columns → zero_at w x ≡ zero_cell g x
  zeros x k = ap (λ (m : ℕ). eqb m 1) (contents g columns (met g i) old w is x k) ∙ content_zero g x (omega arith)

  safes : safe_at w i ≡ safe g i
  safes = ap (λ (m : ℕ). not (eqb m 0)) (contents g columns (met g i) old w is i h) ∙ ap not (content_mine g i)

  zeros_near : some_of (zero_at w) (square_of g.rows columns i) ≡ some_of (zero_cell g) (square g i)
  zeros_near =
      ap (some_of (zero_at w)) s
      ∙ some_same (zero_at w) (zero_cell g) (square g i) (λ x t. zeros x (square→ (shaped g.rows columns) i x h (rw s t)).0)

  labels_so_far : eqb (first_at w i) 0 ≡ not (some_of (holds g i) (met g i))
  labels_so_far = ap (λ (m : ℕ). eqb m 0) (firsts g columns (met g i) old w is i h) ∙ places_none g i 0 (met g i)

  pub fresh_meets : fresh_of w i ≡ meets g i
  fresh_meets =
      ap (λ (b : Bool). b && eqb (first_at w i) 0) (zeros i h)
      ∙ and_under (zero_cell g i) (eqb (first_at w i) 0) (not (some_of (has i) (met g i)))
      (λ t. fresh_out g columns (met g i) old w is (good_met g i (omega arith)) i h (record { inside = omega arith; none = t }))

  -- a label that it has by now says that a 0-cell is near
  pub lone_unlabelled : lone_at g.rows columns w i ≡ unlabelled g i
  unfolding lone_at
  lone_unlabelled =
      ap₂ (λ (a b : Bool). a && not b) (ap₂ ◌&&◌ safes labels_so_far) zeros_near
      ∙ absorb (safe g i) (some_of (holds g i) (met g i)) (some_of (zero_cell g) (square g i))
      (held_near g i (met g i) (good_met g i (omega arith)).full)
      ∙ ap (λ (b : Bool). safe g i && not b) (sym (labelled_near g i (omega arith)))
