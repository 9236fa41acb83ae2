-- One cell looked at in a work area of so many rows and columns. Assumes nothing.
use Rattle.std.specs.Prelude.{ℕ, ◌+◌, ◌≡◌, Bool, ◌&&◌, not, List, T, eqb, ℤ, length}
use Rattle.game.specs.Lists.{bit, some_of}
use Rattle.area.specs.Numbers.{content_at}
use Rattle.area.specs.Squares.{square_of}
use Rattle.labels.specs.Labels.{fresh_of, shaped}
use Rattle.labels.specs.Spread.{OpeningLabelled}
use Rattle.premiums.specs.Laying.{unlabelled_at}
use Rattle.early.specs.declared.looks.Tally.{Tally}

-- a 0-cell stands there
abbrev pub zero_at : List ℤ → ℕ → Bool
zero_at w i = eqb (content_at w i) 1

-- a safe cell without label so far, and no 0-cell in its square
unfoldable pub lone_at : ℕ → ℕ → List ℤ → ℕ → Bool
lone_at rows columns w i = unlabelled_at w i && not (some_of (zero_at w) (square_of rows columns i))

-- an opening was met at the cell i: one unit less lacks; while any does, the opening is labelled as the next
pub record Meets (rows columns : ℕ) (w : List ℤ) (t : Tally) (i : ℕ) (t' : Tally) (w' : List ℤ) : Type 0 where
  pub one_less : t'.lacking + 1 ≡ t.lacking
  pub last : t'.lacking ≡ 0 → (t'.openings ≡ t.openings) × (w' ≡ w)
  pub labels : (t'.lacking ≡ 0 → ⊥) → (t'.openings ≡ t.openings + 1) × OpeningLabelled (shaped rows columns) (content_at w) (t.openings + 1) i w w'
  pub long : length w' ≡ length w

-- the cell i was looked at: a 0-cell without label meets its opening, and a lone cell is a unit
pub record LooksAt (rows columns : ℕ) (w : List ℤ) (t : Tally) (i : ℕ) (t' : Tally) (w' : List ℤ) : Type 0 where
  pub opening : T (fresh_of w i) → Meets rows columns w t i t' w'
  pub other : (T (fresh_of w i) → ⊥) → (t'.lacking + bit (lone_at rows columns w i) ≡ t.lacking) × (t'.openings ≡ t.openings) × (w' ≡ w)
  pub long : length w' ≡ length w
