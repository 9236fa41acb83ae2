-- What the small functions do to the work area, number by number. Assumes nothing.
use Rattle.std.specs.Prelude.{ℕ, ◌+◌, ◌-◌, ◌*◌, ◌<◌, ◌≤◌, ◌≡◌, Bool, cond, ◌||◌, List, eqb, ℤ}
use Rattle.area.specs.Squares.{shifted, square_of}
use Rattle.game.specs.Lists.{bit, count, fold, range}
use Rattle.area.specs.Numbers.{first_at, premium_at, put_premium, put_state, second_at, state_at}

-- a cell of number 1 or more is opened; if it has no label, each safe cell of its square has one unit less
unfoldable pub opened_one : ℕ → ℕ → List ℤ → ℕ → List ℤ
opened_one rows columns w i =
    let v = shifted 1 0 (put_state w i 1) i in
    cond (eqb (first_at v i) 0) (fold (shifted 0 1) v (square_of rows columns i)) v

-- the cell has the label
abbrev pub labelled_at : ℕ → List ℤ → ℕ → Bool
labelled_at label w i = eqb (first_at w i) label || eqb (second_at w i) label

-- a cell of a swept opening is opened, or has one opening less if it was opened before
unfoldable pub swept_cell : ℕ → List ℤ → ℕ → List ℤ
swept_cell label w i =
    cond (labelled_at label w i)
    (cond (eqb (state_at w i) 0) (put_state w i 1) (put_premium w i (premium_at w i - 1))) w

-- a sweep's one cell, with whether it has the label
pub record CellSwept (label : ℕ) (w : List ℤ) (i found : ℕ) (v : List ℤ) : Type 0 where
  pub area : v ≡ swept_cell label w i
  pub found_it : found ≡ bit (labelled_at label w i)

-- a sweep of the cells from a on that are below b
abbrev pub SweptOver : ℕ → ℕ → ℕ → List ℤ → List ℤ → Type 0
SweptOver label a b w v = v ≡ fold (swept_cell label) w (range a b)

-- how many of the cells from a on that are below b have the label
abbrev pub labelled_in : ℕ → List ℤ → ℕ → ℕ → ℕ
labelled_in label w a b = count (labelled_at label w) (range a b)

-- such a sweep, with how many cells have the label
pub record RunSwept (label a b : ℕ) (w : List ℤ) (found : ℕ) (v : List ℤ) : Type 0 where
  pub swept : SweptOver label a b w v
  pub labelled : found ≡ labelled_in label w a b

-- a sweep of a column and those to its left, down to one that is the first or has no cell of the label
pub record LeftSwept (rows label column : ℕ) (w v : List ℤ) : Type 0 where
  pub end : ℕ
  pub on_left : end ≤ column
  pub swept : SweptOver label (end * rows) (column * rows + rows) w v
  pub ends : (end ≡ 0 → ⊥) → labelled_in label w (end * rows) (end * rows + rows) ≡ 0

-- a sweep of the columns from one on to the right, up to the last or one that has no cell of the label
pub record RightSwept (rows columns label column : ℕ) (w v : List ℤ) : Type 0 where
  pub end : ℕ
  pub on_right : column ≤ end
  pub in-columns : end ≤ columns
  pub swept : SweptOver label (column * rows) (end * rows) w v
  pub ends : (last : ℕ) → end ≡ last + 1 → end < columns → labelled_in label w (last * rows) (last * rows + rows) ≡ 0
