-- What is kept of each column, so that a step looks again only at the columns that may have changed. Assumes nothing.
use Rattle.std.specs.Prelude.{ℕ, ◌+◌, ◌*◌, ◌<◌, ◌≤◌, ◌≡◌, Bool, cond, ◌&&◌, List, ltb, ℤ, get_or, length}
use Rattle.game.specs.Lists.{count, fold, range}
use Rattle.area.specs.Numbers.{premium_at}
use Rattle.choices.specs.Tests.{looked_at, unit_at}
use Rattle.choices.specs.declared.Best.{Best}

-- the higher raised premium so far, once a cell has been looked at
abbrev pub top_with : Bool → List ℤ → ℕ → ℕ → ℕ
top_with openedOnly w top i = cond (ltb top (premium_at w i) && looked_at openedOnly w i) (premium_at w i) top

-- the highest raised premium of 10 or more in a column, 9 if there is none
abbrev pub column_top : Bool → List ℤ → ℕ → ℕ → ℕ
column_top openedOnly w rows column = fold (λ top row. top_with openedOnly w top (column * rows + row)) 9 (range 0 rows)

-- what is kept of each column: 0 where it must be looked at again, else 1 more than its highest premium
pub record TopsKnown (openedOnly : Bool) (w : List ℤ) (rows columns : ℕ) (tops : List ℕ) : Type 0 where
  pub room : columns ≤ length tops
  pub right : (c : ℕ) → c < columns → (get_or tops c 0 ≡ 0 → ⊥) → get_or tops c 0 ≡ column_top openedOnly w rows c + 1

-- the byte kept of a number: 1 more, or 0 where that is no byte
abbrev pub kept_of : ℕ → ℕ
kept_of n = cond (ltb n 255) (n + 1) 0

-- the higher premium so far, and the first column that has it
abbrev pub higher_of : Best → ℕ → ℕ → Best
higher_of b top column = cond (ltb b.top top) (record { top = top; at = column }) b

-- the highest raised premium of 10 or more in n of so many columns, and the first column that has it; 9 and the number of columns if there is none
abbrev pub first_of : Bool → List ℤ → ℕ → ℕ → ℕ → Best
first_of openedOnly w rows columns n =
    fold (λ b column. higher_of b (column_top openedOnly w rows column) column) (record { top = 9; at = columns }) (range 0 n)

-- the closed units of a column
abbrev pub column_units : List ℤ → ℕ → ℕ → ℕ
column_units w rows column = count (unit_at w) (range (column * rows) (column * rows + rows))

-- what is kept of each column's closed units: 1 more than their count, but 0 where they must be counted, and where marks has 0 it may be anything
pub record UnitsKnown (w : List ℤ) (rows columns : ℕ) (marks units : List ℕ) : Type 0 where
  pub room : columns ≤ length units
  pub right : (c : ℕ) → c < columns → (get_or marks c 0 ≡ 0 → ⊥) → (get_or units c 0 ≡ 0 → ⊥) → get_or units c 0 ≡ column_units w rows c + 1
