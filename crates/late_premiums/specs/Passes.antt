-- One cell of each pass that sets the premiums of any position. Assumes nothing.
use Rattle.std.specs.Prelude.{ℕ, ◌+◌, ◌-◌, ◌*◌, ◌/◌, ◌%◌, min, Bool, not, cond, ◌&&◌, List, eqb, ℤ}
use Rattle.game.specs.Lists.{bit, fold}
use Rattle.area.specs.Numbers.{content_at, first_at, premium_at, put_premium, second_at, state_at}
use Rattle.area.specs.Squares.{shifted, square_of}

-- ---- marks: an opening is closed

-- a 0-cell that is not opened
abbrev pub closed_zero_at : List ℤ → ℕ → Bool
closed_zero_at w i = eqb (content_at w i) 1 && not (eqb (state_at w i) 1)

-- the cell, of n, that keeps the mark of a label: the label's place from 0 on, as no label is above n
abbrev pub keeper_of : ℕ → ℕ → ℕ
keeper_of n label = min (label - 1) (n - 1)

-- a 0-cell that is not opened marks its opening
abbrev pub mark_cell : ℕ → List ℤ → ℕ → List ℤ
mark_cell n w i = cond (closed_zero_at w i) (put_premium w (keeper_of n (first_at w i)) 1) w

-- the mark of a label, in the lowest bit of what its cell keeps; 0 for no label
abbrev pub mark_of : ℕ → List ℤ → ℕ → ℕ
mark_of n w label = cond (eqb label 0) 0 (premium_at w (keeper_of n label) % 2)

-- ---- laid

-- the raised premium of a cell that no flagged mine and no closed unlabelled cell is near, with so many closed openings among its labels; 0 for a mine
abbrev pub alone_premium : ℕ → ℕ → ℕ → ℕ
alone_premium closed content state = cond (eqb content 0) 0 (9 + closed + bit (eqb state 1) - content)

-- a cell laid as if it stood alone: its mark stays in the lowest bit
abbrev pub lay_cell : ℕ → List ℤ → ℕ → List ℤ
lay_cell n w i =
    put_premium w i (premium_at w i % 2 + 2 * alone_premium (mark_of n w (first_at w i) + mark_of n w (second_at w i)) (content_at w i) (state_at w i))

-- its mark is taken away
abbrev pub halve_cell : List ℤ → ℕ → List ℤ
halve_cell w i = put_premium w i (premium_at w i / 2)

-- ---- raised

-- a flagged mine, or a safe cell without label that is not opened
abbrev pub raising_at : List ℤ → ℕ → Bool
raising_at w i = cond (eqb (content_at w i) 0) (eqb (state_at w i) 2) (eqb (first_at w i) 0 && not (eqb (state_at w i) 1))

-- such a cell: each safe cell of its square has 1 more
abbrev pub raise_near : ℕ → ℕ → List ℤ → ℕ → List ℤ
raise_near rows columns w i = cond (raising_at w i) (fold (shifted 1 0) w (square_of rows columns i)) w
