-- One cell of each pass that lays the first premiums. Assumes nothing.
use Rattle.std.specs.Prelude.{ℕ, ◌+◌, ◌-◌, Bool, not, cond, ◌&&◌, List, eqb, ℤ}
use Rattle.game.specs.Lists.{bit, fold}
use Rattle.area.specs.Numbers.{first_at, content_at, put_premium, put_state, second_at}
use Rattle.area.specs.Squares.{shifted, square_of}

-- a safe cell stands there
abbrev pub safe_at : List ℤ → ℕ → Bool
safe_at w i = not (eqb (content_at w i) 0)

-- a safe cell without label
abbrev pub unlabelled_at : List ℤ → ℕ → Bool
unlabelled_at w i = safe_at w i && eqb (first_at w i) 0

-- how many labels a cell has
abbrev pub labels_at : List ℤ → ℕ → ℕ
labels_at w i = bit (not (eqb (first_at w i) 0)) + bit (not (eqb (second_at w i) 0))

-- the raised premium, before any move, of a cell with so many labels that no unlabelled cell is near; 0 for a mine
abbrev pub alone_premium : ℕ → ℕ → ℕ
alone_premium labels content = cond (eqb content 0) 0 (9 + labels - content)

-- a cell before any move, as if no unlabelled cell were near
abbrev pub lay_cell : List ℤ → ℕ → List ℤ
lay_cell w i = put_state (put_premium w i (alone_premium (labels_at w i) (content_at w i))) i 0

-- an unlabelled cell: each safe cell of its square has 1 more
abbrev pub raise_near : ℕ → ℕ → List ℤ → ℕ → List ℤ
raise_near rows columns w i = cond (unlabelled_at w i) (fold (shifted 1 0) w (square_of rows columns i)) w
