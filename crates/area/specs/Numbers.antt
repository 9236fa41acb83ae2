-- The work area number by number, and a cell's five numbers by name: how they lie is said here alone. Assumes nothing.
use Rattle.std.specs.Prelude.{ℕ, ◌+◌, ◌*◌, ◌%◌, ◌≤◌, List, [], ◌∷◌, ℤ, pos, negsuc, ◌-ℤ◌, get_or, length, set}
use Rattle.game.specs.Grid.{Grid}

-- the grid of rows, columns and a lent run of values
abbrev pub grid_of : ℕ → ℕ → List ℤ → Grid
grid_of r c vs = record { rows = r; columns = c; values = vs }

-- ---- one number

-- a number that is not below 0; 0 in place of one that is
abbrev pub natural : ℤ → ℕ
natural (pos n) = n
natural (negsuc n) = 0

-- the number at a place
abbrev pub number_at : List ℤ → ℕ → ℕ
number_at w k = natural (get_or w k (pos 0))

-- a number put at a place; numbers of 2 ^ 31 and more do not occur
abbrev pub put_at : List ℤ → ℕ → ℕ → List ℤ
put_at w k v = set w k (pos (v % 2147483648))

-- ---- a cell's five numbers

-- as they lie while a call runs: labels, content, state, raised premium
abbrev pub five : ℕ → ℕ → ℕ → ℕ → ℕ → List ℤ
five first second content state premium = pos first ∷ pos second ∷ pos content ∷ pos state ∷ pos premium ∷ []

-- the work area has n cells' numbers
abbrev pub HasCells : List ℤ → ℕ → Type 0
HasCells w n = 5 * n ≤ length w

-- it has those of the cell i
abbrev pub HasCell : List ℤ → ℕ → Type 0
HasCell w i = 5 * i + 5 ≤ length w

-- the place of the first label of the cell i
abbrev pub first_place : ℕ → ℕ
first_place i = 5 * i

-- of its second label
abbrev pub second_place : ℕ → ℕ
second_place i = 5 * i + 1

-- of its raised premium
abbrev pub premium_place : ℕ → ℕ
premium_place i = 5 * i + 4

-- of its state
abbrev pub state_place : ℕ → ℕ
state_place i = 5 * i + 3

-- of its content
abbrev pub content_place : ℕ → ℕ
content_place i = 5 * i + 2

-- the first label of the cell i
abbrev pub first_at : List ℤ → ℕ → ℕ
first_at w i = number_at w (first_place i)

-- its second label
abbrev pub second_at : List ℤ → ℕ → ℕ
second_at w i = number_at w (second_place i)

-- its raised premium
abbrev pub premium_at : List ℤ → ℕ → ℕ
premium_at w i = number_at w (premium_place i)

-- its state
abbrev pub state_at : List ℤ → ℕ → ℕ
state_at w i = number_at w (state_place i)

-- its content
abbrev pub content_at : List ℤ → ℕ → ℕ
content_at w i = number_at w (content_place i)

-- the cell i with another first label
abbrev pub put_first : List ℤ → ℕ → ℕ → List ℤ
put_first w i v = put_at w (first_place i) v

-- with another second label
abbrev pub put_second : List ℤ → ℕ → ℕ → List ℤ
put_second w i v = put_at w (second_place i) v

-- with another raised premium
abbrev pub put_premium : List ℤ → ℕ → ℕ → List ℤ
put_premium w i v = put_at w (premium_place i) v

-- with another state
abbrev pub put_state : List ℤ → ℕ → ℕ → List ℤ
put_state w i v = put_at w (state_place i) v

-- with another content
abbrev pub put_content : List ℤ → ℕ → ℕ → List ℤ
put_content w i v = put_at w (content_place i) v

-- with a premium as it is handed back, 10 less than raised: it stands where the content stood
abbrev pub put_lowered : List ℤ → ℕ → ℕ → List ℤ
put_lowered w i v = set w (content_place i) (pos (v % 2147483648) -ℤ pos 10)

-- ---- cells that wait: while openings are labelled there is no premium, and its place, the fifth number, holds them

-- the place of the cell that waits as number t
abbrev pub waiting_place : ℕ → ℕ
waiting_place t = premium_place t

-- the cell that waits as number t
abbrev pub waiting_at : List ℤ → ℕ → ℕ
waiting_at w t = number_at w (waiting_place t)

-- a cell put to wait as number t
abbrev pub put_waiting : List ℤ → ℕ → ℕ → List ℤ
put_waiting w t i = put_at w (waiting_place t) i
