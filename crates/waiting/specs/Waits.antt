-- What the waiting form does, cell after cell: 0-cells are labelled when they are put to wait. Assumes nothing.
use Rattle.std.specs.Prelude.{ℕ, ◌+◌, ◌<◌, ◌≤◌, ◌≡◌, List, T, ℤ, pos, get_or, set}
use Rattle.area.specs.Numbers.{first_at, waiting_at, waiting_place}
use Rattle.game.specs.Grid.{Grid, size, square}
use Rattle.game.specs.Lists.{has}
use Rattle.labels.specs.Labels.{Fresh, free_of, put_label}
use Rattle.labels.specs.Spread.{Change, Side}

-- after the cell i was put to wait at the place top, if it is a 0-cell without label: r cells wait
pub record Waited (n op i top : ℕ) (w : List ℤ) (r : ℕ) (w' : List ℤ) : Type 0 where
  pub fresh : Fresh n w i → (r ≡ top + 1) × (w' ≡ set (put_label w i op) (waiting_place top) (pos i))
  pub none : (Fresh n w i → ⊥) → (r ≡ top) × (w' ≡ w)

-- the cell x waits at one of the places from top to r
pub record Waiting (w : List ℤ) (top r x : ℕ) : Type 0 where
  pub place : ℕ
  pub from_top : top ≤ place
  pub below : place < r
  pub is : waiting_at w place ≡ x

-- the cell x is a 0-cell that got its label
pub record Newly (g : Grid) (k : ℕ → ℕ) (w w' : List ℤ) (x : ℕ) : Type 0 where
  pub inside : x < size g
  pub zero-cell : k x ≡ 1
  pub before : first_at w x ≡ 0
  pub after : 1 ≤ first_at w' x

-- after the cells of P, beside `from`, were visited: those newly labelled wait at the places from top to r
pub record Pushed (g : Grid) (k : ℕ → ℕ) (op from : ℕ) (P : ℕ → Type 0) (w : List ℤ) (top : ℕ) (w' : List ℤ) (r : ℕ) : Type 0 where
  pub change : Change g k op from w w'
  pub grows : top ≤ r
  pub free : r + free_of (size g) w' ≤ top + free_of (size g) w
  pub kept : (t : ℕ) → t < top → get_or w' (waiting_place t) (pos 0) ≡ get_or w (waiting_place t) (pos 0)
  pub above : (t : ℕ) → r ≤ t → get_or w' (waiting_place t) (pos 0) ≡ get_or w (waiting_place t) (pos 0)
  pub waits : (t : ℕ) → top ≤ t → t < r → Newly g k w w' (waiting_at w' t)
  pub new : (x : ℕ) → Newly g k w w' x → Waiting w' top r x
  pub sides : (y : ℕ) → y < size g → P y → Side k op w w' y

-- beside i
pub record InSquare (g : Grid) (i y : ℕ) : Type 0 where
  pub beside : T (has y (square g i))

-- what the visit of a waiting cell is called with: it is a 0-cell, and there are places for all that may yet wait
pub record Visitable (n : ℕ) (k : ℕ → ℕ) (i top : ℕ) (w : List ℤ) : Type 0 where
  pub inside : i < n
  pub zero-cell : k i ≡ 1
  pub places : top + free_of n w ≤ n
