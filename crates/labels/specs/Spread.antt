-- What labelling from a cell on does to the work area. `k` gives the contents of the cells, which stay. Assumes nothing.
use Rattle.std.specs.Prelude.{ℕ, ◌<◌, ◌≤◌, ◌≡◌, ◌⊎◌, List, T, ℤ, pos, get_or, length}
use Rattle.area.specs.Numbers.{first_at, first_place, content_place, second_at, second_place, state_place, waiting_place}
use Rattle.game.specs.Grid.{Grid, size, square}
use Rattle.game.specs.Lists.{has}
use Rattle.labels.specs.Labels.{edge_first, edge_second}

-- a chain of 0-cells from a on, each in the square of the one before
pub data Reach (g : Grid) (k : ℕ → ℕ) (a : ℕ) : ℕ → Type 0 where
  here : a < size g → k a ≡ 1 → Reach g k a a
  next : {b c : ℕ} → Reach g k a b → T (has c (square g b)) → k c ≡ 1 → Reach g k a c

-- the cell's labels stay
pub record Same (w w' : List ℤ) (i : ℕ) : Type 0 where
  pub one : get_or w' (first_place i) (pos 0) ≡ get_or w (first_place i) (pos 0)
  pub two : get_or w' (second_place i) (pos 0) ≡ get_or w (second_place i) (pos 0)

-- the cell has got the label op
pub record Edge (op : ℕ) (w w' : List ℤ) (i : ℕ) : Type 0 where
  pub one : get_or w' (first_place i) (pos 0) ≡ pos (edge_first op (first_at w i))
  pub two : get_or w' (second_place i) (pos 0) ≡ pos (edge_second op (first_at w i) (second_at w i))

-- it had to: it stands in the square of a 0-cell joined to `from`, and if it is a 0-cell it had none
pub record Touch (g : Grid) (k : ℕ → ℕ) (op from : ℕ) (w w' : List ℤ) (i : ℕ) : Type 0 where
  pub edge : Edge op w w' i
  pub fresh : k i ≡ 1 → first_at w i ≡ 0
  pub source : ℕ
  pub reached : Reach g k from source
  pub beside : T (has i (square g source))

-- only labels of such cells change, and the places where cells wait
pub record Change (g : Grid) (k : ℕ → ℕ) (op from : ℕ) (w w' : List ℤ) : Type 0 where
  pub long : length w' ≡ length w
  pub cells : (i : ℕ) → i < size g → Same w w' i ⊎ Touch g k op from w w' i
  pub states : (i : ℕ) → i < size g → get_or w' (state_place i) (pos 0) ≡ get_or w (state_place i) (pos 0)
  pub contents : (i : ℕ) → i < size g → get_or w' (content_place i) (pos 0) ≡ get_or w (content_place i) (pos 0)
  pub past : (x : ℕ) → first_place (size g) ≤ x → get_or w' x (pos 0) ≡ get_or w x (pos 0)

-- the cell y, beside a 0-cell with the label op, carries op; a 0-cell carries some label
pub record Side (k : ℕ → ℕ) (op : ℕ) (w w' : List ℤ) (y : ℕ) : Type 0 where
  pub zero-cell : k y ≡ 1 → 1 ≤ first_at w' y
  pub edge : (k y ≡ 1 → ⊥) → Edge op w w' y

-- each cell beside x does
abbrev pub Shut : Grid → (ℕ → ℕ) → ℕ → List ℤ → List ℤ → ℕ → Type 0
Shut g k op w w' x = (y : ℕ) → T (has y (square g x)) → Side k op w w' y

-- each cell beside a newly labelled 0-cell does
abbrev pub Closed : Grid → (ℕ → ℕ) → ℕ → List ℤ → List ℤ → Type 0
Closed g k op w w' =
    (x : ℕ) → x < size g → k x ≡ 1 → first_at w x ≡ 0 → 1 ≤ first_at w' x → Shut g k op w w' x

-- no cell waits at the places from t on
abbrev pub ClearFrom : Grid → ℕ → List ℤ → Type 0
ClearFrom g t w = (i : ℕ) → t ≤ i → i < size g → get_or w (waiting_place i) (pos 0) ≡ pos 0

-- after labelling from the cell i on: a whole opening, if i is a 0-cell without label
pub record OpeningLabelled (g : Grid) (k : ℕ → ℕ) (op i : ℕ) (w w' : List ℤ) : Type 0 where
  pub change : Change g k op i w w'
  pub closed : Closed g k op w w'
  pub self : i < size g → k i ≡ 1 → 1 ≤ first_at w' i
  pub clear : ClearFrom g 0 w → ClearFrom g 0 w'
