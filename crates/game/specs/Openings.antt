-- Openings, labels, units and 3BV (RULES 2.3 to 2.5). Assumes nothing.
use Rattle.std.specs.Prelude.{ℕ, suc, ◌+◌, ◌<◌, Bool, true, false, not, ◌&&◌, List, [], ◌∷◌, ◌++◌, get_or, length, T}
use Rattle.game.specs.Lists.{keep, count, some_of, has, fold, again}
use Rattle.game.specs.Grid.{Grid, size, cells, safe, square, zero_cell}

-- a chain from a on, of cells that pass the test p, each in the square of the one before
pub data Chain (g : Grid) (p : ℕ → Bool) (a : ℕ) : ℕ → Type 0 where
  itself : a < size g → T (p a) → Chain g p a a
  onward : {b c : ℕ} → Chain g p a b → T (has c (square g b)) → T (p c) → Chain g p a c

-- two 0-cells joined by side or corner: a chain of 0-cells
abbrev pub Joined : Grid → ℕ → ℕ → Type 0
Joined g a b = Chain g (zero_cell g) a b

-- the cells that pass the test p and in whose square one of js stands
unfoldable pub grow : Grid → (ℕ → Bool) → List ℕ → List ℕ
grow g p js = keep (λ k. p k && some_of (λ j. has j (square g k)) js) (cells g)

-- the cells that chains join to z, lowest first: a chain need not be longer than the grid has cells
unfoldable pub chained_to : Grid → (ℕ → Bool) → ℕ → List ℕ
chained_to g p z = again (grow g p) (size g) (z ∷ [])

-- the 0-cells joined to a 0-cell, lowest first
abbrev pub joined_to : Grid → ℕ → List ℕ
joined_to g z = chained_to g (zero_cell g) z

-- a 0-cell that is in none of the openings so far begins the next
abbrev pub gather : Grid → List (List ℕ) → ℕ → List (List ℕ)
gather g os i =
    elim (zero_cell g i && not (some_of (has i) os)) [ true ↦ os ++ (joined_to g i ∷ []) | false ↦ os ]

-- the openings, each by its 0-cells, in the order of their lowest 0-cell
unfoldable pub openings : Grid → List (List ℕ)
openings g = fold (gather g) [] (cells g)

-- the opening holds the cell: one of its 0-cells stands in the cell's square
abbrev pub holds : Grid → ℕ → List ℕ → Bool
holds g i o = some_of (λ j. has j o) (square g i)

-- the places, from k on, of the openings that hold the cell
abbrev pub places : Grid → ℕ → ℕ → List (List ℕ) → List ℕ
places g i k [] = []
places g i k (o ∷ os) = elim (holds g i o) [ true ↦ k ∷ places g i (suc k) os | false ↦ places g i (suc k) os ]

-- the cell's labels: the numbers, from 1, of the openings that hold it, lowest first
unfoldable pub labels : Grid → ℕ → List ℕ
labels g i = places g i 1 (openings g)

-- the lower label, 0 for none
abbrev pub first_label : Grid → ℕ → ℕ
first_label g i = get_or (labels g i) 0 0

-- the higher label of two, 0 for none
abbrev pub second_label : Grid → ℕ → ℕ
second_label g i = get_or (labels g i) 1 0

-- a safe cell without label: no opening holds it
abbrev pub unlabelled : Grid → ℕ → Bool
unlabelled g i = safe g i && not (some_of (holds g i) (openings g))

-- 3BV is the count of units: the openings, and the safe cells without label
unfoldable pub three_bv : Grid → ℕ
three_bv g = length (openings g) + count (unlabelled g) (cells g)
