-- Work areas by labels, contents, states and premiums: the squares of the cells that pass a test, raised one by one, add to each safe cell as many as its square has of them. Assumes nothing.
use Prim.Native.Nat.{ℕ, ◌%◌, ◌+◌, ◌-◌, ◌<◌}
use native.Mathlib.Omega.{arith}
use native.Mathlib.Nat.{add-zero, mod-eq_of_lt}
use mathlib.Core.Path.{◌∙◌, ◌≡◌, ap, refl, sym}
use mathlib.Core.Bool.{Bool, ◌&&◌, cond, false, not, true}
use mathlib.Core.List.{List, [], ◌∷◌}
use lib.Dec.{T}
use lib.IntN.{ℤ}
use lib.ListN.{get_or, length}
use Rattle.area.specs.Numbers.{HasCells}
use Rattle.area.specs.Squares.{shifted, square_of}
use Rattle.area.specs.Stages.{content, held, raised}
use Rattle.game.specs.Grid.{Grid, cells, mine, safe, size, square}
use Rattle.game.specs.Lists.{bit, count, fold, has}
use Rattle.game.specs.Openings.{first_label, second_label}
use Rattle.game.specs.Position.{Position}
use Rattle.game.proofs.Counts.{count_ext, count_none}
use Rattle.game.proofs.Members.{first_of, length_fold, rest_of}
use Rattle.game.proofs.Squares.{cells→, count_square, once_square, square_sym, square→}
use Rattle.game.proofs.Truth.{and_right}
use Rattle.area.proofs.CellByCell.{Cell, cell_area, fold_acts, made, priced, same_area, shift_acts, shift_cell}
use Rattle.area.proofs.Held.{content_mine, held_cells, held_cell, raised_small}
use Rattle.area.proofs.Rows.{same-square}
use Rattle.area.proofs.Shifting.{length_shift}

-- labels, a premium, a position's state and content
abbrev pub risen_cell : Grid → Position → (ℕ → ℕ) → ℕ → Cell
risen_cell g s p i =
    record { first = first_label g i; second = second_label g i; premium = p i % 2147483648; state = get_or s i 0; content = content g i }

-- raising a square, or not, leaves the work area as long as it was
pub length_raised : (b : Bool) (rows columns : ℕ) (w : List ℤ) (i : ℕ) → length (cond b (fold (shifted 1 0) w (square_of rows columns i)) w) ≡ length w
length_raised true rows columns w i = length_fold (shifted 1 0) w (square_of rows columns i) (length_shift 1 0)
length_raised false rows columns w i = refl

-- ---- what a cell is raised by

-- 1 more for a cell that passes the test and whose square has the cell, unless that is a mine
abbrev pub raises : Grid → (ℕ → Bool) → ℕ → ℕ → Bool
raises g t i j = t j && (has i (square g j) && safe g i)

-- the cells that pass the test and whose squares have the cell are those of its square
pub raised_near : (g : Grid) (t : ℕ → Bool) (i : ℕ) → i < size g → mine g i ≡ false → count (raises g t i) (cells g) ≡ count t (square g i)
raised_near g t i h e =
    count_ext (raises g t i) (λ j. has j (square g i) && t j) (cells g) (λ j u.
    ap (λ (b : Bool). t j && (b && safe g i)) (square_sym g i j h (cells→ g j u))
    ∙ ap (λ (b : Bool). t j && (has j (square g i) && not b)) e
    ∙ turned (t j) (has j (square g i)))
    ∙ sym (count_square g t i h)
  where
    turned : (a b : Bool) → (a && (b && true)) ≡ (b && a)
    turned true true = refl
    turned true false = refl
    turned false true = refl
    turned false false = refl

-- no cell raises a mine
pub mine_stays : (g : Grid) (t : ℕ → Bool) (i : ℕ) → mine g i ≡ true → count (raises g t i) (cells g) ≡ 0
mine_stays g t i e =
    count_none (raises g t i) (cells g) (λ j _ u. rw e at (and_right (has i (square g j)) (safe g i) (and_right (t j) (has i (square g j) && safe g i) u)))

-- ---- raised

module _ (g : Grid) (s : Position) (old : List ℤ) (room : HasCells old (size g)) where
  abbrev n : ℕ
  n = size g

  abbrev risen : (ℕ → ℕ) → List ℤ
  risen p = cell_area (risen_cell g s p) n old

  -- the same premiums
  pub same-risen : (p q : ℕ → ℕ) → ((i : ℕ) → i < n → p i ≡ q i) → risen p ≡ risen q
  same-risen p q e =
      same_area n old room (risen_cell g s p) (risen_cell g s q)
      (λ i h. ap (λ (k : ℕ). record { first = first_label g i; second = second_label g i; premium = k % 2147483648; state = get_or s i 0; content = content g i }) (e i h))

  -- 1 more for a safe cell of the square
  up : (p : ℕ → ℕ) (i x : ℕ) → made (shift_cell 1 0) (square g i) (risen_cell g s p) x ≡ risen_cell g s (λ x. p x + bit (has x (square g i) && safe g x)) x
  up p i x = rw (content_mine g x) (go (has x (square g i)) (mine g x))
    where
      cell : ℕ → Cell
      cell m = record { first = first_label g x; second = second_label g x; premium = m % 2147483648; state = get_or s x 0; content = content g x }

      go : (b m : Bool) → cond b (cond m (cell (p x)) (priced (p x % 2147483648 + 1 - 0) (cell (p x)))) (cell (p x)) ≡ cell (p x + bit (b && not m))
      go true true = ap cell (sym (add-zero (p x)))
      go true false = ap (λ (k : ℕ). record { first = first_label g x; second = second_label g x; premium = k; state = get_or s x 0; content = content g x }) (omega arith)
      go false m = ap cell (sym (add-zero (p x)))

  -- a square raised, where a test passes
  raise_square : (b : Bool) (p : ℕ → ℕ) (i : ℕ) → i < n
      → cond b (fold (shifted 1 0) (risen p) (square_of g.rows g.columns i)) (risen p) ≡ risen (λ x. p x + bit (b && (has x (square g i) && safe g x)))
  raise_square true p i h =
      ap (fold (shifted 1 0) (risen p)) (same-square g i)
      ∙ fold_acts n old room (shifted 1 0) (shift_cell 1 0) (shift_acts n old room 1 0) (square g i) (risen_cell g s p) (once_square g i) (λ x t. (square→ g i x h t).0)
      ∙ same_area n old room (made (shift_cell 1 0) (square g i) (risen_cell g s p)) (risen_cell g s (λ x. p x + bit (has x (square g i) && safe g x))) (λ x k. up p i x)
  raise_square false p i h = same-risen p (λ x. p x + 0) (λ x k. sym (add-zero (p x)))

  -- the squares of the listed cells that pass the test t, by a pass f that raises the square of each such cell
  pub raise_cells : (f : List ℤ → ℕ → List ℤ) (t : ℕ → Bool)
      → ((p : ℕ → ℕ) (i : ℕ) → i < n → f (risen p) i ≡ cond (t i) (fold (shifted 1 0) (risen p) (square_of g.rows g.columns i)) (risen p))
      → (xs : List ℕ) (p : ℕ → ℕ) → ((x : ℕ) → T (has x xs) → x < n) → fold f (risen p) xs ≡ risen (λ x. p x + count (raises g t x) xs)
  raise_cells f t acts [] p b = same-risen p (λ x. p x + 0) (λ x h. sym (add-zero (p x)))
  raise_cells f t acts (y ∷ ys) p b =
      ap (λ (w : List ℤ). fold f w ys) (acts p y (first_of y ys b) ∙ raise_square (t y) p y (first_of y ys b))
      ∙ raise_cells f t acts ys (λ x. p x + bit (raises g t x y)) (rest_of y ys b)
      ∙ same-risen (λ x. p x + bit (raises g t x y) + count (raises g t x) ys) (λ x. p x + (bit (raises g t x y) + count (raises g t x) ys)) (λ x h. omega arith)

  -- the raised premiums of the position are held
  pub risen_held : risen (raised g s) ≡ held g s old
  risen_held =
      same_area n old room (risen_cell g s (raised g s)) (held_cell g s)
      (λ i h. rw (mod-eq_of_lt (few i h)))
      ∙ sym (held_cells g s old)
    where
      few : (i : ℕ) → i < n → raised g s i < 2147483648
      few i h = omega (arith, raised_small g s i h)
