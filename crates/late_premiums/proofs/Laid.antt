-- The passes one after the other, from the work area of a replay: openings that are closed are marked, cells laid, marks taken away, squares raised. Then each cell has its raised premium. Assumes nothing.
use Prim.Native.Nat.{ℕ, ◌%◌, ◌*◌, ◌+◌, ◌/◌, ◌<◌}
use native.Mathlib.Omega.{arith}
use native.Mathlib.Decide.{ℕ_discrete}
use mathlib.Core.Path.{◌∙◌, ◌≡◌, ap, refl, sym}
use mathlib.Core.Bool.{Bool, ◌&&◌, ◌||◌, cond, false, not, true}
use mathlib.Core.List.{List, [], ◌∷◌}
use lib.Dec.{T, eqb}
use lib.IntN.{ℤ}
use Rattle.area.specs.Numbers.{HasCells, premium_at, put_premium}
use Rattle.area.specs.Squares.{shifted, square_of}
use Rattle.area.specs.Stages.{Moving, Stands, held, moving_five, raised}
use Rattle.game.specs.Area.{laid}
use Rattle.game.specs.Grid.{Grid, cells, mine, size}
use Rattle.game.specs.Lists.{bit, count, fold, has, range, some_of}
use Rattle.game.specs.Openings.{first_label, second_label}
use Rattle.game.specs.Position.{Position, flagged, unopened}
use Rattle.late_premiums.specs.Passes.{halve_cell, keeper_of, lay_cell, mark_cell, mark_of, raise_near}
use Rattle.game.proofs.Counts.{bit_small}
use Rattle.game.proofs.Labels.{first-label}
use Rattle.game.proofs.Members.{first_of, rest_of}
use Rattle.game.proofs.Squares.{cells→, once_cells, →cells}
use Rattle.game.proofs.Truth.{T→true}
use Rattle.area.proofs.CellByCell.{Cell, at, cell_area, fold_acts, made, priced, put-premium, read_content, read_first, read_premium, read_second, read_state, same_area}
use Rattle.area.proofs.Held.{content_mine, content_zero}
use Rattle.premiums.proofs.Risen.{raise_cells, raises, risen_held, risen_cell, same-risen}
use Rattle.late_premiums.proofs.Marked.{closed_zero, label_mark, marked, marks}
use Rattle.late_premiums.proofs.Parts.{alone, alone_small, late_parts, raising}
use borrow.Author.Tests.{eq-eqb, ne_eqb}

-- premiums with another at i
abbrev changed : (ℕ → ℕ) → ℕ → ℕ → ℕ → ℕ
changed p i v x = cond (eqb x i) v (p x)

-- what a cell has once laid: its mark, and twice its premium if it stood alone
abbrev laid_premium : Grid → Position → ℕ → ℕ
laid_premium g s i = bit (marked g s i) + 2 * alone g s i

module _ (g : Grid) (s : Position) (old : List ℤ) (room : HasCells old (size g)) where
  abbrev n : ℕ
  n = size g

  abbrev risen : (ℕ → ℕ) → List ℤ
  risen p = cell_area (risen_cell g s p) n old

  same : (p q : ℕ → ℕ) → ((i : ℕ) → i < n → p i ≡ q i) → risen p ≡ risen q
  same = same-risen g s old room

  put : (p : ℕ → ℕ) (i v : ℕ) → i < n → put_premium (risen p) i v ≡ risen (changed p i v)
  put p i v h =
      put-premium n old room (risen_cell g s p) i v h
      ∙ same_area n old room (at (risen_cell g s p) i (priced v (risen_cell g s p i))) (risen_cell g s (changed p i v)) (λ x k.
      elim (ℕ_discrete x i) [
        | yes e ↦ rw (eq-eqb x i e, e)
        | no q ↦ rw (ne_eqb x i q)
      ])

  -- ---- marks

  mark_acts : (p : ℕ → ℕ) (i : ℕ) → i < n → mark_cell n (risen p) i ≡ risen (λ x. cond (marks g s x i) 1 (p x))
  mark_acts p i h =
      rw (read_content n old room (risen_cell g s p) i h, read_state n old room (risen_cell g s p) i h, read_first n old room (risen_cell g s p) i h, content_zero g i h)
      (go (closed_zero g s i))
    where
      go : (b : Bool) → cond b (put_premium (risen p) (keeper_of n (first_label g i)) 1) (risen p) ≡ risen (λ x. cond (b && eqb x (keeper_of n (first_label g i))) 1 (p x))
      go true = put p (keeper_of n (first_label g i)) 1 (omega arith)
      go false = refl

  mark_cells : (xs : List ℕ) (p : ℕ → ℕ) → ((x : ℕ) → T (has x xs) → x < n)
      → fold (mark_cell n) (risen p) xs ≡ risen (λ x. cond (some_of (marks g s x) xs) 1 (p x))
  mark_cells [] p b = refl
  mark_cells (y ∷ ys) p b =
      ap (λ (w : List ℤ). fold (mark_cell n) w ys) (mark_acts p y (first_of y ys b))
      ∙ mark_cells ys (λ x. cond (marks g s x y) 1 (p x)) (rest_of y ys b)
      ∙ same (λ x. cond (some_of (marks g s x) ys) 1 (cond (marks g s x y) 1 (p x))) (λ x. cond (marks g s x y || some_of (marks g s x) ys) 1 (p x))
      (λ x h. either (marks g s x y) (some_of (marks g s x) ys) (p x))
    where
      either : (a b : Bool) (k : ℕ) → cond b 1 (cond a 1 k) ≡ cond (a || b) 1 k
      either true true k = refl
      either true false k = refl
      either false b k = refl

  -- from no premiums on, the cells that keep a mark are those that are marked
  mark-all : fold (mark_cell n) (risen (λ x. 0)) (cells g) ≡ risen (λ x. bit (marked g s x))
  unfolding marked
  mark-all =
      mark_cells (cells g) (λ x. 0) (cells→ g)
      ∙ same (λ x. cond (some_of (marks g s x) (cells g)) 1 0) (λ x. bit (some_of (marks g s x) (cells g))) (λ x h. as_bit (some_of (marks g s x) (cells g)))
    where
      as_bit : (b : Bool) → cond b 1 0 ≡ bit b
      as_bit true = refl
      as_bit false = refl

  -- ---- laid

  -- the lowest bits are the marks
  abbrev Marking : (ℕ → ℕ) → Type 0
  Marking p = (x : ℕ) → x < n → p x % 2 ≡ bit (marked g s x)

  mark_read : (p : ℕ → ℕ) (x : ℕ) → Marking p → x < n → premium_at (risen p) x % 2 ≡ bit (marked g s x)
  mark_read p x m h = omega (arith, read_premium n old room (risen_cell g s p) x h, m x h)

  mark-of : (p : ℕ → ℕ) (i label : ℕ) → Marking p → i < n → mark_of n (risen p) label ≡ label_mark g s label
  mark-of p i label m h = ap (λ (k : ℕ). cond (eqb label 0) 0 k) (mark_read p (keeper_of n label) m (omega arith))

  laid_mark : (i : ℕ) → laid_premium g s i % 2 ≡ bit (marked g s i)
  laid_mark i = omega (arith, bit_small (marked g s i))

  lay_acts : (p : ℕ → ℕ) (i : ℕ) → Marking p → i < n → lay_cell n (risen p) i ≡ risen (changed p i (laid_premium g s i))
  unfolding alone
  lay_acts p i m h =
      rw (
        mark_read p i m h,
        read_content n old room (risen_cell g s p) i h,
        read_state n old room (risen_cell g s p) i h,
        read_first n old room (risen_cell g s p) i h,
        read_second n old room (risen_cell g s p) i h,
        mark-of p i (first_label g i) m h,
        mark-of p i (second_label g i) m h,
      )
      (put p i (laid_premium g s i) h)

  marking_on : (p : ℕ → ℕ) (i : ℕ) → Marking p → Marking (changed p i (laid_premium g s i))
  marking_on p i m x h =
      elim (ℕ_discrete x i) [
        | yes e ↦ rw (eq-eqb x i e, e) (laid_mark i)
        | no q ↦ rw (ne_eqb x i q) (m x h)
      ]

  lay_cells : (xs : List ℕ) (p : ℕ → ℕ) → Marking p → ((x : ℕ) → T (has x xs) → x < n)
      → fold (lay_cell n) (risen p) xs ≡ risen (λ x. cond (has x xs) (laid_premium g s x) (p x))
  lay_cells [] p m b = refl
  lay_cells (y ∷ ys) p m b =
      ap (λ (w : List ℤ). fold (lay_cell n) w ys) (lay_acts p y m (first_of y ys b))
      ∙ lay_cells ys (changed p y (laid_premium g s y)) (marking_on p y m) (rest_of y ys b)
      ∙ same (λ x. cond (has x ys) (laid_premium g s x) (changed p y (laid_premium g s y) x)) (λ x. cond (has x (y ∷ ys)) (laid_premium g s x) (p x)) (λ x h. one x)
    where
      one : (x : ℕ) → cond (has x ys) (laid_premium g s x) (changed p y (laid_premium g s y) x) ≡ cond (has x (y ∷ ys)) (laid_premium g s x) (p x)
      one x =
          elim (ℕ_discrete x y) [
            | yes e ↦ rw (eq-eqb x y e, e) (here (has y ys) (laid_premium g s y))
            | no q ↦ rw (ne_eqb x y q)
          ]
        where
          here : (b : Bool) (v : ℕ) → cond b v v ≡ v
          here true v = refl
          here false v = refl

  lay-all : fold (lay_cell n) (risen (λ x. bit (marked g s x))) (cells g) ≡ risen (laid_premium g s)
  lay-all =
      lay_cells (cells g) (λ x. bit (marked g s x)) (λ x h. omega (arith, bit_small (marked g s x))) (cells→ g)
      ∙ same (λ x. cond (has x (cells g)) (laid_premium g s x) (bit (marked g s x))) (laid_premium g s)
      (λ x h. rw (T→true (has x (cells g)) (→cells g x h)))

  -- ---- the marks taken away

  abbrev half_cell : Cell → Cell
  half_cell c = priced (c.premium / 2) c

  halve_acts : (C : ℕ → Cell) (i : ℕ) → i < n → halve_cell (cell_area C n old) i ≡ cell_area (at C i (half_cell (C i))) n old
  halve_acts C i h = rw (read_premium n old room C i h) (put-premium n old room C i ((C i).premium / 2) h)

  half : (i : ℕ) → laid_premium g s i % 2147483648 / 2 ≡ alone g s i
  half i = omega (arith, bit_small (marked g s i), alone_small g s i)

  halve-all : fold halve_cell (risen (laid_premium g s)) (cells g) ≡ risen (alone g s)
  halve-all =
      fold_acts n old room halve_cell half_cell halve_acts (cells g) (risen_cell g s (laid_premium g s)) (once_cells g) (cells→ g)
      ∙ same_area n old room (made half_cell (cells g) (risen_cell g s (laid_premium g s))) (risen_cell g s (alone g s))
      (λ x h. rw (T→true (has x (cells g)) (→cells g x h), half x))

  -- ---- raised

  near_acts : (p : ℕ → ℕ) (i : ℕ) → i < n → raise_near g.rows g.columns (risen p) i
      ≡ cond (raising g s i) (fold (shifted 1 0) (risen p) (square_of g.rows g.columns i)) (risen p)
  near_acts p i h =
      rw (read_content n old room (risen_cell g s p) i h, read_state n old room (risen_cell g s p) i h, read_first n old room (risen_cell g s p) i h, content_mine g i, first-label g i)
      (ap (λ (b : Bool). cond b (fold (shifted 1 0) (risen p) (square_of g.rows g.columns i)) (risen p)) (one (mine g i) (flagged s i) (eqb (first_label g i) 0) (unopened s i)))
    where
      one : (m f l u : Bool) → cond m f (l && u) ≡ cond m f ((not m && l) && u)
      one true f l u = refl
      one false f l u = refl

  raise-all : fold (raise_near g.rows g.columns) (risen (alone g s)) (cells g) ≡ held g s old
  raise-all =
      raise_cells g s old room (raise_near g.rows g.columns) (raising g s) near_acts (cells g) (alone g s) (cells→ g)
      ∙ same (λ x. alone g s x + count (raises g (raising g s) x) (cells g)) (raised g s) (late_parts g s)
      ∙ risen_held g s old room

  -- ---- all of them

  moving : laid (moving_five g s) n old ≡ risen (λ x. 0)
  unfolding moving_five
  moving = refl

  late_held : (w₀ w₁ w₂ w₃ w₄ : List ℤ) → w₀ ≡ laid (moving_five g s) n old → w₁ ≡ fold (mark_cell n) w₀ (cells g) → w₂ ≡ fold (lay_cell n) w₁ (cells g)
      → w₃ ≡ fold halve_cell w₂ (cells g) → w₄ ≡ fold (raise_near g.rows g.columns) w₃ (cells g) → w₄ ≡ held g s old
  late_held w₀ w₁ w₂ w₃ w₄ e₀ e₁ e₂ e₃ e₄ =
      let f₁ = e₁ ∙ ap (λ (w : List ℤ). fold (mark_cell n) w (cells g)) (e₀ ∙ moving) ∙ mark-all in
      let f₂ = e₂ ∙ ap (λ (w : List ℤ). fold (lay_cell n) w (cells g)) f₁ ∙ lay-all in
      let f₃ = e₃ ∙ ap (λ (w : List ℤ). fold halve_cell w (cells g)) f₂ ∙ halve-all in
      e₄ ∙ ap (λ (w : List ℤ). fold (raise_near g.rows g.columns) w (cells g)) f₃ ∙ raise-all

-- the same, by rows and columns
pub late_stands : (rows columns : ℕ) (g : Grid) (s : Position) (old w₀ w₁ w₂ w₃ w₄ : List ℤ) → Moving rows columns g s old w₀
    → w₁ ≡ fold (mark_cell (rows * columns)) w₀ (range 0 (rows * columns)) → w₂ ≡ fold (lay_cell (rows * columns)) w₁ (range 0 (rows * columns))
    → w₃ ≡ fold halve_cell w₂ (range 0 (rows * columns)) → w₄ ≡ fold (raise_near rows columns) w₃ (range 0 (rows * columns)) → Stands rows columns g s old w₄
late_stands rows columns g s old w₀ w₁ w₂ w₃ w₄ t e₁ e₂ e₃ e₄ =
    record {
      rows_are = t.rows_are;
      columns_are = t.columns_are;
      shape = t.shape;
      room = t.room;
      long = t.long;
      holds_it = late_held g s old t.room w₀ w₁ w₂ w₃ w₄ t.holds_it
          (e₁ ∙ λ i. fold (mark_cell (r i * c i)) w₀ (range 0 (r i * c i)))
          (e₂ ∙ λ i. fold (lay_cell (r i * c i)) w₁ (range 0 (r i * c i)))
          (e₃ ∙ λ i. fold halve_cell w₂ (range 0 (r i * c i)))
          (e₄ ∙ λ i. fold (raise_near (r i) (c i)) w₃ (range 0 (r i * c i)));
    }
  where
    r : rows ≡ g.rows
    r = sym t.rows_are

    c : columns ≡ g.columns
    c = sym t.columns_are
