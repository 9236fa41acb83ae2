-- Row after row: the mines of the row below are put before a row is numbered, so that its numbers see them, and what is left to put leads to the right values of all cells. Assumes nothing.
use Prim.Native.Nat.{ℕ, zero, suc, ◌+◌, ◌-◌, ◌*◌, ◌<◌, ◌≤◌, min}
use native.Mathlib.Omega.{arith}
use native.Mathlib.Decide.{ℕ_discrete}
use native.Mathlib.Nat.{mul-le-mul_right}
use mathlib.Core.Path.{◌≡◌, ap, refl, sym, ◌∙◌}
use mathlib.Core.Bool.{cond}
use mathlib.Core.List.{List}
use lib.Arith.{digits_lt}
use lib.Dec.{T}
use lib.IntN.{ℤ, negsuc, pos}
use lib.ListN.{get_or, length, length-set, set}
use lib.Seq.{get_or-set_other, get_or-set_same}
use Rattle.game.specs.Area.{begun}
use Rattle.game.specs.Grid.{Grid, cell_at, column_of, index, is_mine, mine, number, right_value, right_values, row_of, size, square}
use Rattle.game.specs.Lists.{fold, from, has, range}
use Rattle.game.proofs.Counts.{count_ext}
use Rattle.game.proofs.Members.{fold_append, fold_inv, fold_same, get_d_range, has_range, length_fold, range_has, range_none, range_split}
use Rattle.game.proofs.Squares.{column_lt, index-lt, index-row, next_column, row_lt, square→}
use Rattle.area.specs.Numbers.{grid_of}
use Rattle.lines.specs.BoardLine.{bit_at, value_of}
use Rattle.mbf_read.specs.Numbers.{bit_grid, put_mine, put_right}
use Rattle.mbf_read.proofs.Filling.{all_filled, cell_here, length_filled, mines_stay, put_over}

-- the grid g is filled in from a run `old` on: now its mines are told up to a place, and right values put from another place on lead to those of all cells
pub record Stage (g : Grid) (old : List ℤ) (done told : ℕ) (now : List ℤ) : Type 0 where
  pub room : size g ≤ length old
  pub long : length now ≡ length old
  pub tells : (p : ℕ) → p < told → is_mine (get_or now p (pos 0)) ≡ is_mine (get_or g.values p (pos 0))
  pub leads : fold (put_right g) now (range done (size g)) ≡ fold (put_right g) old (range 0 (size g))

-- ---- numbers

module _ (g : Grid) (vs : List ℤ) (row : ℕ) (inside : row < g.rows)
    (same : (p : ℕ) → p < min (row + 2) g.rows * g.columns → is_mine (get_or vs p (pos 0)) ≡ is_mine (get_or g.values p (pos 0))) where
  -- the grid with other values
  abbrev other : Grid
  other = grid_of g.rows g.columns vs

  -- a cell up to the next row
  mine_near : (i : ℕ) → i < size g → row_of g i ≤ row + 1 → mine other i ≡ mine g i
  unfolding mine
  mine_near i h k =
      same (row_of g i * g.columns + column_of g i)
      (digits_lt {q = row_of g i} {m = min (row + 2) g.rows} {r = column_of g i} {c = g.columns} (omega (arith, row_lt g i h)) (column_lt g i h))

  -- so a cell of the row has the same right value
  right_near : (column : ℕ) → column < g.columns → right_value other (index g row column) ≡ right_value g (index g row column)
  unfolding right_value number square
  right_near column k =
      let i = index g row column in
      let h = index-lt g row column inside k in
      let e = index-row g row column inside in
      λ j. cond (mine_near i h (omega arith) j) (negsuc 0)
      (pos (count_ext (mine other) (mine g) (square g i) (λ x t. let s = square→ g i x h t in mine_near x s.0 (omega (arith, s.1.south))) j))

  -- and the row is numbered alike
  pub row_alike : (w : List ℤ) → fold (put_right other) w (range (row * g.columns) (row * g.columns + g.columns)) ≡ fold (put_right g) w (range (row * g.columns) (row * g.columns + g.columns))
  row_alike w = fold_same (put_right other) (put_right g) (range n (n + g.columns)) w one
    where
      -- where the row begins
      n : ℕ
      n = row * g.columns

      -- one value of it
      one : (v : List ℤ) (p : ℕ) → T (has p (range n (n + g.columns))) → put_right other v p ≡ put_right g v p
      one v p t =
          let b = has_range n (n + g.columns) p t in
          let k : p - n < g.columns = omega arith in
          let e : n + (p - n) ≡ p = omega arith in
          let at = sym (ap (cell_at g) e) ∙ cell_here g row (p - n) k in
          ap (set v p) (ap (right_value other) at ∙ right_near (p - n) k ∙ ap (right_value g) (sym at))

-- ---- mines

module _ (rows columns : ℕ) (bits : List ℕ) where
  -- the grid of the bits
  abbrev grid : Grid
  grid = bit_grid rows columns bits

  -- a value put by its bit tells the mine
  value_tells : (p : ℕ) → p < rows * columns → is_mine (value_of (bit_at bits p)) ≡ is_mine (get_or grid.values p (pos 0))
  value_tells p h = ap is_mine (sym (get_d_range (λ q. value_of (bit_at bits q)) (pos 0) (rows * columns) p h))

  -- so values put on from where mines are told tell more of them
  values_tell : (n a : ℕ) (w : List ℤ) → a + n ≤ rows * columns → rows * columns ≤ length w → ((p : ℕ) → p < a → is_mine (get_or w p (pos 0)) ≡ is_mine (get_or grid.values p (pos 0)))
      → (p : ℕ) → p < a + n → is_mine (get_or (fold (put_mine bits) w (from a n)) p (pos 0)) ≡ is_mine (get_or grid.values p (pos 0))
  values_tell zero a w h l e p k = e p (omega arith)
  values_tell (suc n) a w h l e p k =
      values_tell n (suc a) (put_mine bits w a) (omega arith) (omega (arith, length-set w a (value_of (bit_at bits a)))) one p (omega arith)
    where
      -- one value
      one : (q : ℕ) → q < suc a → is_mine (get_or (put_mine bits w a) q (pos 0)) ≡ is_mine (get_or grid.values q (pos 0))
      one q i =
          elim (ℕ_discrete q a) [
            | yes z ↦
                ap (λ (r : ℕ). is_mine (get_or (put_mine bits w a) r (pos 0))) z ∙ ap is_mine (get_or-set_same w a (value_of (bit_at bits a)) (pos 0) (omega arith)) ∙ value_tells a (omega arith)
                ∙ ap (λ (r : ℕ). is_mine (get_or grid.values r (pos 0))) (sym z)
            | no z ↦ ap is_mine (get_or-set_other w a q (value_of (bit_at bits a)) (pos 0) z) ∙ e q (omega arith)
          ]

  -- ---- stages

  module _ {old : List ℤ} where
    -- more mines are put
    stage_put : {now : List ℤ} {done a : ℕ} (b : ℕ) → Stage grid old done a now → done ≤ a → a ≤ b → b ≤ rows * columns → Stage grid old done b (fold (put_mine bits) now (range a b))
    stage_put {now} {done} {a} b s h k l =
        record {
          room = s.room;
          long = length_fold (put_mine bits) now (range a b) (λ v p. length-set v p (value_of (bit_at bits p))) ∙ s.long;
          tells = λ p i. values_tell (b - a) a now (omega arith) (omega (arith, s.long, s.room)) s.tells p (omega arith);
          leads = lost ∙ s.leads;
        }
      where
        -- what was put is lost when right values are put
        lost : fold (put_right grid) (fold (put_mine bits) now (range a b)) (range done (rows * columns)) ≡ fold (put_right grid) now (range done (rows * columns))
        lost =
            fold_inv (λ w. fold (put_right grid) w (range done (rows * columns)) ≡ fold (put_right grid) now (range done (rows * columns))) (put_mine bits) (range a b)
            (λ w p t q. let i = has_range a b p t in put_over grid w p (value_of (bit_at bits p)) (range done (rows * columns)) (range_has done (rows * columns) p (omega arith) (omega arith)) ∙ q)
            now refl

    -- a row is numbered, once the mines of the next one are put
    stage_numbered : {now : List ℤ} (row : ℕ) → row < rows → Stage grid old (row * columns) (min (row + 2) rows * columns) now
        → Stage grid old (row * columns + columns) (min (row + 2) rows * columns) (fold (put_right (grid_of rows columns now)) now (range (row * columns) (row * columns + columns)))
    stage_numbered {now} row h s =
        let n = row * columns in
        let inside : n + columns ≤ rows * columns = omega (arith, next_column columns row, mul-le-mul_right {m = row + 1} {n = rows} columns (omega arith)) in
        record {
          room = s.room;
          long = length_filled (grid_of rows columns now) now (range n (n + columns)) ∙ s.long;
          tells = λ p i. mines_stay rows columns now n (n + columns) p inside ∙ s.tells p i;
          leads =
              ap (λ (w : List ℤ). fold (put_right grid) w (range (n + columns) (rows * columns))) (row_alike grid now row h s.tells now)
              ∙ sym (fold_append (put_right grid) now (range n (n + columns)) (range (n + columns) (rows * columns)))
              ∙ ap (fold (put_right grid) now) (sym (range_split n (n + columns) (rows * columns) (omega arith) inside))
              ∙ s.leads;
        }

    -- the mines of the first row are put
    pub stage_first : (now : List ℤ) → 1 ≤ rows → rows * columns ≤ length old → now ≡ fold (put_mine bits) old (range 0 columns) → Stage grid old 0 columns now
    stage_first now h room e =
        rw e (stage_put columns start (omega arith) (omega arith) (omega (arith, mul-le-mul_right {m = 1} {n = rows} columns h)))
      where
        -- before anything is put
        start : Stage grid old 0 0 old
        start = record { room = room; long = refl; tells = λ p k. absurd (omega arith); leads = refl }

    -- a run with these is a start of its own
    pub stage_seen : {now : List ℤ} {told : ℕ} → Stage grid old 0 told now → Stage grid now 0 told now
    stage_seen s = record { room = omega (arith, s.room, s.long); long = refl; tells = s.tells; leads = refl }

    -- what leads on from it leads on from the start
    pub stage_since : {now new : List ℤ} {told done more : ℕ} → Stage grid old 0 told now → Stage grid now done more new → Stage grid old done more new
    stage_since s t = record { room = s.room; long = t.long ∙ s.long; tells = t.tells; leads = t.leads ∙ s.leads }

    -- one row more: the mines of the next one are put, and it is numbered
    pub stage_row : (now shown new : List ℤ) (row last : ℕ) → row < rows → last ≡ min (row + 2) rows → Stage grid old (row * columns) (min (row + 1) rows * columns) now
        → shown ≡ fold (put_mine bits) now (range ((row + 1) * columns) (last * columns)) → new ≡ fold (put_right (grid_of rows columns shown)) shown (range (row * columns) (row * columns + columns))
        → Stage grid old ((row + 1) * columns) (min (row + 1 + 1) rows * columns) new
    stage_row now shown new row last h e s m n =
        let q : min (row + 1) rows ≡ row + 1 = omega arith in
        let r : row + 1 + 1 ≡ row + 2 = omega arith in
        let low = mul-le-mul_right {m = row + 1} {n = last} columns (omega arith) in
        let high = mul-le-mul_right {m = last} {n = rows} columns (omega arith) in
        let seen : Stage grid old (row * columns) ((row + 1) * columns) now = rw q at s in
        let more : Stage grid old (row * columns) (min (row + 2) rows * columns) shown = rw (m, ← e) (stage_put (last * columns) seen (omega (arith, next_column columns row)) low high) in
        rw (n, ← next_column columns row, r) (stage_numbered row h more)

    -- after the last row the cells have their right values
    pub stage_last : {now : List ℤ} {told : ℕ} → Stage grid old (rows * columns) told now → now ≡ begun (right_values grid) old
    stage_last {now} s = sym (ap (fold (put_right grid) now) (range_none (rows * columns))) ∙ s.leads ∙ all_filled grid old s.room
