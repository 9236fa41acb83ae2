-- Right values put one after the other: no value put changes what is a mine, a value put again replaces the one before, and all of them are the start of the run. Assumes nothing.
use Prim.Native.Nat.{ℕ, zero, suc, ◌+◌, ◌*◌, ◌%◌, ◌<◌, ◌≤◌}
use native.Mathlib.Omega.{arith}
use native.Mathlib.Decide.{ℕ_discrete}
use native.Mathlib.Nat.{mod-eq_of_lt}
use native.Mathlib.Numerals.{add-one}
use mathlib.Core.Path.{◌≡◌, ap, ap₂, refl, sym, ◌∙◌}
use mathlib.Core.Bool.{Bool, cond, false, true}
use mathlib.Core.List.{List, [], ◌∷◌, map}
use lib.Arith.{digits_div, digits_lt, digits_mod}
use lib.Dec.{T}
use lib.IntN.{ℤ, negsuc, pos}
use lib.ListN.{get_or-map, get_or, length, length-set, set}
use lib.Seq.{map-set_same, set_comm, set-get_or, set-set}
use mir.Syntax.{w32}
use mir.Val.{to_z}
use Rattle.game.specs.Area.{begun}
use Rattle.game.specs.Grid.{Grid, cell_at, index, is_mine, mine, number, right_value, right_values, size}
use Rattle.game.specs.Lists.{fold, has, range}
use Rattle.game.proofs.Canonical.{mine_at_place, right_mine}
use Rattle.game.proofs.Members.{fold_inv, fold_more, has_cases, has_range, length_fold}
use Rattle.area.specs.Numbers.{grid_of}
use Rattle.area.proofs.Signs.{stored}
use Rattle.lines.proofs.Runs.{fill_more}
use Rattle.mbf_read.specs.Numbers.{put_right}

-- ---- one cell

-- a number of a square is stored as itself
pub number_stored : (n : ℕ) → n ≤ 9 → to_z w32 n ≡ pos n
number_stored n h = let e : n % 2147483648 ≡ n = mod-eq_of_lt (omega arith) in ap (to_z w32) (sym e) ∙ stored n ∙ ap pos e

-- a mine's value is -1
only_mine : (v : ℤ) → true ≡ is_mine v → v ≡ negsuc 0
only_mine (pos n) e = (cc)
only_mine (negsuc zero) e = refl
only_mine (negsuc (suc n)) e = (cc)

-- a mine's value that stays is its right value put again
stays_or_put : (w : List ℤ) (p n : ℕ) (b : Bool) → b ≡ is_mine (get_or w p (pos 0)) → cond b w (set w p (pos n)) ≡ set w p (cond b (negsuc 0) (pos n))
stays_or_put w p n true e = sym (set-get_or w p (pos 0)) ∙ ap (set w p) (only_mine (get_or w p (pos 0)) e)
stays_or_put w p n false e = refl

module _ (g : Grid) where
  -- the cell at a place, by its row and column
  pub cell_here : (row column : ℕ) → column < g.columns → cell_at g (row * g.columns + column) ≡ index g row column
  cell_here row column k = ap₂ (index g) (digits_div row k) (digits_mod row k)

  -- ---- cell after cell

  -- the run stays as long
  pub length_filled : (w : List ℤ) (ps : List ℕ) → length (fold (put_right g) w ps) ≡ length w
  length_filled w ps = length_fold (put_right g) w ps (λ v p. length-set v p (right_value g (cell_at g p)))

  -- what stood at a place that is put is lost
  pub put_over : (w : List ℤ) (p : ℕ) (v : ℤ) (ps : List ℕ) → T (has p ps) → fold (put_right g) (set w p v) ps ≡ fold (put_right g) w ps
  put_over w p v [] t = elim t [ ]
  put_over w p v (q ∷ ps) t =
      elim (ℕ_discrete p q) [
        | yes e ↦ ap (λ (x : List ℤ). fold (put_right g) x ps) (ap (λ (k : ℕ). set (set w k v) q (right_value g (cell_at g q))) e ∙ set-set w q v (right_value g (cell_at g q)))
        | no e ↦
            ap (λ (x : List ℤ). fold (put_right g) x ps) (set_comm w p q v (right_value g (cell_at g q)) e)
            ∙ put_over (set w q (right_value g (cell_at g q))) p v ps (has_cases p q ps (λ z. absurd (e z)) (λ u. u) t)
      ]

  -- the values stand at the start of the run
  values_to : (n : ℕ) (old : List ℤ) → n ≤ length old → fold (put_right g) old (range 0 n) ≡ begun (map (λ p. right_value g (cell_at g p)) (range 0 n)) old
  values_to zero old h = refl
  values_to (suc n) old h =
      ap (λ (k : ℕ). fold (put_right g) old (range 0 k)) (sym (add-one n))
      ∙ fold_more (put_right g) old 0 n (omega arith)
      ∙ fill_more (λ p. right_value g (cell_at g p)) n old (fold (put_right g) old (range 0 n)) (right_value g (cell_at g n)) (values_to n old (omega arith)) refl (omega arith)
      ∙ ap (λ (k : ℕ). begun (map (λ p. right_value g (cell_at g p)) (range 0 k)) old) (add-one n)

  -- once all are put, those of the grid do
  pub all_filled : (old : List ℤ) → size g ≤ length old → fold (put_right g) old (range 0 (size g)) ≡ begun (right_values g) old
  unfolding right_values
  all_filled old h = values_to (size g) old h

-- ---- into the grid itself

-- two runs with the same mines, at a place
mine_there : (w u : List ℤ) (p : ℕ) → map is_mine w ≡ map is_mine u → is_mine (get_or w p (pos 0)) ≡ is_mine (get_or u p (pos 0))
mine_there w u p e = sym (get_or-map is_mine w p (pos 0)) ∙ ap (λ (bs : List Bool). get_or bs p false) e ∙ get_or-map is_mine u p (pos 0)

module _ (rows columns : ℕ) (vs : List ℤ) where
  -- the grid before
  abbrev grid : Grid
  grid = grid_of rows columns vs

  -- right values put change no mine
  pub mines_stay : (a b p : ℕ) → b ≤ rows * columns → is_mine (get_or (fold (put_right grid) vs (range a b)) p (pos 0)) ≡ is_mine (get_or vs p (pos 0))
  mines_stay a b p h =
      mine_there (fold (put_right grid) vs (range a b)) vs p
      (fold_inv (λ w. map is_mine w ≡ map is_mine vs) (put_right grid) (range a b) one vs refl)
    where
      -- one value put
      one : (w : List ℤ) (q : ℕ) → T (has q (range a b)) → map is_mine w ≡ map is_mine vs → map is_mine (put_right grid w q) ≡ map is_mine vs
      one w q t e =
          map-set_same is_mine w q (right_value grid (cell_at grid q)) (pos 0)
          (right_mine grid (cell_at grid q) ∙ mine_at_place grid q (omega (arith, (has_range a b q t).1)) ∙ sym (mine_there w vs q e))
          ∙ e

  -- one cell more: a safe cell's number is put, a mine's value stays
  pub one_more : (now : List ℤ) (row column n : ℕ) (b : Bool) → row < rows → column < columns → now ≡ fold (put_right grid) vs (range (row * columns) (row * columns + column))
      → b ≡ mine grid (column * rows + row) → n ≡ number grid (column * rows + row)
      → cond b now (set now (row * columns + column) (pos n)) ≡ fold (put_right grid) vs (range (row * columns) (row * columns + (column + 1)))
  unfolding right_value
  one_more now row column n b h k e m o =
      let p = row * columns + column in
      let l = digits_lt {q = row} {m = rows} {r = column} {c = columns} h k in
      let cell = sym (cell_here grid row column k) in
      let w = fold (put_right grid) vs (range (row * columns) p) in
      let own : b ≡ is_mine (get_or now p (pos 0)) = m ∙ ap (mine grid) cell ∙ mine_at_place grid p l ∙ sym (mines_stay (row * columns) p p (omega arith)) ∙ ap (λ (x : List ℤ). is_mine (get_or x p (pos 0))) (sym e) in
      let q : p + 1 ≡ row * columns + (column + 1) = omega arith in
      stays_or_put now p n b own
      ∙ (λ j. set (e j) p (cond (m j) (negsuc 0) (pos (o j))))
      ∙ ap (λ (c : ℕ). set w p (right_value grid c)) cell
      ∙ sym (fold_more (put_right grid) vs (row * columns) p (omega arith))
      ∙ ap (λ (k : ℕ). fold (put_right grid) vs (range (row * columns) k)) q
