-- The mines of some cells are those of the first of them and those of the others, so a walk takes one cell or one column more. Assumes nothing.
use Prim.Native.Nat.{ℕ, ◌+◌, ◌-◌, ◌*◌, ◌<◌, ◌≤◌}
use native.Mathlib.Omega.{arith}
use native.Mathlib.Nat.{mul-le-mul_right}
use mathlib.Core.Path.{◌≡◌, ap, refl, subst, sym, ◌∙◌}
use mathlib.Core.Bool.{Bool, true, false}
use mathlib.Core.List.{List, [], ◌∷◌, ◌++◌}
use lib.ListN.{length, length-append}
use lib.Seq.{length-sets, sets}
use mir.Val.{bool_byte}
use Rattle.game.specs.Lists.{concat_map, keep, range}
use Rattle.game.specs.Grid.{Grid, index, mine}
use Rattle.game.proofs.Members.{concat_map_append, keep_append, length_from, range_more, range_none, range_split}
use Rattle.game.proofs.Counts.{count_le, length_keep}
use Rattle.game.proofs.Squares.{index-column, index-row}
use Rattle.area.proofs.Tests.{count_one_more}
use Rattle.hex_digits.proofs.Bytes.{sets_more}
use Rattle.mbf_form.specs.Form.{mine_bytes}
use Rattle.mbf_write.specs.Mines.{Listed, bytes_from, mines_from}

-- ---- first some cells, then others

module _ (g : Grid) where
  mines_join : (a b c : ℕ) → a ≤ b → b ≤ c → mines_from g a c ≡ mines_from g a b ++ mines_from g b c
  unfolding mines_from
  mines_join a b c h k =
      ap (keep (mine g)) (range_split a b c h k) ∙ keep_append (mine g) (range a b) (range b c)

  -- and so are their numbers
  pub count_join : (a b c : ℕ) → a ≤ b → b ≤ c → length (mines_from g a c) ≡ length (mines_from g a b) + length (mines_from g b c)
  count_join a b c h k = ap length (mines_join a b c h k) ∙ length-append (mines_from g a b) (mines_from g b c)

  bytes_join : (a b c : ℕ) → a ≤ b → b ≤ c → bytes_from g a b ++ bytes_from g b c ≡ bytes_from g a c
  bytes_join a b c h k = sym (ap (concat_map (mine_bytes g)) (mines_join a b c h k) ∙ concat_map_append (mine_bytes g) (mines_from g a b) (mines_from g b c))

  -- at most as many as the cells
  pub mines_few : (a b : ℕ) → length (mines_from g a b) ≤ b - a
  unfolding mines_from
  mines_few a b = omega (arith, length_keep (mine g) (range a b), count_le (mine g) (range a b), length_from (b - a) a)

  -- none of no cells
  no_mines : (a b : ℕ) → b ≡ a → mines_from g a b ≡ []
  unfolding mines_from
  no_mines a b e = ap (λ (n : ℕ). keep (mine g) (range a n)) e ∙ ap (keep (mine g)) (range_none a)

  pub none_counted : (a b : ℕ) → b ≡ a → 0 ≡ length (mines_from g a b)
  none_counted a b e = sym (ap length (no_mines a b e))

  -- one cell more is counted
  pub one_counted : (a b c m : ℕ) (r : Bool) → a ≤ b → c ≡ b + 1 → m ≡ length (mines_from g a b) → r ≡ mine g b → m + bool_byte r ≡ length (mines_from g a c)
  unfolding mines_from
  one_counted a b c m r h u e q =
      count_one_more (mine g) a b m r h (e ∙ length_keep (mine g) (range a b)) q
      ∙ sym (ap (λ (n : ℕ). length (keep (mine g) (range a n))) u ∙ length_keep (mine g) (range a (b + 1)))

-- a column's cells lie on the grid
pub column_inside : (rows columns column : ℕ) → column < columns → column * rows + rows ≤ rows * columns
column_inside rows columns column h = omega (arith, mul-le-mul_right rows h)

-- two bytes for each mine
pub two_each : (g : Grid) (is : List ℕ) → length (concat_map (mine_bytes g) is) ≡ 2 * length is
two_each g [] = refl
two_each g (i ∷ is) = omega (arith, two_each g is)

-- ---- bytes put

module _ (g : Grid) (old : List ℕ) (at : ℕ) where
  -- no mine, no byte
  nothing_put : (a b : ℕ) → mines_from g a b ≡ [] → Listed g a b old at old at
  nothing_put a b e = record { past = omega (arith, ap length e); put = sym (ap (λ (is : List ℕ). sets old at (concat_map (mine_bytes g) is)) e) }

  -- those of no cells
  pub none_put : (a b : ℕ) → b ≡ a → Listed g a b old at old at
  none_put a b e = nothing_put a b (no_mines g a b e)

  -- those of some cells, then those of others
  pub more_put : (a b c : ℕ) (mid : List ℕ) (m : ℕ) (new : List ℕ) (n : ℕ) → a ≤ b → b ≤ c → Listed g a b old at mid m → Listed g b c mid m new n → Listed g a c old at new n
  more_put a b c mid m new n h k p q =
      record {
        past = omega (arith, p.past, q.past, count_join g a b c h k);
        put = q.put
            ∙ ap (λ (l : List ℕ). sets l m (bytes_from g b c)) p.put
            ∙ sets_more old at m (bytes_from g a b) (bytes_from g b c) (omega (arith, p.past, two_each g (mines_from g a b)))
            ∙ ap (sets old at) (bytes_join g a b c h k);
      }

  -- the same cells by another name of their end
  pub put_to : (a b c : ℕ) (new : List ℕ) (n : ℕ) → b ≡ c → Listed g a b old at new n → Listed g a c old at new n
  put_to a b c new n e p = subst (λ (k : ℕ). Listed g a k old at new n) e p

  -- the run stays as long as it was
  pub put_length : (a b : ℕ) (new : List ℕ) (n : ℕ) → Listed g a b old at new n → length new ≡ length old
  put_length a b new n p = ap length p.put ∙ length-sets old at (bytes_from g a b)

-- ---- one cell

module _ (g : Grid) (i : ℕ) where
  abbrev alone : Bool → List ℕ
  alone b = elim b [ true ↦ i ∷ [] | false ↦ [] ]

  by_test : (b : Bool) → b ≡ mine g i → mines_from g i (i + 1) ≡ alone b
  unfolding mines_from
  by_test b e =
      ap (keep (mine g)) (range_more i i (omega arith) ∙ ap (λ (l : List ℕ). l ++ (i ∷ [])) (range_none i))
      ∙ sym (ap alone e)

  -- a safe cell has no bytes
  pub safe_put : (old : List ℕ) (at : ℕ) → false ≡ mine g i → Listed g i (i + 1) old at old at
  safe_put old at e = nothing_put g old at i (i + 1) (by_test false e)

  pub one_mine : true ≡ mine g i → length (mines_from g i (i + 1)) ≡ 1
  one_mine e = ap length (by_test true e)

-- a mine has its column, then its row
pub mine_put : (g : Grid) (row column : ℕ) (old : List ℕ) (at : ℕ) (new : List ℕ) (next : ℕ) → row < g.rows → true ≡ mine g (index g row column) → next ≡ at + 2 → new ≡ sets old at (column ∷ row ∷ [])
    → Listed g (index g row column) (index g row column + 1) old at new next
mine_put g row column old at new next h e n p =
    let i = index g row column in
    record {
      past = omega (arith, one_mine g i e);
      put = p
          ∙ sym (λ k. sets old at (index-column g row column h k ∷ index-row g row column h k ∷ []))
          ∙ sym (ap (λ (is : List ℕ). sets old at (concat_map (mine_bytes g) is)) (by_test g i true e));
    }
