-- initboard's second loop numbers the openings as they are gathered, so each cell ends with its first and second label. Assumes nothing.
use Prim.Native.Nat.{ℕ, ◌+◌, ◌<◌, ◌≤◌}
use native.Mathlib.Omega.{arith}
use mathlib.Core.Path.{◌∙◌, ◌≡◌, ap, ap₂, refl, sym}
use mathlib.Core.Bool.{Bool, ◌&&◌, ◌||◌, cond, false, not, true}
use mathlib.Core.List.{List, [], ◌++◌, ◌∷◌}
use lib.Dec.{T, T_not, eqb, eqb→eq, not_T}
use lib.ListN.{get_or, length, length-append}
use Rattle.game.specs.Grid.{Grid, cells, safe, size, zero_cell}
use Rattle.game.specs.Lists.{Each, fold, has, range, some_of}
use Rattle.game.specs.Openings.{first_label, gather, holds, joined_to, labels, openings, places, second_label}
use Rattle.original.specs.Cells.{Cells, CellOpened, Zcell, at, process_opening, set_opening}
use Rattle.game.proofs.Chains.{joined_last, joined_sym}
use Rattle.game.proofs.Labels.{holds_zero, places_from, places_none, places_snoc}
use Rattle.game.proofs.Members.{at_most, first_of, rest_of}
use Rattle.game.proofs.Openings.{Full, Good, In, good_gather, good_none}
use Rattle.game.proofs.Reveal.{zero_safe}
use Rattle.game.proofs.Squares.{cells→}
use Rattle.game.proofs.Truth.{T→true, and_false, and_left, and_right}
use Rattle.game.proofs.Zeros.{Zero}
use Rattle.original.proofs.Numbers.{lined}
use Rattle.original.proofs.Borders.{first_of_two, second_of_two}
use Rattle.original.proofs.Spreads.{Begun, met, whole_opening}
use Rattle.original.proofs.Tables.{Table, table_ext}
use borrow.Author.Tests.{ne_eqb}

-- ---- places of the openings that hold a cell

-- the first two of a list to which one more may come
first_more : (op : ℕ) (m : Bool) (ls : List ℕ) → ((x : ℕ) → T (has x ls) → 1 ≤ x) → get_or (ls ++ cond m (op ∷ []) []) 0 0 ≡ first_of_two op m (get_or ls 0 0)
first_more op true [] h = refl
first_more op false [] h = refl
first_more op true (x ∷ ls) h = simp (ne_eqb x 0 (λ e. absurd (omega (arith, first_of x ls h))))
first_more op false (x ∷ ls) h = refl

second_more : (op : ℕ) (m : Bool) (ls : List ℕ) → ((x : ℕ) → T (has x ls) → 1 ≤ x) → get_or (ls ++ cond m (op ∷ []) []) 1 0 ≡ second_of_two op m (get_or ls 0 0) (get_or ls 1 0)
second_more op true [] h = refl
second_more op false [] h = refl
second_more op true (x ∷ []) h = simp (ne_eqb x 0 (λ e. absurd (omega (arith, first_of x [] h))))
second_more op false (x ∷ []) h = refl
second_more op true (x ∷ y ∷ ls) h =
    simp (ne_eqb x 0 (λ e. absurd (omega (arith, first_of x (y ∷ ls) h))), ne_eqb y 0 (λ e. absurd (omega (arith, first_of y ls (rest_of x (y ∷ ls) h)))))
second_more op false (x ∷ y ∷ ls) h = refl

-- ---- the loop

-- the first and the second of the places of a cell
abbrev one_label : Grid → List (List ℕ) → ℕ → ℕ
one_label g os j = get_or (places g j 1 os) 0 0

abbrev two_label : Grid → List (List ℕ) → ℕ → ℕ
two_label g os j = get_or (places g j 1 os) 1 0

record Labelled (g : Grid) (os : List (List ℕ)) (o : CellOpened) : Type 0 where
  good_so_far : Good g os
  table : Table (size g) (λ j. lined g j (one_label g os j) (two_label g os j)) o.cells
  counted : o.openings ≡ length os

-- no 0-cell of an opening so far is held by another one
held_in : (g : Grid) (i : ℕ) (os : List (List ℕ)) → Zero g i → Each (Full g) os → some_of (holds g i) os ≡ some_of (has i) os
held_in g i [] z e = refl
held_in g i (o ∷ os) z e =
    ap (λ (b : Bool). b || some_of (holds g i) os) (holds_zero g i o z e.0) ∙ ap (λ (b : Bool). has i o || b) (held_in g i os z e.1)

module _ (g : Grid) (os : List (List ℕ)) (o : CellOpened) (i : ℕ) (h : i < size g) (l : Labelled g os o) where
  -- a new opening begins where the loop finds an unlabelled 0-cell
  new_here : (not (at o.cells i).mine && eqb (at o.cells i).number 0 && eqb (at o.cells i).opening 0) ≡ (zero_cell g i && not (some_of (has i) os))
  new_here =
      ap (λ (z : Zcell). not z.mine && eqb z.number 0 && eqb z.opening 0) (l.table.reads i h)
      ∙ ap (λ (b : Bool). safe g i && zero_cell g i && b) (places_none g i 0 os) ∙ go (zero_cell g i) refl
    where
      go : (b : Bool) → zero_cell g i ≡ b → (safe g i && b && not (some_of (holds g i) os)) ≡ (b && not (some_of (has i) os))
      go true e =
          let z : Zero g i = record { inside = h; none = rw e tt } in
          ap (λ (b : Bool). b && true && not (some_of (holds g i) os)) (T→true (safe g i) (zero_safe g i z)) ∙ ap not (held_in g i os z l.good_so_far.full)
      go false e = ap (λ (b : Bool). b && not (some_of (holds g i) os)) (sym (and_false (safe g i)))

  begun : Zero g i → (In i os → ⊥) → Begun g (o.openings + 1) i (one_label g os) (two_label g os)
  begun z n =
      record {
        is_zero = z;
        some_op = omega arith;
        not_yet = λ j e. omega (arith, l.counted, at_most (places g j 1 os) 0 (length os) (λ x t. let p = places_from g j 1 os x t in omega arith));
        unmet = λ j q. eqb→eq (one_label g os j) 0 (rw (places_none g j 0 os ∙ ap not (held_in g j os (joined_last g i j q) l.good_so_far.full))
            (not_T (some_of (has j) os) (λ t. n (l.good_so_far.whole j i t (joined_sym g i j q)))));
      }

  one_more : (n : ℕ) → size g ≤ n → Zero g i → (In i os → ⊥)
      → Table (size g) (λ j. lined g j (one_label g (os ++ (joined_to g i ∷ [])) j) (two_label g (os ++ (joined_to g i ∷ [])) j)) (process_opening n g.rows (o.openings + 1) o.cells i)
  one_more n k z m =
      table_ext (size g) (met g (o.openings + 1) i (one_label g os) (two_label g os) (begun z m) (λ j. holds g j (joined_to g i)))
      (λ j. lined g j (one_label g (os ++ (joined_to g i ∷ [])) j) (two_label g (os ++ (joined_to g i ∷ [])) j))
      (process_opening n g.rows (o.openings + 1) o.cells i)
      (λ j hj. ap₂ (lined g j) (sym (by j 0 ∙ first_more (o.openings + 1) (holds g j (joined_to g i)) (places g j 1 os) (some_place j)))
      (sym (by j 1 ∙ second_more (o.openings + 1) (holds g j (joined_to g i)) (places g j 1 os) (some_place j))))
      (whole_opening g (o.openings + 1) i (one_label g os) (two_label g os) (begun z m) n o.cells k l.table)
    where
      some_place : (j x : ℕ) → T (has x (places g j 1 os)) → 1 ≤ x
      some_place j x t = (places_from g j 1 os x t).0

      op : 1 + length os ≡ o.openings + 1
      op = omega (arith, l.counted)

      by : (j n : ℕ) → get_or (places g j 1 (os ++ (joined_to g i ∷ []))) n 0 ≡ get_or (places g j 1 os ++ cond (holds g j (joined_to g i)) ((o.openings + 1) ∷ []) []) n 0
      by j n =
          ap (λ (ls : List ℕ). get_or ls n 0) (places_snoc g j 1 os (joined_to g i)
          ∙ ap (λ (m : ℕ). places g j 1 os ++ cond (holds g j (joined_to g i)) (m ∷ []) []) op)

  labelled_one : (n : ℕ) → size g ≤ n → Labelled g (gather g os i) (set_opening n g.rows o i)
  labelled_one n k = rw new_here (go (zero_cell g i && not (some_of (has i) os)) refl (good_gather g os i h l.good_so_far))
    where
      go : (b : Bool) → (zero_cell g i && not (some_of (has i) os)) ≡ b → Good g (elim b [ true ↦ os ++ (joined_to g i ∷ []) | false ↦ os ])
          → Labelled g (elim b [ true ↦ os ++ (joined_to g i ∷ []) | false ↦ os ])
          (cond b (record { cells = process_opening n g.rows (o.openings + 1) o.cells i; openings = o.openings + 1 }) o)
      go true e q =
          let t : T (zero_cell g i && not (some_of (has i) os)) = rw e tt in
          record {
            good_so_far = q;
            table = one_more n k (record { inside = h; none = and_left (zero_cell g i) (not (some_of (has i) os)) t })
                (λ u. T_not (some_of (has i) os) (and_right (zero_cell g i) (not (some_of (has i) os)) t) u);
            counted = omega (arith, l.counted, length-append os (joined_to g i ∷ []));
          }
      go false e q = l

labelled_all : (g : Grid) (n : ℕ) → size g ≤ n → (xs : List ℕ) → ((x : ℕ) → T (has x xs) → x < size g) → (os : List (List ℕ)) (o : CellOpened) → Labelled g os o
    → Labelled g (fold (gather g) os xs) (fold (set_opening n g.rows) o xs)
labelled_all g n k [] h os o l = l
labelled_all g n k (x ∷ xs) h os o l =
    labelled_all g n k xs (rest_of x xs h) (gather g os x) (set_opening n g.rows o x) (labelled_one g os o x (first_of x xs h) l n k)

-- after the second loop each cell has its labels
pub labelled_table : (g : Grid) (n : ℕ) (cs : Cells) → size g ≤ n → Table (size g) (λ i. lined g i 0 0) cs
    → Table (size g) (λ i. lined g i (first_label g i) (second_label g i)) (fold (set_opening n g.rows) (record { cells = cs; openings = 0 }) (range 0 (size g))).cells
unfolding openings labels
labelled_table g n cs k t =
    (labelled_all g n k (cells g) (cells→ g) [] (record { cells = cs; openings = 0 }) (record { good_so_far = good_none g; table = t; counted = refl })).table
