-- initboard leaves each cell with its number, its labels and its premium before any move. Assumes nothing.
use Prim.Native.Nat.{ℕ, ◌+◌, ◌<◌}
use native.Mathlib.Omega.{arith}
use native.Mathlib.Nat.{mul_comm}
use mathlib.Core.Path.{◌∙◌, ◌≡◌, ap, ap₂, refl, subst, sym}
use mathlib.Core.Bool.{Bool, ◌&&◌, ◌||◌, cond, false, not, true}
use lib.Dec.{eqb}
use lib.IntN.{+ℤ_comm, ◌+ℤ◌, ◌-ℤ◌, neg_ℤ, neg_ℤ-+ℤ, pos, ℤ}
use Rattle.game.specs.Grid.{Grid, cells, number, safe, size, square}
use Rattle.game.specs.Lists.{bit, count, fold, has, range}
use Rattle.game.specs.Openings.{first_label, second_label}
use Rattle.game.specs.Position.{premium, untouched}
use Rattle.original.specs.Cells.{Cells, Zcell, add-premium, around, at, build_cells_ref, getadj3bv, initboard, set_number, set_opening, with_premium}
use Rattle.original.specs.Entries.{prepared}
use Rattle.game.proofs.Counts.{count_ext}
use Rattle.game.proofs.Ranges.{untouched_cost}
use Rattle.game.proofs.Squares.{cells→, once_cells, →cells}
use Rattle.game.proofs.Truth.{T→true}
use Rattle.original.proofs.Built.{built_table}
use Rattle.original.proofs.Labelling.{labelled_table}
use Rattle.original.proofs.Numbers.{lined, numbered_table, start}
use Rattle.original.proofs.Tables.{Celled, Table, cell, celled_cond, count_around, mixed, table_ext, table_fold}
use Rattle.original.proofs.Adjacent.{adjacent, adjacent_gain}

-- a cell with its number and its labels
abbrev pub plain : Grid → ℕ → Bool → Bool → ℤ → Zcell
plain g i o f p = cell g i (number g i) (first_label g i) (second_label g i) o f p

-- ---- what stands before any move

premium_untouched : (g : Grid) (i : ℕ) → i < size g → start g i +ℤ pos (adjacent g i) ≡ premium g (untouched g) i
unfolding premium
premium_untouched g i h =
    ap (λ (z : ℤ). z +ℤ pos (adjacent g i)) (sym (neg_ℤ-+ℤ (pos (number g i)) (pos 2))) ∙ +ℤ_comm (neg_ℤ (pos (number g i + 2))) (pos (adjacent g i))
    ∙ ap₂ (λ a b. pos a -ℤ pos b) (adjacent_gain g i h) (sym (untouched_cost g i h))

-- ---- the third loop

ready_table : (g : Grid) (cs : Cells) → Table (size g) (λ i. lined g i (first_label g i) (second_label g i)) cs
    → Table (size g) (λ i. plain g i false false (premium g (untouched g) i)) (fold (λ cs i. add-premium (pos (getadj3bv cs g.rows i)) cs i) cs (range 0 (size g)))
unfolding getadj3bv adjacent
ready_table g cs t =
    table_ext (size g) (mixed f F (λ i. has i (cells g) || false)) (λ i. plain g i false false (premium g (untouched g) i)) (fold step cs (cells g))
    (λ i h. ap (λ (b : Bool). cond (b || false) (f i (F i)) (F i)) (T→true (has i (cells g)) (→cells g i h)) ∙ ap (plain g i false false) (premium_untouched g i h))
    (table_fold (size g) f F step (cells g) (λ i. false) cs (once_cells g) (λ x u. refl)
    (λ N ds x u k. ap (λ (n : ℕ). add-premium (pos n) ds x) (same N ds x (cells→ g x u) k)) t)
  where
    step : Cells → ℕ → Cells
    step cs i = add-premium (pos (getadj3bv cs g.rows i)) cs i

    F : ℕ → Zcell
    F i = lined g i (first_label g i) (second_label g i)

    f : ℕ → Zcell → Zcell
    f i z = with_premium (z.premium +ℤ pos (adjacent g i)) z

    kept : (N : ℕ → Bool) (i : ℕ) → Celled g i (mixed f F N i)
    kept N i = celled_cond g i (N i) (f i (F i)) (F i) (record { keeps = refl }) (record { keeps = refl })

    field : {A : Type 0} (p : Zcell → A) (i : ℕ) (b : Bool) → p (f i (F i)) ≡ p (F i) → p (cond b (f i (F i)) (F i)) ≡ p (F i)
    field p i true e = e
    field p i false e = refl

    around_x : (N : ℕ → Bool) (ds : Cells) (x : ℕ) → x < size g → Table (size g) (mixed f F N) ds
        → count (λ j. not (at ds j).mine && eqb (at ds j).opening 0) (around ds g.rows x) ≡ count (λ j. safe g j && eqb (first_label g j) 0) (square g x)
    around_x N ds x h k =
        count_around g (mixed f F N) ds (λ z. not z.mine && eqb z.opening 0) x h (kept N) k
        ∙ count_ext (λ j. not (mixed f F N j).mine && eqb (mixed f F N j).opening 0) (λ j. safe g j && eqb (first_label g j) 0) (square g x)
        (λ j u. field (λ z. not z.mine && eqb z.opening 0) j (N j) refl)

    same : (N : ℕ → Bool) (ds : Cells) (x : ℕ) → x < size g → Table (size g) (mixed f F N) ds → getadj3bv ds g.rows x ≡ adjacent g x
    same N ds x h k =
        ap (λ (n : ℕ). cond (eqb (at ds x).number 0) 1 (n + bit (not (eqb (at ds x).opening 0)) + bit (not (eqb (at ds x).opening2 0)))) (around_x N ds x h k)
        ∙ ap whole (k.reads x h) ∙ field whole x (N x) refl
      where
        whole : Zcell → ℕ
        whole z =
            cond (eqb z.number 0) 1
            (count (λ j. safe g j && eqb (first_label g j) 0) (square g x) + bit (not (eqb z.opening 0)) + bit (not (eqb z.opening2 0)))

-- ---- all of it

pub prepared_table : (g : Grid) → Table (size g) (λ i. plain g i false false (premium g (untouched g) i)) (prepared g)
unfolding initboard
prepared_table g =
    subst (Table (size g) (λ i. plain g i false false (premium g (untouched g) i))) (ap whole (mul_comm g.rows g.columns))
    (ready_table g (labelled (size g)) (labelled_table g (size g) (numbered (size g)) (omega arith) (numbered_table g built_cells (built_table g))))
  where
    built_cells : Cells
    built_cells = build_cells_ref g g.rows g.columns

    numbered : ℕ → Cells
    numbered n = fold (set_number g.rows) built_cells (range 0 n)

    labelled : ℕ → Cells
    labelled n = (fold (set_opening n g.rows) (record { cells = numbered n; openings = 0 }) (range 0 n)).cells

    whole : ℕ → Cells
    whole n = fold (λ cs i. add-premium (pos (getadj3bv cs g.rows i)) cs i) (labelled n) (range 0 n)
