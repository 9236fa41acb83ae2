-- initboard's first loop gives each cell its number: it reads only mines, which it leaves. Assumes nothing.
use Prim.Native.Nat.{ℕ, ◌<◌}
use mathlib.Core.Path.{◌∙◌, ◌≡◌, ap, refl}
use mathlib.Core.Bool.{Bool, ◌||◌, cond, false}
use lib.IntN.{◌-ℤ◌, neg_ℤ, pos, ℤ}
use Rattle.game.specs.Grid.{Grid, cells, mine, number, size, square}
use Rattle.game.specs.Lists.{fold, has, range}
use Rattle.original.specs.Cells.{Cells, Zcell, change, getnumber, set_number, with_number, with_premium}
use Rattle.game.proofs.Counts.{count_ext}
use Rattle.game.proofs.Squares.{cells→, once_cells, →cells}
use Rattle.game.proofs.Truth.{T→true}
use Rattle.original.proofs.Tables.{Celled, Table, cell, celled_cond, count_around, mixed, table_ext, table_fold}

-- the premium that the first loop sets
abbrev pub start : Grid → ℕ → ℤ
start g i = neg_ℤ (pos (number g i)) -ℤ pos 2

-- a cell with its number and two openings
abbrev pub lined : Grid → ℕ → ℕ → ℕ → Zcell
lined g i a b = cell g i (number g i) a b false false (start g i)

pub numbered_table : (g : Grid) (cs : Cells) → Table (size g) (λ i. cell g i 0 0 0 false false (pos 0)) cs
    → Table (size g) (λ i. lined g i 0 0) (fold (set_number g.rows) cs (range 0 (size g)))
unfolding getnumber number
numbered_table g cs t =
    table_ext (size g) (mixed f F (λ i. has i (cells g) || false)) (λ i. lined g i 0 0) (fold (set_number g.rows) cs (cells g))
    (λ i h. ap (λ (b : Bool). cond (b || false) (f i (F i)) (F i)) (T→true (has i (cells g)) (→cells g i h)))
    (table_fold (size g) f F (set_number g.rows) (cells g) (λ i. false) cs (once_cells g) (λ x u. refl)
    (λ N ds x u k. ap (λ (n : ℕ). change (λ z. with_premium (neg_ℤ (pos n) -ℤ pos 2) (with_number n z)) ds x) (same N ds x (cells→ g x u) k)) t)
  where
    F : ℕ → Zcell
    F i = cell g i 0 0 0 false false (pos 0)

    f : ℕ → Zcell → Zcell
    f i z = with_premium (start g i) (with_number (number g i) z)

    kept : (N : ℕ → Bool) (i : ℕ) → Celled g i (mixed f F N i)
    kept N i = celled_cond g i (N i) (f i (F i)) (F i) (record { keeps = refl }) (record { keeps = refl })

    same : (N : ℕ → Bool) (ds : Cells) (x : ℕ) → x < size g → Table (size g) (mixed f F N) ds → getnumber ds g.rows x ≡ number g x
    same N ds x h k =
        count_around g (mixed f F N) ds (λ z. z.mine) x h (kept N) k
        ∙ count_ext (λ j. (mixed f F N j).mine) (mine g) (square g x) (λ j u. ap (λ (z : Zcell). z.mine) (kept N j).keeps)
