-- A column that is passed over has no candidate: all of its premiums are lower. Assumes nothing.
use Prim.Native.Nat.{ℕ, ◌*◌, ◌+◌, ◌-◌, ◌<◌, ◌≤◌, suc, zero}
use native.Mathlib.Omega.{arith}
use native.Mathlib.Nat.{add-sub_of_le, add-zero}
use mathlib.Core.Path.{◌≡◌, ap, subst, sym}
use mathlib.Core.Bool.{Bool, cond, false, not}
use mathlib.Core.List.{List}
use borrow.Author.Tests.{eq-eqb, le-ltb}
use lib.Dec.{T, eqb, eqb→eq, ltb, ltb→lt}
use lib.IntN.{ℤ}
use lib.ListN.{get_or}
use Rattle.area.specs.Numbers.{premium_at}
use Rattle.game.specs.Lists.{count, range}
use Rattle.game.proofs.Counts.{count_more, count_none}
use Rattle.game.proofs.Members.{has_range, range_none}
use Rattle.game.proofs.Truth.{and_left, and_right}
use Rattle.choices.specs.Tests.{unit_at}
use Rattle.ties.specs.Candidates.{candidate_at, skipped_at}
use Rattle.choices.specs.Tops.{TopsKnown}
use Rattle.choices.proofs.Columns.{column_bound}

-- ---- no candidate in it

module _ (w : List ℤ) (rows columns : ℕ) (tops : List ℕ) (top column : ℕ) (kept : TopsKnown false w rows columns tops) (chord : 10 ≤ top) (inside : column < columns) where
  none_there : T (skipped_at top tops column) → (row : ℕ) → row < rows → T (candidate_at top w (column * rows + row)) → ⊥
  none_there t row h u =
      omega (
        arith,
        eqb→eq (premium_at w here) top (subst (λ (c : Bool). T (cond c (unit_at w here) (eqb (premium_at w here) top))) (le-ltb top 10 chord) u),
        kept.right column inside some,
        ltb→lt (k - 1) top (and_right (not (eqb k 0)) (ltb (k - 1) top) t),
        column_bound false w rows column row h tt,
      )
    where
      here : ℕ
      here = column * rows + row

      k : ℕ
      k = get_or tops column 0

      some : k ≡ 0 → ⊥
      some z = subst (λ (c : Bool). T (not c)) (eq-eqb k 0 z) (and_left (not (eqb k 0)) (ltb (k - 1) top) t)

  pub skipped_none : T (skipped_at top tops column) → 0 ≡ count (candidate_at top w) (range (column * rows) (column * rows + rows))
  skipped_none t =
      sym (count_none (candidate_at top w) (range (column * rows) (column * rows + rows)) (λ j u v.
      let r = has_range (column * rows) (column * rows + rows) j u in
      none_there t (j - column * rows) (omega (arith, r.0, r.1)) (subst (λ (i : ℕ). T (candidate_at top w i)) (sym (add-sub_of_le r.0)) v)))

-- ---- column after column

count_join : (f : ℕ → Bool) (b k : ℕ) → count f (range 0 (b + k)) ≡ count f (range 0 b) + count f (range b (b + k))
count_join f b zero = rw (add-zero b, range_none b) (sym (add-zero (count f (range 0 b))))
count_join f b (suc k) =
    omega (
      arith,
      count_join f b k,
      count_more f 0 (b + k) (omega arith),
      count_more f b (b + k) (omega arith),
      ap (λ (n : ℕ). count f (range 0 n)) (up b k),
      ap (λ (n : ℕ). count f (range b n)) (up b k),
    )
  where
    up : (b k : ℕ) → b + k + 1 ≡ b + suc k
    up b k = omega arith

-- one column more
pub count_column_more : (f : ℕ → Bool) (rows column m n : ℕ) → m ≡ count f (range 0 (column * rows)) → n ≡ count f (range (column * rows) (column * rows + rows))
    → m + n ≡ count f (range 0 (column * rows + rows))
count_column_more f rows column m n e q = omega (arith, e, q, count_join f (column * rows) rows)
