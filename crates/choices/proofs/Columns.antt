-- A column's highest premium: no cell looked at has more, and one has it if it is 10 or more. The first column that has the highest of all. Assumes nothing.
use Rattle.choices.specs.declared.Best.{Best}
use Prim.Native.Nat.{◌%◌, ◌*◌, ◌+◌, ◌-◌, ◌/◌, ◌<◌, ◌≤◌, suc, zero, zero-le, ℕ}
use native.Mathlib.Omega.{arith}
use native.Mathlib.Nat.{add-sub_of_le, add-zero, div-add-mod', div-lt_iff_lt-mul, mod-lt}
use native.Mathlib.Decide.{dec_lt, ℕ_discrete}
use mathlib.Core.Path.{◌∙◌, ◌≡◌, ap, refl, subst, sym}
use mathlib.Core.Logic.{◌⊎◌, inl, inr, ⊎_elim}
use mathlib.Core.Bool.{Bool, ◌&&◌, cond, false, true}
use mathlib.Core.List.{List, [], ◌∷◌}
use borrow.Author.Tests.{le-ltb, lt-ltb}
use lib.Dec.{T, eqb, eqb_refl, eqb→eq, ltb}
use lib.IntN.{ℤ}
use Rattle.area.specs.Numbers.{premium_at}
use Rattle.game.specs.Lists.{fold, from, has, range}
use Rattle.game.proofs.Members.{has_cases, has_head, has_range, has_tail, range_has, suc_across}
use Rattle.game.proofs.Truth.{and_left, and_right}
use Rattle.choices.specs.Tests.{looked_at, top_at}
use Rattle.choices.specs.Tops.{column_top, first_of, higher_of, top_with}

-- a cell of that premium is looked at and has it
pub top→looked : (openedOnly : Bool) (m : ℕ) (w : List ℤ) (i : ℕ) → T (top_at openedOnly m w i) → T (looked_at openedOnly w i) × (premium_at w i ≡ m)
top→looked openedOnly m w i t =
    (and_left (looked_at openedOnly w i) (eqb (premium_at w i) m) t, eqb→eq (premium_at w i) m (and_right (looked_at openedOnly w i) (eqb (premium_at w i) m) t))

-- ---- some cells, one after the other

-- the cells of a list were looked at: none has more, and the premium is the first one or that of one of them
record Scanned (openedOnly : Bool) (w : List ℤ) (f : ℕ → ℕ) (xs : List ℕ) (top top' : ℕ) : Type 0 where
  pub rises : top ≤ top'
  pub bound : (x : ℕ) → T (has x xs) → T (looked_at openedOnly w (f x)) → premium_at w (f x) ≤ top'
  pub which : (top' ≡ top) ⊎ ((x : ℕ) × T (has x xs) × T (top_at openedOnly top' w (f x)))

module _ (openedOnly : Bool) (w : List ℤ) where
  -- a cell leaves the premium as it is, or has a higher one
  one_cell : (top i : ℕ)
      → ((top_with openedOnly w top i ≡ top) × (T (looked_at openedOnly w i) → premium_at w i ≤ top))
      ⊎ ((top < top_with openedOnly w top i) × (top_with openedOnly w top i ≡ premium_at w i) × T (top_at openedOnly (top_with openedOnly w top i) w i))
  one_cell top i = go (looked_at openedOnly w i) (dec_lt top here)
    where
      here : ℕ
      here = premium_at w i

      at_it : Bool → ℕ
      at_it c = cond (ltb top here && c) here top

      go : (c : Bool) → Dec (top < here) → ((at_it c ≡ top) × (T c → here ≤ top)) ⊎ ((top < at_it c) × (at_it c ≡ here) × T (c && eqb here (at_it c)))
      go true (yes k) = rw (lt-ltb top here k) (inr (k, refl, eqb_refl here))
      go true (no k) = rw (le-ltb top here (omega arith)) (inl (refl, λ u. omega arith))
      go false k = inl (off (ltb top here), λ u. absurd u)
        where
          off : (b : Bool) → cond (b && false) here top ≡ top
          off true = refl
          off false = refl

  module _ (f : ℕ → ℕ) where
    -- one cell, then the rest
    scanned_one : (x : ℕ) (xs : List ℕ) (top top' : ℕ) → Scanned openedOnly w f xs (top_with openedOnly w top (f x)) top' → Scanned openedOnly w f (x ∷ xs) top top'
    scanned_one x xs top top' rest = ⊎_elim lower higher (one_cell top (f x))
      where
        next : ℕ
        next = top_with openedOnly w top (f x)

        there : (y : ℕ) → T (looked_at openedOnly w (f y)) → y ≡ x → T (looked_at openedOnly w (f x)) × (premium_at w (f y) ≡ premium_at w (f x))
        there y l q = (subst (λ (z : ℕ). T (looked_at openedOnly w (f z))) q l, ap (λ (z : ℕ). premium_at w (f z)) q)

        lower : (next ≡ top) × (T (looked_at openedOnly w (f x)) → premium_at w (f x) ≤ top) → Scanned openedOnly w f (x ∷ xs) top top'
        lower u =
            record {
              rises = omega (arith, u.0, rest.rises);
              bound = λ y t l. has_cases y x xs (λ q. let k = there y l q in omega (arith, u.0, u.1 k.0, k.1, rest.rises)) (λ v. rest.bound y v l) t;
              which = ⊎_elim (λ q. inl (q ∙ u.0)) (λ q. inr (q.0, has_tail q.0 x xs q.1, q.2)) rest.which;
            }

        higher : (top < next) × (next ≡ premium_at w (f x)) × T (top_at openedOnly next w (f x)) → Scanned openedOnly w f (x ∷ xs) top top'
        higher u =
            record {
              rises = omega (arith, u.0, rest.rises);
              bound = λ y t l. has_cases y x xs (λ q. omega (arith, u.1, (there y l q).1, rest.rises)) (λ v. rest.bound y v l) t;
              which = ⊎_elim (λ q. inr (x, has_head x x xs refl, subst (λ (m : ℕ). T (top_at openedOnly m w (f x))) (sym q) u.2))
                  (λ q. inr (q.0, has_tail q.0 x xs q.1, q.2)) rest.which;
            }

    scanned : (xs : List ℕ) (top : ℕ) → Scanned openedOnly w f xs top (fold (λ t x. top_with openedOnly w t (f x)) top xs)
    scanned [] top = record { rises = omega arith; bound = λ x t u. absurd t; which = inl refl }
    scanned (x ∷ xs) top = scanned_one x xs top (fold (λ t x. top_with openedOnly w t (f x)) (top_with openedOnly w top (f x)) xs) (scanned xs (top_with openedOnly w top (f x)))

-- ---- a column

module _ (openedOnly : Bool) (w : List ℤ) (rows column : ℕ) where
  column_scanned : Scanned openedOnly w (λ row. column * rows + row) (range 0 rows) 9 (column_top openedOnly w rows column)
  column_scanned = scanned openedOnly w (λ row. column * rows + row) (range 0 rows) 9

  -- no cell looked at has more
  pub column_bound : (row : ℕ) → row < rows → T (looked_at openedOnly w (column * rows + row)) → premium_at w (column * rows + row) ≤ column_top openedOnly w rows column
  column_bound row h t = column_scanned.bound row (range_has 0 rows row (omega arith) h) t

  -- one has it, if it is 10 or more
  pub column_has : 10 ≤ column_top openedOnly w rows column → (row : ℕ) × (row < rows) × T (top_at openedOnly (column_top openedOnly w rows column) w (column * rows + row))
  column_has h = ⊎_elim (λ e. absurd (other h e)) (λ u. (u.0, (has_range 0 rows u.0 u.1).1, u.2)) column_scanned.which
    where
      other : {a : ℕ} → 10 ≤ a → a ≡ 9 → ⊥
      other k q = omega arith

  -- where no premium reaches 0, none is kept
  pub column_low : ((row : ℕ) → row < rows → T (looked_at openedOnly w (column * rows + row)) → premium_at w (column * rows + row) ≤ 9) → column_top openedOnly w rows column ≡ 9
  column_low f = ⊎_elim (λ e. e) low column_scanned.which
    where
      low : (row : ℕ) × T (has row (range 0 rows)) × T (top_at openedOnly (column_top openedOnly w rows column) w (column * rows + row)) → column_top openedOnly w rows column ≡ 9
      low u =
          let k = top→looked openedOnly (column_top openedOnly w rows column) w (column * rows + u.0) u.2 in
          omega (arith, k.1, f u.0 (has_range 0 rows u.0 u.1).1 k.0, column_scanned.rises)

-- a cell of the first columns: its column is one of them, and has as much
pub cell_bound : (openedOnly : Bool) (w : List ℤ) (rows columns j : ℕ) → 0 < rows → j < columns * rows
    → (j / rows < columns) × (T (looked_at openedOnly w j) → premium_at w j ≤ column_top openedOnly w rows (j / rows))
cell_bound openedOnly w rows columns j some h = (
  (div-lt_iff_lt-mul some).1 h,
  subst (λ (i : ℕ). T (looked_at openedOnly w i) → premium_at w i ≤ column_top openedOnly w rows (j / rows)) (div-add-mod' j rows)
      (column_bound openedOnly w rows (j / rows) (j % rows) (mod-lt j some)),
)

-- ---- the first column of the highest

-- one of the first n columns, the first that has the highest premium, which is 10 or more
pub record Leading (openedOnly : Bool) (w : List ℤ) (rows n : ℕ) (b : Best) : Type 0 where
  pub reaches : 10 ≤ b.top
  pub inside : b.at < n
  pub its : b.top ≡ column_top openedOnly w rows b.at
  pub first : (c : ℕ) → c < b.at → column_top openedOnly w rows c < b.top

-- the first n of so many columns were looked at: none has more, and one leads or there is none
pub record Led (openedOnly : Bool) (w : List ℤ) (rows columns n : ℕ) (b : Best) : Type 0 where
  pub bound : (c : ℕ) → c < n → column_top openedOnly w rows c ≤ b.top
  pub which : ((b.top ≡ 9) × (b.at ≡ columns)) ⊎ Leading openedOnly w rows n b

module _ (openedOnly : Bool) (w : List ℤ) (rows columns : ℕ) where
  led_one : (n : ℕ) (b : Best) → Led openedOnly w rows columns n b → Led openedOnly w rows columns (suc n) (higher_of b (column_top openedOnly w rows n) n)
  led_one n b l = go (dec_lt b.top top)
    where
      top : ℕ
      top = column_top openedOnly w rows n

      least : 9 ≤ b.top
      least = ⊎_elim (λ u. omega (arith, u.0)) (λ d. omega (arith, d.reaches)) l.which

      go : Dec (b.top < top) → Led openedOnly w rows columns (suc n) (higher_of b top n)
      go (yes k) =
          rw (lt-ltb b.top top k) (record {
            bound = λ c h. elim (ℕ_discrete c n) [
              | yes q ↦ rw q (omega arith)
              | no q ↦ omega (arith, l.bound c (omega arith))
            ];
            which = inr (record { reaches = omega (arith, least); inside = omega arith; its = refl; first = λ c h. omega (arith, l.bound c h) });
          })
      go (no k) =
          rw (le-ltb b.top top (omega arith)) (record {
            bound = λ c h. elim (ℕ_discrete c n) [
              | yes q ↦ rw q (omega arith)
              | no q ↦ l.bound c (omega arith)
            ];
            which = ⊎_elim (λ u. inl u) (λ d. inr (record { reaches = d.reaches; inside = omega (arith, d.inside); its = d.its; first = d.first })) l.which;
          })

  led_from : (k i : ℕ) (b : Best) → Led openedOnly w rows columns i b → Led openedOnly w rows columns (i + k) (fold (λ d c. higher_of d (column_top openedOnly w rows c) c) b (from i k))
  led_from zero i b l = subst (λ (m : ℕ). Led openedOnly w rows columns m b) (sym (add-zero i)) l
  led_from (suc k) i b l =
      subst (λ (m : ℕ). Led openedOnly w rows columns m (fold (λ d c. higher_of d (column_top openedOnly w rows c) c) b (from i (suc k)))) (suc_across i k)
      (led_from k (suc i) (higher_of b (column_top openedOnly w rows i) i) (led_one i b l))

  pub led_all : Led openedOnly w rows columns columns (first_of openedOnly w rows columns columns)
  led_all =
      subst (λ (m : ℕ). Led openedOnly w rows columns m (first_of openedOnly w rows columns columns)) (add-sub_of_le zero-le)
      (led_from (columns - 0) 0 (record { top = 9; at = columns }) (record { bound = λ c h. absurd (omega arith); which = inl (refl, refl) }))
