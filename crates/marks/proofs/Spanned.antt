-- The columns of an opening are without gap and its cells have its label: none that a cell borders reaches over a column without the cell's labels. Assumes nothing.
use Prim.Native.Nat.{ℕ, ◌*◌, ◌+◌, ◌-◌, ◌/◌, ◌<◌, ◌≤◌}
use native.Mathlib.Omega.{arith}
use mathlib.Core.Path.{◌∙◌, ◌≡◌, ap, ap₂, refl, subst, sym}
use mathlib.Core.Logic.{inl, inr, ⊎_elim}
use mathlib.Core.Bool.{Bool, ◌&&◌, ◌||◌, false, not, true}
use mathlib.Core.List.{List}
use lib.Dec.{T, eqb, eqb→eq, not_T}
use lib.IntN.{ℤ}
use lib.ListN.{length}
use Rattle.area.proofs.Held.{held_numbers}
use Rattle.game.specs.Grid.{Grid, column_of, mine, row_of, safe, size, square, zero_cell}
use Rattle.game.specs.Lists.{has, range}
use Rattle.game.specs.Openings.{first_label, holds, itself, joined_to, second_label, unlabelled}
use Rattle.game.specs.Position.{Position, closed}
use Rattle.game.proofs.Labels.{first-label, first_seat}
use Rattle.game.proofs.Members.{range_has, some_yes, yes_some}
use Rattle.game.proofs.Openings.{→joinedTo}
use Rattle.game.proofs.Reveal.{no_zero_near}
use Rattle.game.proofs.Squares.{close_sym, column_lt, row_lt, square→}
use Rattle.game.proofs.Truth.{and_both, and_left, no→false, or_cases, or_left, or_right}
use Rattle.game.proofs.Zeros.{Zero, zero→}
use Rattle.area.specs.Numbers.{first_at, content_at, second_at}
use Rattle.area.specs.Stages.{Stands}
use Rattle.area.proofs.Marks.{marked_held}
use Rattle.area.proofs.Cells.{placed}
use Rattle.area.proofs.Spans.{Within, held_spans}
use Rattle.mark_columns.specs.Columns.{Far, MarkedOr, Parted}
use Rattle.mark_tests.specs.Tests.{borders_closed, column_shares, one_of, shares_at}
use Rattle.marks.specs.Marks.{Clicked, Marked, Quiet}
use Rattle.mark_tests.proofs.Held.{other_content}
use Rattle.mark_columns.proofs.Marks.{marked_also, marked_both}
use borrow.Author.Tests.{eq-eqb}

-- a label that is some k is one of two, of which one is k
one_label : (first second label k : ℕ) → 1 ≤ k → T (eqb label k) → T (eqb first k || eqb second k) → T (one_of first second label)
one_label first second label k h e t =
    let q = eqb→eq label k e in
    and_both (not (eqb label 0)) (eqb label first || eqb label second)
    (not_T (eqb label 0) (λ u. some (eqb→eq label 0 u) q))
    (⊎_elim
    (λ u. or_left (eqb label first) (eqb label second) (subst T (sym (eq-eqb label first (q ∙ sym (eqb→eq first k u)))) tt))
    (λ u. or_right (eqb label first) (eqb label second) (subst T (sym (eq-eqb label second (q ∙ sym (eqb→eq second k u)))) tt))
    (or_cases (eqb first k) (eqb second k) t))
  where
    some : label ≡ 0 → label ≡ k → ⊥
    some z q = omega arith

module _ (rows columns : ℕ) (g : Grid) (s : Position) (old w : List ℤ) (i : ℕ) (h : i < rows * columns) (st : Stands rows columns g s old w) where
  inside : i < size g
  inside = rw (st.rows_are, st.columns_are) h

  own_column : column_of g i ≡ i / rows
  own_column = ap (λ (k : ℕ). i / k) st.rows_are

  -- a 0-cell in the square
  zero_there : (z : ℕ) → T (has z (square g i)) → T (zero_cell g z) → Zero g z
  zero_there z t n = record { inside = (square→ g i z inside t).0; none = n }

  -- the cells of its opening have one of the labels of the cell
  labelled_so : (z x : ℕ) → T (has z (square g i)) → T (zero_cell g z) → x < size g → T (holds g x (joined_to g z)) → T (shares_at w (first_label g i) (second_label g i) x)
  labelled_so z x t n k u =
      let zz = zero_there z t n in
      let some : 1 ≤ first_label g z = omega (arith, first_seat g z zz) in
      let own = subst T (sym (marked_held g z i zz inside)) (some_yes (λ j. has j (joined_to g z)) z (square g i) t (→joinedTo g z z (itself zz.inside n))) in
      let v = held_numbers rows columns g s old w st in
      let one : ℕ → Bool = one_of (first_label g i) (second_label g i) in
      subst T (ap₂ (λ (a b : ℕ). one a || one b) (sym (v.firsts x k)) (sym (v.seconds x k)))
      (⊎_elim
      (λ e. or_left (one (first_label g x)) (one (second_label g x)) (one_label (first_label g i) (second_label g i) (first_label g x) (first_label g z) some e own))
      (λ e. or_right (one (first_label g x)) (one (second_label g x)) (one_label (first_label g i) (second_label g i) (second_label g x) (first_label g z) some e own))
      (or_cases (eqb (first_label g x) (first_label g z)) (eqb (second_label g x) (first_label g z)) (subst T (sym (marked_held g z x zz k)) u)))

  -- it does not reach over a column without them
  unreached : (j z q : ℕ) → j < size g → T (has z (square g i)) → T (zero_cell g z) → T (holds g j (joined_to g z)) → Within (column_of g z) (column_of g j) q
      → column_shares w rows (first_label g i) (second_label g i) q ≡ false → ⊥
  unreached j z q k t n u b e =
      let y = held_spans g z j q (zero_there z t n) k u b in
      let p = placed g rows y.0 q st.rows_are y.3 in
      subst T e (some_yes (λ row. shares_at w (first_label g i) (second_label g i) (q * rows + row)) (row_of g y.0) (range 0 rows)
      (range_has 0 rows (row_of g y.0) (omega arith) (omega (arith, row_lt g y.0 y.1, st.rows_are)))
      (subst (λ (x : ℕ). T (shares_at w (first_label g i) (second_label g i) x)) (sym p) (labelled_so z y.0 t n y.1 y.2)))

  -- a column past one without them, from two before or three after the cell's own
  quiet_past : (from to c : ℕ) → from ≡ i / rows - 2 → to ≡ i / rows + 3 → Far c (i / rows) → (c < from → Parted w rows (first_label g i) (second_label g i) c from)
      → (to ≤ c → c < columns → Parted w rows (first_label g i) (second_label g i) to c) → Quiet g s i c
  quiet_past from to c e f far left right =
      record {
        far = rw own_column far;
        apart = λ j z k q t n _ u.
            let a = (square→ g i z inside t).1 in
            let b = column_lt g j k in
            ⊎_elim
            (λ l. let p = left (omega arith) in
            unreached j z p.at k t n u (inr (omega (arith, p.from_low, q), omega (arith, p.to_high, a.west, own_column))) p.bare)
            (λ l. let p = right (omega arith) (omega (arith, b, q, st.columns_are)) in
            unreached j z p.at k t n u (inl (omega (arith, p.from_low, a.east, own_column), omega (arith, p.to_high, q))) p.bare)
            far;
      }

  -- a column more than two away, if no closed 0-cell is bordered
  quiet_far : (c : ℕ) → false ≡ borders_closed g s i → Far c (i / rows) → Quiet g s i c
  quiet_far c e far =
      record {
        far = rw own_column far;
        apart = λ j z k q t n v u. subst T (sym e) (some_yes (λ x. zero_cell g x && closed s x) z (square g i) t (and_both (zero_cell g z) (closed s z) n v));
      }

  -- ---- what is marked

  pub marks_near : (tops tops' : List ℕ) → false ≡ borders_closed g s i → length tops' ≡ length tops → ((c : ℕ) → MarkedOr (Far c (i / rows)) tops tops' c) → Marked g s i tops tops'
  marks_near tops tops' e l m = record { long = l; marks = λ c. marked_also tops tops' c (quiet_far c e) (m c) }

  pub marks_spanned : (first second from to : ℕ) (tops near left right : List ℕ) → first ≡ first_at w i → second ≡ second_at w i
      → (length near ≡ length tops) × ((c : ℕ) → MarkedOr (Far c (i / rows)) tops near c)
      → (length left ≡ length near) × ((c : ℕ) → MarkedOr (c < from → Parted w rows first second c from) near left c)
      → (length right ≡ length left) × ((c : ℕ) → MarkedOr (to ≤ c → c < columns → Parted w rows first second to c) left right c) → from ≡ i / rows - 2 → to ≡ i / rows + 3
      → Marked g s i tops right
  marks_spanned first second from to tops near left right e f a b d x y =
      let v = held_numbers rows columns g s old w st in
      let p : first ≡ first_label g i = e ∙ v.firsts i inside in
      let q : second ≡ second_label g i = f ∙ v.seconds i inside in
      let labels : (low high : ℕ) → Parted w rows first second low high → Parted w rows (first_label g i) (second_label g i) low high =
      λ low high r. subst (λ (n : ℕ). Parted w rows (first_label g i) n low high) q (subst (λ (n : ℕ). Parted w rows n second low high) p r) in
      record {
        long = d.0 ∙ b.0 ∙ a.0;
        marks = λ c.
            marked_also tops right c (λ r. quiet_past from to c x y r.0.0 (λ k. labels c from (r.0.1 k)) (λ k l. labels to c (r.1 k l)))
            (marked_both tops left right c (marked_both tops near left c (a.1 c) (b.1 c)) (d.1 c));
      }

  -- no opening has a cell without label
  pub none_borders : 0 ≡ first_at w i → false ≡ borders_closed g s i
  none_borders e = sym (no→false (borders_closed g s i) none)
    where
      bare : safe g i ≡ true → T (unlabelled g i)
      bare b =
          subst T (sym (first-label g i))
          (and_both (safe g i) (eqb (first_label g i) 0) (subst T (sym b) tt) (subst T (sym (eq-eqb (first_label g i) 0 (sym (e ∙ (held_numbers rows columns g s old w st).firsts i inside)))) tt))

      near : (z : ℕ) → T (has z (square g i)) → Zero g z → (b : Bool) → mine g i ≡ b → ⊥
      near z t n true m = zero→ g z i n inside (close_sym g i z (square→ g i z inside t).1) (subst T (sym m) tt)
      near z t n false m = no_zero_near g i z (bare (ap not m)) t n

      none : T (borders_closed g s i) → ⊥
      none u =
          let z = yes_some (λ j. zero_cell g j && closed s j) (square g i) u in
          near z.0 z.1 (zero_there z.0 z.1 (and_left (zero_cell g z.0) (closed s z.0) z.2)) (mine g i) refl

  -- ---- what one L marks

  pub clicked_one : (tops tops' : List ℕ) → (content_at w i ≡ 1 → ⊥) → length tops' ≡ length tops → ((c : ℕ) → MarkedOr (c ≡ i / rows → ⊥) tops tops' c) → Clicked g s i tops tops'
  clicked_one tops tops' n l m =
      record {
        long = l;
        marks = λ c.
            marked_also tops tops' c
            (λ k. record { other = λ e. k (e ∙ own_column); quiet = λ z. absurd (other_content g s w (held_numbers rows columns g s old w st) i inside n z) }) (m c);
      }
