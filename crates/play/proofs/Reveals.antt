-- L by its branches, and F: what is read of a cell says which case of the reveal it is. Assumes nothing.
use Prim.Native.Nat.{ℕ, ◌*◌, ◌+◌, ◌<◌}
use native.Mathlib.Omega.{arith}
use mathlib.Core.Path.{◌∙◌, ◌≡◌, ap, ap₂, refl, subst, sym}
use mathlib.Core.Logic.{inl, inr}
use mathlib.Core.Bool.{Bool, false, true}
use mathlib.Core.List.{List}
use lib.Dec.{T, T_not, eqb, eqb→eq, not_T}
use lib.IntN.{ℤ}
use lib.ListN.{get_or, length-set}
use Rattle.area.proofs.Held.{Holds, held_numbers, content_mine, content_zero}
use Rattle.area.specs.Squares.{shifted, square_of}
use Rattle.game.specs.Grid.{Grid, cells, mine, safe, size, zero_cell}
use Rattle.game.specs.Lists.{bit, fold}
use Rattle.game.specs.Moves.{flag, play, reveal}
use Rattle.game.specs.Openings.{first_label, unlabelled}
use Rattle.game.specs.Position.{Position, Tidy, closed, closed_units}
use Rattle.game.proofs.Tidy.{reveal_tidy}
use Rattle.game.proofs.Reveal.{reveal_length, reveal_none, reveal_one}
use Rattle.game.proofs.Units.{units_border, units_click}
use Rattle.area.specs.Numbers.{first_at, content_at, put_state, state_at}
use Rattle.area.specs.Stages.{Stands, held, content}
use Rattle.play.specs.Promises.{Revealing}
use Rattle.play.specs.declared.Opened.{Opened}
use Rattle.play.specs.Walks.{SweptOver, opened_one, swept_cell}
use Rattle.play.proofs.Changes.{bare_unit, flag_area, open_area, sweep_area}
use borrow.Author.Tests.{eq-eqb}

module _ (rows columns : ℕ) (g : Grid) (s : Position) (old w : List ℤ) (i : ℕ) (h : i < rows * columns) (st : Stands rows columns g s old w) where
  pub size_is : size g ≡ rows * columns
  size_is = ap₂ ◌*◌ st.rows_are st.columns_are

  pub inside : i < size g
  inside = omega (arith, size_is)

  -- ---- what is read

  holds : Holds g s w
  holds = held_numbers rows columns g s old w st

  content_read : (k : ℕ) → k ≡ content_at w i → k ≡ content g i
  content_read k e = e ∙ holds.contents i inside

  pub state_read : (k : ℕ) → k ≡ state_at w i → k ≡ get_or s i 0
  state_read k e = e ∙ holds.states i inside

  pub label_read : (k : ℕ) → k ≡ first_at w i → k ≡ first_label g i
  label_read k e = e ∙ holds.firsts i inside

  -- the content tells mines and 0-cells
  pub is-mine : (k : ℕ) → k ≡ content_at w i → k ≡ 0 → T (mine g i)
  is-mine k e z = subst T (sym (eq-eqb (content g i) 0 (sym (content_read k e) ∙ z)) ∙ content_mine g i) tt

  pub is_safe : (k : ℕ) → k ≡ content_at w i → (k ≡ 0 → ⊥) → T (safe g i)
  is_safe k e n = not_T (mine g i) (λ t. n (content_read k e ∙ eqb→eq (content g i) 0 (subst T (sym (content_mine g i)) t)))

  pub is_zero : (k : ℕ) → k ≡ content_at w i → eqb k 1 ≡ zero_cell g i
  is_zero k e = ap (λ (m : ℕ). eqb m 1) (content_read k e) ∙ content_zero g i inside

  pub is_closed : (k : ℕ) → k ≡ state_at w i → k ≡ 0 → T (closed s i)
  is_closed k e z = subst T (sym (eq-eqb (get_or s i 0) 0 (sym (state_read k e) ∙ z))) tt

  pub not_closed : (k : ℕ) → k ≡ state_at w i → (k ≡ 0 → ⊥) → T (closed s i) → ⊥
  not_closed k e n t = n (state_read k e ∙ eqb→eq (get_or s i 0) 0 t)

  -- ---- the branches

  module _ (f : Tidy g s) where
    -- the area stands for the position after it
    after : (r : Opened) (v : List ℤ) → v ≡ held g (reveal g s i) old → r.units + closed_units g (reveal g s i) ≡ closed_units g s → Revealing rows columns g s old i r v
    after r v e c =
        record {
          stands = record {
            rows_are = st.rows_are;
            columns_are = st.columns_are;
            shape = st.shape;
            room = st.room;
            long = reveal_length g s i st.long;
            holds_it = e;
          };
          tidy = reveal_tidy g s i inside f;
          taken_units = c;
        }

    nothing_done : (T (safe g i) → T (closed s i) → ⊥) → Revealing rows columns g s old i (record { units = 0 }) w
    nothing_done n =
        let e = reveal_none g s i n in
        after (record { units = 0 }) w (st.holds_it ∙ ap (λ (p : Position). held g p old) (sym e)) (omega (arith, ap (closed_units g) e))

    -- a numbered cell takes one unit if it has no label, else none
    one_taken : T (safe g i) → T (closed s i) → (T (zero_cell g i) → ⊥) → bit (eqb (first_label g i) 0) + closed_units g (reveal g s i) ≡ closed_units g s
    one_taken t u n = rw (← bare_unit g i t) (go (unlabelled g i) refl)
      where
        go : (b : Bool) → unlabelled g i ≡ b → bit b + closed_units g (reveal g s i) ≡ closed_units g s
        go true e = omega (arith, units_click g s i inside f u (inr (rw e tt)))
        go false e = omega (arith, units_border g s i inside f n (λ k. rw e at k))

    one_opened : (r : ℕ) (v : List ℤ) → T (safe g i) → T (closed s i) → (T (zero_cell g i) → ⊥) → r ≡ bit (eqb (first_at w i) 0) → v ≡ opened_one rows columns w i
        → Revealing rows columns g s old i (record { units = r }) v
    one_opened r v t u n c e =
        after (record { units = r }) v
        (e ∙ rw (← st.rows_are, ← st.columns_are, st.holds_it) (open_area g s old i st.room inside st.long t u n) ∙ ap (λ (p : Position). held g p old) (sym (reveal_one g s i t u n)))
        (omega (arith, c, ap (λ (k : ℕ). bit (eqb k 0)) (holds.firsts i inside), one_taken t u n))

    opening_swept : (l : ℕ) (v : List ℤ) → T (closed s i) → T (zero_cell g i) → l ≡ first_at w i
        → (T (zero_cell g i) → l ≡ first_label g i → SweptOver l 0 (rows * columns) w v)
        → Revealing rows columns g s old i (record { units = 1 }) v
    opening_swept l v u z e q =
        let own = label_read l e in
        let swept : v ≡ fold (swept_cell (first_label g i)) (held g s old) (cells g) = rw (← own, ← st.holds_it, size_is) (q z own) in
        after (record { units = 1 }) v (swept ∙ sweep_area g s old i st.room inside st.long f z u) (omega (arith, units_click g s i inside f u (inl z)))

    -- ---- by what is read: the content k, the state m

    pub by_mine : (k : ℕ) → k ≡ content_at w i → k ≡ 0 → Revealing rows columns g s old i (record { units = 0 }) w
    by_mine k e z = nothing_done (λ t u. T_not (mine g i) t (is-mine k e z))

    pub by_state : (m : ℕ) → m ≡ state_at w i → (m ≡ 0 → ⊥) → Revealing rows columns g s old i (record { units = 0 }) w
    by_state m e n = nothing_done (λ t u. not_closed m e n u)

    module _ (k m : ℕ) (ek : k ≡ content_at w i) (nk : k ≡ 0 → ⊥) (em : m ≡ state_at w i) (zm : m ≡ 0) where
      pub by_zero : (l : ℕ) (v : List ℤ) → k ≡ 1 → l ≡ first_at w i
          → (T (zero_cell g i) → l ≡ first_label g i → SweptOver l 0 (rows * columns) w v)
          → Revealing rows columns g s old i (record { units = 1 }) v
      by_zero l v o e q =
          opening_swept l v (is_closed m em zm) (subst T (sym (eq-eqb k 1 o) ∙ is_zero k ek) tt) e q

      pub by_one : (r : ℕ) (v : List ℤ) → (k ≡ 1 → ⊥) → r ≡ bit (eqb (first_at w i) 0) → v ≡ opened_one rows columns w i
          → Revealing rows columns g s old i (record { units = r }) v
      by_one r v n c e =
          one_opened r v (is_safe k ek nk) (is_closed m em zm) (λ t. n (eqb→eq k 1 (subst T (sym (is_zero k ek)) t))) c e

  -- ---- a mine is flagged

  pub flag_stands : (u v : List ℤ) → u ≡ put_state w i 2 → v ≡ fold (shifted 1 0) u (square_of rows columns i) → T (mine g i) → T (closed s i)
      → Stands rows columns g (play g s (flag i)) old v
  unfolding play
  flag_stands u v d e t k =
      record {
        rows_are = st.rows_are;
        columns_are = st.columns_are;
        shape = st.shape;
        room = st.room;
        long = length-set s i 2 ∙ st.long;
        holds_it = e ∙ rw (d, ← st.rows_are, ← st.columns_are, st.holds_it) (flag_area g s old i st.room inside st.long t k);
      }
