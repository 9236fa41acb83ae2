-- process_opening labels the whole opening of a 0-cell and nothing else: each cell it labels is held by that opening, and with a 0-cell it labels the square.
-- The unlabelled 0-cells bound how deep it calls itself. Assumes nothing.
use Prim.Native.Nat.{ℕ, ◌+◌, ◌<◌, ◌≤◌, suc, zero}
use native.Mathlib.Omega.{arith}
use native.Mathlib.Decide.{ℕ_discrete}
use mathlib.Core.Path.{◌∙◌, ◌≡◌, ap, ap₂, refl, subst, subst₂, sym}
use mathlib.Core.Logic.{◌⊎◌, inl, inr, ⊎_elim}
use mathlib.Core.Bool.{Bool, ◌&&◌, ◌||◌, cond, false, not, true}
use mathlib.Core.List.{List, [], ◌∷◌}
use lib.Dec.{T, T_not, eqb, eqb_refl, eqb→eq, not_T}
use Rattle.game.specs.Grid.{Grid, cells, size, square, zero_cell}
use Rattle.game.specs.Lists.{count, fold, has}
use Rattle.game.specs.Openings.{Joined, holds, itself, joined_to, onward}
use Rattle.original.specs.Cells.{Cells, Zcell, at, change, process_opening, setopeningborder, with_opening}
use Rattle.game.proofs.Chains.{joined_last}
use Rattle.game.proofs.Counts.{bit_yes, count_drop, count_le, count_mono, count_one}
use Rattle.game.proofs.Members.{first_of, has_cases, rest_of, some_yes, yes_some}
use Rattle.game.proofs.Openings.{joined_to→, →joinedTo}
use Rattle.game.proofs.Squares.{Close, close_sym, in-own-square, length_cells, once_cells, square→, →cells, →square}
use Rattle.game.proofs.Truth.{T→true, and_both, and_false, and_left, and_right, iff, or_cases, or_left, or_right}
use Rattle.game.proofs.Zeros.{Zero}
use Rattle.game.proofs.Reveal.{joined_held}
use Rattle.original.proofs.Numbers.{lined}
use Rattle.original.proofs.Tables.{Celled, Table, around_square, reads_celled, table_change, table_ext}
use borrow.Author.Tests.{ne_eqb}
use Rattle.original.proofs.Borders.{border, border_change, border_lined, first_of_two, second_of_two}

-- ---- one opening

-- opening op begins at the 0-cell c; a and b are the openings and second openings before
pub record Begun (g : Grid) (op c : ℕ) (a b : ℕ → ℕ) : Type 0 where
  pub is_zero : Zero g c
  pub some_op : 1 ≤ op
  pub not_yet : (j : ℕ) → a j ≡ op → ⊥
  pub unmet : (j : ℕ) → Joined g c j → a j ≡ 0

module _ (g : Grid) (op c : ℕ) (a b : ℕ → ℕ) (k : Begun g op c a b) where
  -- what a cell holds once the cells of M are met
  abbrev pub met : (ℕ → Bool) → ℕ → Zcell
  met M j = lined g j (first_of_two op (M j) (a j)) (second_of_two op (M j) (a j) (b j))

  -- M and one cell more
  abbrev with_cell : ℕ → (ℕ → Bool) → ℕ → Bool
  with_cell i M j = eqb j i || M j

  celled : (M : ℕ → Bool) (i : ℕ) → Celled g i (met M i)
  celled M i = record { keeps = refl }

  -- a change at i that makes of it what a met cell holds
  mark_change : (f : Zcell → Zcell) (M : ℕ → Bool) (cs : Cells) (i : ℕ) → f (met M i) ≡ met (λ j. true) i → Table (size g) (met M) cs
      → Table (size g) (met (with_cell i M)) (change f cs i)
  mark_change f M cs i e t =
      table_ext (size g) (λ j. cond (eqb j i) (f (met M j)) (met M j)) (met (with_cell i M)) (change f cs i) (λ j h. one j (ℕ_discrete j i)) (table_change (size g) (met M) cs f i t)
    where
      one : (j : ℕ) → Dec (j ≡ i) → cond (eqb j i) (f (met M j)) (met M j) ≡ met (with_cell i M) j
      one j (yes q) = rw (q, T→true (eqb i i) (eqb_refl i)) e
      one j (no q) = rw (ne_eqb j i q) refl

  mark_border : (M : ℕ → Bool) (cs : Cells) (i : ℕ) → Table (size g) (met M) cs → Table (size g) (met (with_cell i M)) (setopeningborder cs op i)
  mark_border M cs i t =
      rw (border_change cs op i) (mark_change (border op) M cs i (border_lined g op i (M i) (a i) (b i) k.some_op (k.not_yet i)) t)

  mark_zero : (M : ℕ → Bool) (cs : Cells) (i : ℕ) → Joined g c i → M i ≡ false → Table (size g) (met M) cs → Table (size g) (met (with_cell i M)) (change (with_opening op) cs i)
  mark_zero M cs i j e t = mark_change (with_opening op) M cs i (rw (e, k.unmet i j) refl) t

  -- ---- what is met more

  record Spread (M N : ℕ → Bool) : Type 0 where
    more : (j : ℕ) → T (M j) → T (N j)
    sound : (j : ℕ) → j < size g → T (N j) → T (M j) ⊎ T (holds g j (joined_to g c))
    shut : (x : ℕ) → Zero g x → T (N x) → T (M x) ⊎ ((j : ℕ) → j < size g → Close g x j → T (N j))

  no_more : (M : ℕ → Bool) → Spread M M
  no_more M = record { more = λ j t. t; sound = λ j h t. inl t; shut = λ x z t. inl t }

  then_more : (M N O : ℕ → Bool) → Spread M N → Spread N O → Spread M O
  then_more M N O p q =
      record {
        more = λ j t. q.more j (p.more j t);
        sound = λ j h t. ⊎_elim (λ u. p.sound j h u) (λ u. inr u) (q.sound j h t);
        shut = λ x z t. ⊎_elim (λ u. ⊎_elim (λ v. inl v) (λ v. inr (λ j h l. q.more j (v j h l))) (p.shut x z u)) (λ u. inr u) (q.shut x z t);
      }

  -- a cell that is no 0-cell, by a 0-cell of the opening
  border_more : (M : ℕ → Bool) (i x : ℕ) → Joined g c i → x < size g → Close g i x → (T (zero_cell g x) → ⊥) → Spread M (with_cell x M)
  border_more M i x j h l n =
      record {
        more = λ y t. or_right (eqb y x) (M y) t;
        sound = λ y hy t. ⊎_elim (λ e. inr (rw (eqb→eq y x e) (joined_held g c i x h j l))) (λ u. inl u) (or_cases (eqb y x) (M y) t);
        shut = λ y z t. ⊎_elim (λ e. absurd (n (subst (λ (w : ℕ). T (zero_cell g w)) (eqb→eq y x e) z.none))) (λ u. inl u) (or_cases (eqb y x) (M y) t);
      }

  -- the 0-cells not yet met
  left : (ℕ → Bool) → ℕ
  left M = count (λ j. zero_cell g j && not (M j)) (cells g)

  left_falls : (M N : ℕ → Bool) → Spread M N → left N ≤ left M
  unfolding left
  left_falls M N p =
      count_mono (λ j. zero_cell g j && not (N j)) (λ j. zero_cell g j && not (M j)) (cells g)
      (λ j t. and_both (zero_cell g j) (not (M j)) (and_left (zero_cell g j) (not (N j)) t)
      (not_T (M j) (λ u. T_not (N j) (and_right (zero_cell g j) (not (N j)) t) (p.more j u))))

  left_less : (M : ℕ → Bool) (i : ℕ) → Zero g i → M i ≡ false → left M ≡ left (with_cell i M) + 1
  unfolding left
  left_less M i z e =
      let d = count_drop (λ j. zero_cell g j && not (M j)) (λ j. zero_cell g j && not (eqb j i || M j)) i (cells g) (once_cells g)
      (λ j n. ap (λ (b : Bool). zero_cell g j && not (b || M j)) (sym (ne_eqb j i n)))
      (ap (λ (b : Bool). zero_cell g i && not (b || M i)) (T→true (eqb i i) (eqb_refl i)) ∙ sym (and_false (zero_cell g i))) in
      let q = bit_yes (has i (cells g) && (zero_cell g i && not (M i))) (and_both (has i (cells g)) (zero_cell g i && not (M i)) (→cells g i z.inside)
      (and_both (zero_cell g i) (not (M i)) z.none (rw e tt))) in
      omega arith

  -- ---- process_opening

  record Spreads (M : ℕ → Bool) (cs : Cells) : Type 0 where
    now : ℕ → Bool
    table : Table (size g) (met now) cs
    spread : Spread M now

  -- what a turn of the loop around a 0-cell does
  abbrev turn : ℕ → Cells → ℕ → Cells
  turn fuel cs x =
      elim (not (eqb (at cs x).number 0)) [
        | true ↦ setopeningborder cs op x
        | false ↦ elim (eqb (at cs x).opening 0) [ true ↦ process_opening fuel g.rows op cs x | false ↦ cs ]
      ]

  -- a call that does what it should
  abbrev Calls : ℕ → Type 0
  Calls fuel = (M : ℕ → Bool) (cs : Cells) (x : ℕ) → Joined g c x → M x ≡ false → left M ≤ fuel → Table (size g) (met M) cs
      → (r : Spreads M (process_opening fuel g.rows op cs x)) × T (r.now x)

  one_turn : (fuel : ℕ) → Calls fuel → (i : ℕ) → Joined g c i → (M : ℕ → Bool) (cs : Cells) (x : ℕ) → T (has x (square g i)) → left M ≤ fuel → Table (size g) (met M) cs
      → (r : Spreads M (turn fuel cs x)) × T (r.now x)
  one_turn fuel call i j M cs x u l t = go (zero_cell g x) refl (M x) refl
    where
      inside : x < size g
      inside = (square→ g i x (joined_last g c i j).inside u).0

      by : Bool → Bool → Cells
      by p q =
          elim (not p) [
            | true ↦ setopeningborder cs op x
            | false ↦ elim q [ true ↦ process_opening fuel g.rows op cs x | false ↦ cs ]
          ]

      Done : Bool → Bool → Type 0
      Done p q = (r : Spreads M (by p q)) × T (r.now x)

      number_is : (p : Bool) → zero_cell g x ≡ p → eqb (at cs x).number 0 ≡ p
      number_is p e = ap (λ (z : Zcell). eqb z.number 0) (t.reads x inside) ∙ e

      opening_is : (m : Bool) → M x ≡ m → T (zero_cell g x) → eqb (at cs x).opening 0 ≡ eqb (first_of_two op m 0) 0
      opening_is m e n =
          ap (λ (z : Zcell). eqb z.opening 0) (t.reads x inside) ∙ ap₂ (λ d y. eqb (first_of_two op d y) 0) e (k.unmet x (onward j u n))

      go : (p : Bool) → zero_cell g x ≡ p → (m : Bool) → M x ≡ m → Done (eqb (at cs x).number 0) (eqb (at cs x).opening 0)
      go false e m q =
          subst (λ (p : Bool). Done p (eqb (at cs x).opening 0)) (sym (number_is false e)) (
            record {
              now = with_cell x M;
              table = mark_border M cs x t;
              spread = border_more M i x j inside (square→ g i x (joined_last g c i j).inside u).1 (λ v. subst T e v);
            },
            or_left (eqb x x) (M x) (eqb_refl x),
          )
      go true e true q =
          subst₂ Done (sym (number_is true e)) (sym (opening_is true q (rw e tt) ∙ ne_eqb op 0 (λ f. absurd (omega (arith, k.some_op)))))
          (record { now = M; table = t; spread = no_more M }, rw q tt)
      go true e false q =
          subst₂ Done (sym (number_is true e)) (sym (opening_is false q (rw e tt))) (call M cs x (onward j u (rw e tt)) q l t)

  all_turns : (fuel : ℕ) → Calls fuel → (i : ℕ) → Joined g c i → (xs : List ℕ) → ((x : ℕ) → T (has x xs) → T (has x (square g i))) → (M : ℕ → Bool) (cs : Cells) → left M ≤ fuel
      → Table (size g) (met M) cs → (r : Spreads M (fold (turn fuel) cs xs)) × ((x : ℕ) → T (has x xs) → T (r.now x))
  all_turns fuel call i j [] s M cs l t = (record { now = M; table = t; spread = no_more M }, λ x u. absurd u)
  all_turns fuel call i j (x ∷ xs) s M cs l t =
      let p = one_turn fuel call i j M cs x (first_of x xs s) l t in
      let q = all_turns fuel call i j xs (rest_of x xs s) p.0.now (turn fuel cs x) (omega (arith, left_falls M p.0.now p.0.spread)) p.0.table in (
        record { now = q.0.now; table = q.0.table; spread = then_more M p.0.now q.0.now p.0.spread q.0.spread },
        λ y u. has_cases y x xs (λ e. rw e (q.0.spread.more x p.1)) (q.1 y) u,
      )

  calls : (fuel : ℕ) → Calls fuel
  unfolding process_opening left
  calls zero M cs x j e l t =
      let z = joined_last g c x j in
      absurd (omega (arith, count_one (λ y. zero_cell g y && not (M y)) x (cells g) (→cells g x z.inside) (and_both (zero_cell g x) (not (M x)) z.none (rw e tt))))
  calls (suc fuel) M cs x j e l t =
      let z = joined_last g c x j in
      let marked = change (with_opening op) cs x in
      let one = mark_zero M cs x j e t in
      let r = all_turns fuel (calls fuel) x j (square g x) (λ y u. u) (with_cell x M) marked (omega (arith, left_less M x z e)) one in
      subst (λ (ys : List ℕ). (r : Spreads M (fold (turn fuel) marked ys)) × T (r.now x)) (sym (around_square g marked x z.inside (reads_celled g (met (with_cell x M)) marked (celled (with_cell x M)) one x z.inside))) (
        record {
          now = r.0.now;
          table = r.0.table;
          spread = record {
            more = λ y u. r.0.spread.more y (or_right (eqb y x) (M y) u);
            sound = λ y h u. ⊎_elim (λ v. ⊎_elim (λ f. inr (rw (eqb→eq y x f) (own_held z j))) (λ w. inl w) (or_cases (eqb y x) (M y) v)) (λ v. inr v) (r.0.spread.sound y h u);
            shut = λ y zy u.
                ⊎_elim (λ v. ⊎_elim (λ f. inr (λ w h n. r.1 w (→square g x w z.inside h (subst (λ (v : ℕ). Close g v w) (eqb→eq y x f) n)))) (λ w. inl w) (or_cases (eqb y x) (M y) v))
                (λ v. inr v) (r.0.spread.shut y zy u);
          };
        },
        r.0.spread.more x (or_left (eqb x x) (M x) (eqb_refl x)),
      )
    where
      own_held : Zero g x → Joined g c x → T (holds g x (joined_to g c))
      own_held z j = some_yes (λ y. has y (joined_to g c)) x (square g x) (in-own-square g x z.inside) (→joinedTo g c x j)

  -- ---- a whole opening

  -- a call at c, before which nothing is met, meets what the opening holds
  pub whole_opening : (fuel : ℕ) (cs : Cells) → size g ≤ fuel → Table (size g) (λ j. lined g j (a j) (b j)) cs
      → Table (size g) (met (λ j. holds g j (joined_to g c))) (process_opening fuel g.rows op cs c)
  unfolding left
  whole_opening fuel cs l t =
      table_ext (size g) (met now) (met (λ j. holds g j (joined_to g c))) (process_opening fuel g.rows op cs c)
      (λ j h. ap (λ (m : Bool). lined g j (first_of_two op m (a j)) (second_of_two op m (a j) (b j))) (exact j h)) r.0.table
    where
      z : Zero g c
      z = k.is_zero

      r : (r : Spreads (λ j. false) (process_opening fuel g.rows op cs c)) × T (r.now c)
      r =
          calls fuel (λ j. false) cs c (itself z.inside z.none) refl
          (omega (arith, count_le (λ j. zero_cell g j && true) (cells g), length_cells g)) t

      now : ℕ → Bool
      now = r.0.now

      square_met : (x j : ℕ) → Zero g x → T (now x) → j < size g → Close g x j → T (now j)
      square_met x j zx u h n = ⊎_elim (λ v. absurd v) (λ v. v j h n) (r.0.spread.shut x zx u)

      joined_met : (x : ℕ) → Joined g c x → T (now x)
      joined_met x (itself h n) = r.1
      joined_met x (onward {b = y} j u n) =
          let zy = joined_last g c y j in
          let s = square→ g y x zy.inside u in
          square_met y x zy (joined_met y j) s.0 s.1

      exact : (j : ℕ) → j < size g → now j ≡ holds g j (joined_to g c)
      exact j h =
          iff (now j) (holds g j (joined_to g c)) (λ u. ⊎_elim (λ v. absurd v) (λ v. v) (r.0.spread.sound j h u))
          (λ u.
          let w = yes_some (λ y. has y (joined_to g c)) (square g j) u in
          let i = joined_to→ g c w.0 z w.2 in
          square_met w.0 j (joined_last g c w.0 i) (joined_met w.0 i) h (close_sym g j w.0 (square→ g j w.0 h w.1).1))
