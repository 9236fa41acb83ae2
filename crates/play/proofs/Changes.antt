-- One cell opened, one mine flagged, one opening swept: the work area then stands for the position after it. Assumes nothing.
use Prim.Native.Nat.{ℕ, ◌+◌, ◌-◌, ◌<◌, ◌≤◌}
use native.Mathlib.Omega.{arith}
use native.Mathlib.Decide.{ℕ_discrete}
use mathlib.Core.Path.{◌∙◌, ◌≡◌, ap, refl, sym}
use mathlib.Core.Bool.{Bool, ◌&&◌, cond, false, true}
use mathlib.Core.List.{List}
use lib.Dec.{T, T_not, not_T, eqb, eqb→eq}
use lib.IntN.{ℤ}
use lib.ListN.{get_or, length, set}
use lib.Seq.{get_or-set_other, get_or-set_same}
use Rattle.area.proofs.Held.{held_cells, held_cell, content_mine, raised_small}
use Rattle.area.proofs.CellByCell.{Cell, at, at_again, at_here, at_other, cell_area, fold_acts, made, priced, put-state, read_first, same_area, shift_acts, shift_cell, stated}
use Rattle.area.specs.Squares.{shifted, square_of}
use Rattle.game.specs.Grid.{Grid, cells, mine, safe, size, square, zero_cell}
use Rattle.game.specs.Lists.{bit, fold, has}
use Rattle.game.specs.Moves.{reveal}
use Rattle.game.specs.Openings.{first_label, holds, joined_to, unlabelled}
use Rattle.game.specs.Position.{Position, Tidy, closed, cost, gain}
use Rattle.game.proofs.Labels.{first-label}
use Rattle.game.proofs.Premiums.{flag_cost, flag_gain, open_cost, open_gain, reveal_sweep, sweep_cost, sweep_gain}
use Rattle.game.proofs.Reveal.{get_d_sweep, mine_off}
use Rattle.game.proofs.Squares.{cells→, in-own-square, once_cells, once_square, square_sym, square→, →cells}
use Rattle.game.proofs.Truth.{T→false, T→true, and_false, and_true}
use Rattle.game.proofs.Zeros.{Zero}
use Rattle.area.specs.Numbers.{HasCells, put_state}
use Rattle.area.specs.Stages.{held, raised}
use Rattle.play.specs.Walks.{opened_one, swept_cell}
use Rattle.play.proofs.Cells.{labelled_cell, sweep_acts, sweep_cell}
use Rattle.play.proofs.Held.{level, moved, restated, up_down}
use Rattle.area.proofs.Marks.{marked_held}
use borrow.Author.Tests.{eq-eqb, ne_eqb}

-- a safe cell is a unit of its own where it has no label
pub bare_unit : (g : Grid) (i : ℕ) → T (safe g i) → unlabelled g i ≡ eqb (first_label g i) 0
bare_unit g i t = first-label g i ∙ ap (λ (b : Bool). b && eqb (first_label g i) 0) (T→true (safe g i) t)

module _ (g : Grid) (s : Position) (old : List ℤ) (i : ℕ) (room : HasCells old (size g)) (inside : i < size g) (long : length s ≡ size g) where
  -- a cell that keeps its state
  stays : (t : Position) (x : ℕ) → get_or t x 0 ≡ get_or s x 0 → restated (get_or t x 0) (held_cell g s x) ≡ held_cell g s x
  stays t x e = ap (λ (k : ℕ). restated k (held_cell g s x)) e

  -- as much up as down leaves it
  even_cell : (k x m : ℕ) → k ≤ 1 → x < size g → shift_cell k k (restated m (held_cell g s x)) ≡ restated m (held_cell g s x)
  even_cell k x m b h = level k (restated m (held_cell g s x)) (omega (arith, raised_small g s x h))

  -- ---- a cell of number 1 or more is opened

  module _ (is_safe : T (safe g i)) (shut : T (closed s i)) (nonzero : T (zero_cell g i) → ⊥) where
    open_cell : Cell
    open_cell = shift_cell 1 0 (stated 1 (held_cell g s i))

    -- whether it has no label
    abbrev bare : Bool
    bare = eqb (first_label g i) 0

    gain_falls : (x : ℕ) → x < size g → gain g s x ≡ gain g (set s i 1) x + bit (has x (square g i) && bare)
    gain_falls x h =
        open_gain g s i inside long shut nonzero x
        ∙ ap (λ (b : Bool). gain g (set s i 1) x + bit (b && unlabelled g i)) (square_sym g i x inside h)
        ∙ ap (λ (b : Bool). gain g (set s i 1) x + bit (has x (square g i) && b))
        (bare_unit g i is_safe)

    cost_falls : (x : ℕ) → cost g s x ≡ cost g (set s i 1) x + bit (eqb x i)
    cost_falls x = open_cost g s i inside long shut nonzero x

    open_other : (x : ℕ) → x < size g → (x ≡ i → ⊥) → (b : Bool) → (has x (square g i) && bare) ≡ b
        → cond b (shift_cell 0 1 (held_cell g s x)) (held_cell g s x) ≡ held_cell g (set s i 1) x
    open_other x h n b e = go b e (ap bit e)
      where
        kept : get_or (set s i 1) x 0 ≡ get_or s x 0
        kept = get_or-set_other s i x 1 0 n

        none : bit (eqb x i) ≡ 0
        none = ap bit (ne_eqb x i n)

        by : (p : ℕ) → bit (has x (square g i) && bare) ≡ p → p ≤ 1 → shift_cell 0 p (held_cell g s x) ≡ held_cell g (set s i 1) x
        by p q l =
            ap (shift_cell 0 p) (sym (stays (set s i 1) x kept))
            ∙ moved g s (set s i 1) x p 0 h l (omega arith) (λ u. omega (arith, gain_falls x h)) (λ u. omega (arith, cost_falls x, none))

        go : (b : Bool) → (has x (square g i) && bare) ≡ b → bit (has x (square g i) && bare) ≡ bit b
            → cond b (shift_cell 0 1 (held_cell g s x)) (held_cell g s x) ≡ held_cell g (set s i 1) x
        go true q r = by 1 r (omega arith)
        go false q r = sym (even_cell 0 x (get_or s x 0) (omega arith) h) ∙ by 0 r (omega arith)

    open_own : (b : Bool) → bare ≡ b → cond b (shift_cell 0 1 open_cell) open_cell ≡ held_cell g (set s i 1) i
    unfolding open_cell
    open_own b e = go b e
      where
        now_open : get_or (set s i 1) i 0 ≡ 1
        now_open = get_or-set_same s i 1 0 (omega (arith, long))

        one : bit (eqb i i) ≡ 1
        one = ap bit (eq-eqb i i refl)

        by : (p : ℕ) → bit bare ≡ p → p ≤ 1 → shift_cell 1 p (stated 1 (held_cell g s i)) ≡ held_cell g (set s i 1) i
        by p q l =
            ap (λ (k : ℕ). shift_cell 1 p (restated k (held_cell g s i))) (sym now_open)
            ∙ moved g s (set s i 1) i p 1 inside l (omega arith)
            (λ u. omega (arith, gain_falls i inside, ap (λ (b : Bool). bit (b && bare)) (T→true (has i (square g i)) (in-own-square g i inside))))
            (λ u. omega (arith, cost_falls i, one))

        go : (b : Bool) → bare ≡ b → cond b (shift_cell 0 1 (shift_cell 1 0 (stated 1 (held_cell g s i)))) (shift_cell 1 0 (stated 1 (held_cell g s i))) ≡ held_cell g (set s i 1) i
        go true q =
            up_down (stated 1 (held_cell g s i)) (omega (arith, raised_small g s i inside))
            ∙ sym (even_cell 1 i 1 (omega arith) inside) ∙ by 1 (ap bit q) (omega arith)
        go false q = by 0 (ap bit q) (omega arith)

    -- the work area with the cell opened and its premium up
    open_stated : shifted 1 0 (put_state (held g s old) i 1) i ≡ cell_area (at (held_cell g s) i open_cell) (size g) old
    unfolding open_cell
    open_stated =
        ap (λ (w : List ℤ). shifted 1 0 (put_state w i 1) i) (held_cells g s old)
        ∙ ap (λ (w : List ℤ). shifted 1 0 w i) (put-state (size g) old room (held_cell g s) i 1 inside)
        ∙ shift_acts (size g) old room 1 0 (at (held_cell g s) i (stated 1 (held_cell g s i))) i inside
        ∙ ap (λ (c : Cell). cell_area (at (at (held_cell g s) i (stated 1 (held_cell g s i))) i (shift_cell 1 0 c)) (size g) old)
        (at_here (held_cell g s) i (stated 1 (held_cell g s i)) i refl)
        ∙ same_area (size g) old room (at (at (held_cell g s) i (stated 1 (held_cell g s i))) i (shift_cell 1 0 (stated 1 (held_cell g s i))))
        (at (held_cell g s) i (shift_cell 1 0 (stated 1 (held_cell g s i))))
        (λ x _. at_again (held_cell g s) i (stated 1 (held_cell g s i)) (shift_cell 1 0 (stated 1 (held_cell g s i))) x)

    own_label : (at (held_cell g s) i open_cell i).first ≡ first_label g i
    unfolding open_cell
    own_label = ap (λ (c : Cell). c.first) (at_here (held_cell g s) i open_cell i refl) ∙ go (eqb (stated 1 (held_cell g s i)).content 0)
      where
        go : (b : Bool) → (cond b (stated 1 (held_cell g s i)) (priced (raised g s i + 1 - 0) (stated 1 (held_cell g s i)))).first ≡ first_label g i
        go true = refl
        go false = refl

    pub open_area : opened_one g.rows g.columns (held g s old) i ≡ held g (set s i 1) old
    unfolding opened_one square
    open_area =
        rw (open_stated, read_first (size g) old room (at (held_cell g s) i open_cell) i inside, own_label) (go bare refl)
        ∙ sym (held_cells g (set s i 1) old)
      where
        E : ℕ → Cell
        E = at (held_cell g s) i open_cell

        each : (b : Bool) → bare ≡ b → (x : ℕ) → x < size g → cond (has x (square g i) && b) (shift_cell 0 1 (E x)) (E x) ≡ held_cell g (set s i 1) x
        each b e x h =
            elim (ℕ_discrete x i) [
              | yes q ↦ rw (q, T→true (has i (square g i)) (in-own-square g i inside), at_here (held_cell g s) i open_cell i refl) (open_own b e)
              | no n ↦ rw (at_other (held_cell g s) i open_cell x n)
                  (open_other x h n (has x (square g i) && b) (ap (λ (c : Bool). has x (square g i) && c) e))
            ]

        go : (b : Bool) → bare ≡ b
            → cond b (fold (shifted 0 1) (cell_area E (size g) old) (square g i)) (cell_area E (size g) old)
            ≡ cell_area (held_cell g (set s i 1)) (size g) old
        go true e =
            fold_acts (size g) old room (shifted 0 1) (shift_cell 0 1) (λ D j h. shift_acts (size g) old room 0 1 D j h) (square g i) E (once_square g i) (λ x t. (square→ g i x inside t).0)
            ∙ same_area (size g) old room (made (shift_cell 0 1) (square g i) E) (held_cell g (set s i 1)) (λ x h.
            ap (λ (b : Bool). cond b (shift_cell 0 1 (E x)) (E x)) (and_true (has x (square g i))) ∙ each true e x h)
        go false e =
            same_area (size g) old room E (held_cell g (set s i 1)) (λ x h.
            ap (λ (b : Bool). cond b (shift_cell 0 1 (E x)) (E x)) (and_false (has x (square g i))) ∙ each false e x h)

  -- ---- a mine is flagged

  module _ (is-mine : T (mine g i)) (shut : T (closed s i)) where
    flag_other : (x : ℕ) → x < size g → (x ≡ i → ⊥) → (b : Bool) → has x (square g i) ≡ b
        → cond b (shift_cell 1 0 (held_cell g s x)) (held_cell g s x) ≡ held_cell g (set s i 2) x
    flag_other x h n b e = go b (ap bit (square_sym g i x inside h ∙ e))
      where
        by : (q : ℕ) → bit (has i (square g x)) ≡ q → q ≤ 1 → shift_cell q 0 (held_cell g s x) ≡ held_cell g (set s i 2) x
        by q r l =
            ap (shift_cell q 0) (sym (stays (set s i 2) x (get_or-set_other s i x 2 0 n)))
            ∙ moved g s (set s i 2) x 0 q h (omega arith) l (λ u. flag_gain g s i inside long shut is-mine x)
            (λ u. omega (arith, flag_cost g s i inside long shut is-mine x u))

        go : (b : Bool) → bit (has i (square g x)) ≡ bit b → cond b (shift_cell 1 0 (held_cell g s x)) (held_cell g s x) ≡ held_cell g (set s i 2) x
        go true r = by 1 r (omega arith)
        go false r = sym (even_cell 0 x (get_or s x 0) (omega arith) h) ∙ by 0 r (omega arith)

    flag_own : shift_cell 1 0 (stated 2 (held_cell g s i)) ≡ held_cell g (set s i 2) i
    flag_own =
        ap (λ (k : ℕ). shift_cell 1 0 (restated k (held_cell g s i))) (sym (get_or-set_same s i 2 0 (omega (arith, long))))
        ∙ moved g s (set s i 2) i 0 1 inside (omega arith) (omega arith) (λ u. absurd (T_not (mine g i) u is-mine)) (λ u. absurd (T_not (mine g i) u is-mine))

    pub flag_area : fold (shifted 1 0) (put_state (held g s old) i 2) (square_of g.rows g.columns i) ≡ held g (set s i 2) old
    unfolding square
    flag_area =
        ap (λ (w : List ℤ). fold (shifted 1 0) (put_state w i 2) (square g i)) (held_cells g s old)
        ∙ ap (λ (w : List ℤ). fold (shifted 1 0) w (square g i)) (put-state (size g) old room (held_cell g s) i 2 inside)
        ∙ fold_acts (size g) old room (shifted 1 0) (shift_cell 1 0) (λ D j h. shift_acts (size g) old room 1 0 D j h) (square g i) E (once_square g i) (λ x t. (square→ g i x inside t).0)
        ∙ same_area (size g) old room (made (shift_cell 1 0) (square g i) E) (held_cell g (set s i 2)) each
        ∙ sym (held_cells g (set s i 2) old)
      where
        E : ℕ → Cell
        E = at (held_cell g s) i (stated 2 (held_cell g s i))

        each : (x : ℕ) → x < size g → made (shift_cell 1 0) (square g i) E x ≡ held_cell g (set s i 2) x
        each x h =
            elim (ℕ_discrete x i) [
              | yes q ↦ rw (q, T→true (has i (square g i)) (in-own-square g i inside), at_here (held_cell g s) i (stated 2 (held_cell g s i)) i refl) flag_own
              | no n ↦ rw (at_other (held_cell g s) i (stated 2 (held_cell g s i)) x n) (flag_other x h n (has x (square g i)) refl)
            ]

  -- ---- an opening is swept

  module _ (f : Tidy g s) (none : T (zero_cell g i)) (shut : T (closed s i)) where
    z : Zero g i
    z = record { inside = inside; none = none }

    -- whether the opening holds the cell
    abbrev in-it : ℕ → Bool
    in-it x = holds g x (joined_to g i)

    marks : (x : ℕ) → x < size g → labelled_cell (first_label g i) (held_cell g s x) ≡ in-it x
    marks x h = marked_held g i x z h

    after_state : (x : ℕ) → x < size g → get_or (reveal g s i) x 0 ≡ cond (in-it x) 1 (get_or s x 0)
    after_state x h = ap (λ (t : Position). get_or t x 0) (reveal_sweep g s i f z shut) ∙ get_d_sweep g s i f z shut x h

    sweep_each : (x : ℕ) → x < size g → sweep_cell (first_label g i) (held_cell g s x) ≡ held_cell g (reveal g s i) x
    sweep_each x h =
        ap (λ (b : Bool). cond b (cond (closed s x) (stated 1 (held_cell g s x)) (priced (raised g s x - 1) (held_cell g s x))) (held_cell g s x)) (marks x h)
        ∙ go (in-it x) refl (closed s x) refl
      where
        by : (p q : ℕ) → bit (in-it x) ≡ p → bit (in-it x && closed s x) ≡ q → p ≤ 1 → q ≤ 1 → (k : ℕ) → get_or (reveal g s i) x 0 ≡ k
            → shift_cell q p (restated k (held_cell g s x)) ≡ held_cell g (reveal g s i) x
        by p q r u l m k e =
            ap (λ (v : ℕ). shift_cell q p (restated v (held_cell g s x))) (sym e)
            ∙ moved g s (reveal g s i) x p q h l m (λ t. omega (arith, sweep_gain g s i f z shut x h)) (λ t. omega (arith, sweep_cost g s i f z shut x h))

        down : raised g s x - 1 ≡ raised g s x + 0 - 1
        down = omega arith

        go : (b : Bool) → in-it x ≡ b → (c : Bool) → closed s x ≡ c
            → cond b (cond c (stated 1 (held_cell g s x)) (priced (raised g s x - 1) (held_cell g s x))) (held_cell g s x) ≡ held_cell g (reveal g s i) x
        go true e true d =
            sym (even_cell 1 x 1 (omega arith) h)
            ∙ by 1 1 (ap bit e) (rw (e, d)) (omega arith) (omega arith) 1 (after_state x h ∙ ap (λ (b : Bool). cond b 1 (get_or s x 0)) e)
        go true e false d =
            let u : T (safe g x) = not_T (mine g x) (λ m. mine_off g i x z h m (rw e tt)) in
            let open_before : get_or s x 0 ≡ 1 = eqb→eq (get_or s x 0) 1 (rw (f.safes x h u, d) tt) in
            ap (λ (p : ℕ). priced p (held_cell g s x)) down
            ∙ sym (ap (λ (b : Bool). cond b (held_cell g s x) (priced (raised g s x + 0 - 1) (held_cell g s x))) (content_mine g x ∙ T→false (mine g x) u))
            ∙ by 1 0 (ap bit e) (rw (e, d)) (omega arith) (omega arith) (get_or s x 0) (after_state x h ∙ ap (λ (b : Bool). cond b 1 (get_or s x 0)) e ∙ sym open_before)
        go false e c d =
            sym (even_cell 0 x (get_or s x 0) (omega arith) h)
            ∙ by 0 0 (ap bit e) (ap (λ (b : Bool). bit (b && closed s x)) e) (omega arith) (omega arith) (get_or s x 0) (after_state x h ∙ ap (λ (b : Bool). cond b 1 (get_or s x 0)) e)

    -- what the sweep comes to
    pub sweep_area : fold (swept_cell (first_label g i)) (held g s old) (cells g) ≡ held g (reveal g s i) old
    sweep_area =
        ap (λ (w : List ℤ). fold (swept_cell (first_label g i)) w (cells g)) (held_cells g s old)
        ∙ fold_acts (size g) old room (swept_cell (first_label g i)) (sweep_cell (first_label g i)) (sweep_acts (size g) old room (first_label g i)) (cells g) (held_cell g s) (once_cells g) (cells→ g)
        ∙ same_area (size g) old room (made (sweep_cell (first_label g i)) (cells g) (held_cell g s)) (held_cell g (reveal g s i)) (λ x h.
        ap (λ (b : Bool). cond b (sweep_cell (first_label g i) (held_cell g s x)) (held_cell g s x)) (T→true (has x (cells g)) (→cells g x h)) ∙ sweep_each x h)
        ∙ sym (held_cells g (reveal g s i) old)
