-- How gain, cost and premium of every cell change with one opened cell, one flag, one swept opening. Assumes nothing.
use Prim.Native.Nat.{ℕ, ◌+◌, ◌<◌}
use native.Mathlib.Omega.{arith}
use native.Mathlib.Decide.{ℕ_discrete}
use mathlib.Core.Path.{◌∙◌, ◌≡◌, ap, refl, subst, sym}
use mathlib.Core.Bool.{Bool, ◌&&◌, cond, false, not, true}
use mathlib.Core.List.{List}
use lib.Dec.{T, eqb, eqb→eq, not_T}
use lib.IntN.{+ℤ_assoc, +ℤ_comm, +ℤ-neg_ℤ_cancel, -ℤ-+ℤ_cancel, ◌+ℤ◌, ◌-ℤ◌, neg_ℤ, neg_ℤ-+ℤ, pos, ℤ}
use lib.ListN.{get_or, length, set}
use lib.Seq.{get_or-set_other, get_or-set_same}
use Rattle.game.specs.Grid.{Grid, mine, safe, size, square, zero_cell}
use Rattle.game.specs.Lists.{bit, has}
use Rattle.game.specs.Moves.{reveal, sweep}
use Rattle.game.specs.Openings.{holds, joined_to, openings, unlabelled}
use Rattle.game.specs.Position.{Position, Tidy, cell_unit, closed, cost, flagged, gain, opening_closed, premium, unflagged, unopened}
use Rattle.game.proofs.Counts.{bit_yes, count_drop, count_each, count_ext, count_split, each_map}
use Rattle.game.proofs.Members.{some_same}
use Rattle.game.proofs.Opened.{reveal_opening}
use Rattle.game.proofs.Openings.{Full, good}
use Rattle.game.proofs.Owners.{closed_unopened, opening_shut, owner, same-holds}
use Rattle.game.proofs.Reveal.{Revealed, flag_stays, get_d_sweep, mine_off, opens, revealed, stays, sweeps, unlabelled_off, unlabelled_safe, zero_safe}
use Rattle.game.proofs.Squares.{once_square, square→}
use Rattle.game.proofs.Tidy.{tidy_unopened}
use Rattle.game.proofs.Truth.{T→true, and_false, and_inside, and_true, and_under, no→false}
use Rattle.game.proofs.Zeros.{Zero}
use borrow.Author.Tests.{eq-eqb, ne_eqb}

-- ---- a difference whose two parts fall

more_gain : (a c p : ℕ) → pos (a + p) -ℤ pos c -ℤ pos p ≡ pos a -ℤ pos c
more_gain a c p =
    ap (λ (z : ℤ). z -ℤ pos p) (ap (λ (k : ℕ). pos k -ℤ pos c) swap ∙ +ℤ_assoc (pos p) (pos a) (neg_ℤ (pos c)) ∙ +ℤ_comm (pos p) (pos a -ℤ pos c))
    ∙ +ℤ-neg_ℤ_cancel (pos a -ℤ pos c) (pos p)
  where
    swap : a + p ≡ p + a
    swap = omega arith

more_cost : (a b q : ℕ) → pos a -ℤ pos (b + q) +ℤ pos q ≡ pos a -ℤ pos b
more_cost a b q =
    ap (λ (z : ℤ). pos a +ℤ z +ℤ pos q) (neg_ℤ-+ℤ (pos b) (pos q))
    ∙ ap (λ (z : ℤ). z +ℤ pos q) (sym (+ℤ_assoc (pos a) (neg_ℤ (pos b)) (neg_ℤ (pos q))))
    ∙ -ℤ-+ℤ_cancel (pos a -ℤ pos b) (pos q)

-- the new premium from the old one, as it is kept
pub premium_shift : (g : Grid) (s t : Position) (x p q : ℕ) → gain g s x ≡ gain g t x + p → cost g s x ≡ cost g t x + q → premium g t x ≡ premium g s x -ℤ pos p +ℤ pos q
unfolding premium
premium_shift g s t x p q e f =
    sym (more_cost (gain g t x) (cost g t x) q)
    ∙ ap (λ (z : ℤ). z +ℤ pos q) (sym (more_gain (gain g t x) (cost g t x + q) p))
    ∙ ap (λ (k : ℕ). pos k -ℤ pos (cost g t x + q) -ℤ pos p +ℤ pos q) (sym e)
    ∙ ap (λ (k : ℕ). pos (gain g s x) -ℤ pos k -ℤ pos p +ℤ pos q) (sym f)

-- ---- a cell that is no 0-cell is opened

module _ (g : Grid) (s : Position) (c : ℕ) (inside : c < size g) (long : length s ≡ size g) (shut : T (closed s c)) (nonzero : T (zero_cell g c) → ⊥) where
  state_c : get_or (set s c 1) c 0 ≡ 1
  state_c = get_or-set_same s c 1 0 (omega arith)

  unopened_off : (x : ℕ) → (x ≡ c → ⊥) → unopened (set s c 1) x ≡ unopened s x
  unopened_off x n = ap (λ (k : ℕ). not (eqb k 1)) (get_or-set_other s c x 1 0 n)

  flags_stay : (j : ℕ) → flagged (set s c 1) j ≡ flagged s j
  flags_stay j =
      elim (ℕ_discrete j c) [
        | yes e ↦ ap (λ (k : ℕ). eqb k 2) (ap (λ (k : ℕ). get_or (set s c 1) k 0) e ∙ state_c)
            ∙ sym (ap (λ (k : ℕ). eqb k 2) (ap (λ (k : ℕ). get_or s k 0) e ∙ eqb→eq (get_or s c 0) 0 shut))
        | no n ↦ ap (λ (k : ℕ). eqb k 2) (get_or-set_other s c j 1 0 n)
      ]

  -- it costs one less itself
  pub open_cost : (x : ℕ) → cost g s x ≡ cost g (set s c 1) x + bit (eqb x c)
  unfolding cost
  open_cost x =
      let a = count_ext (unflagged g (set s c 1)) (unflagged g s) (square g x) (λ j t. ap (λ (b : Bool). mine g j && not b) (flags_stay j)) in
      elim (ℕ_discrete x c) [
        | yes e ↦
            let b = ap (λ (k : ℕ). bit (not (eqb k 1))) (ap (λ (k : ℕ). get_or (set s c 1) k 0) e ∙ state_c) in
            let d = bit_yes (unopened s x) (rw e (closed_unopened s c shut)) in
            let k = ap bit (eq-eqb x c e) in
            omega arith
        | no n ↦
            let b = ap bit (unopened_off x n) in
            let k = ap bit (ne_eqb x c n) in
            omega arith
      ]

  openings_stay : (o : List ℕ) → Full g o → opening_closed (set s c 1) o ≡ opening_closed s o
  openings_stay o f =
      some_same (unopened (set s c 1)) (unopened s) o (λ z t. unopened_off z (λ e. nonzero (subst (λ (k : ℕ). T (zero_cell g k)) e (f.zero-cell z t).none)))

  -- each cell in its square gains one less, if it has no label
  pub open_gain : (x : ℕ) → gain g s x ≡ gain g (set s c 1) x + bit (has c (square g x) && unlabelled g c)
  unfolding gain
  open_gain x =
      let a = count_each (λ o. holds g x o && opening_closed (set s c 1) o) (λ o. holds g x o && opening_closed s o) (openings g)
      (each_map (openings g) (λ o f. ap (λ (b : Bool). holds g x o && b) (openings_stay o f)) (good g).full) in
      let b = count_drop (cell_unit g s) (cell_unit g (set s c 1)) c (square g x) (once_square g x)
      (λ j n. ap (λ (b : Bool). unlabelled g j && b) (sym (unopened_off j n)))
      (ap (λ (k : ℕ). unlabelled g c && not (eqb k 1)) state_c ∙ sym (and_false (unlabelled g c))) in
      let d = ap (λ (b : Bool). bit (has c (square g x) && b))
      (ap (λ (b : Bool). unlabelled g c && b) (T→true (unopened s c) (closed_unopened s c shut)) ∙ sym (and_true (unlabelled g c))) in
      omega arith

  -- -1 in the square of a cell without label, +1 at the cell itself
  pub premium_open : (x : ℕ) → premium g (set s c 1) x ≡ premium g s x -ℤ pos (bit (has c (square g x) && unlabelled g c)) +ℤ pos (bit (eqb x c))
  premium_open x =
      premium_shift g s (set s c 1) x (bit (has c (square g x) && unlabelled g c)) (bit (eqb x c)) (open_gain x) (open_cost x)

-- ---- a mine is flagged

module _ (g : Grid) (s : Position) (m : ℕ) (inside : m < size g) (long : length s ≡ size g) (shut : T (closed s m)) (is-mine : T (mine g m)) where
  unopened_stays : (j : ℕ) → T (safe g j) → unopened (set s m 2) j ≡ unopened s j
  unopened_stays j t = ap (λ (k : ℕ). not (eqb k 1)) (flag_stays g s m j is-mine t)

  pub flag_gain : (x : ℕ) → gain g s x ≡ gain g (set s m 2) x + 0
  unfolding gain
  flag_gain x =
      let a = count_each (λ o. holds g x o && opening_closed (set s m 2) o) (λ o. holds g x o && opening_closed s o) (openings g)
      (each_map (openings g) (λ o f. ap (λ (b : Bool). holds g x o && b)
      (some_same (unopened (set s m 2)) (unopened s) o (λ z t. unopened_stays z (zero_safe g z (f.zero-cell z t))))) (good g).full) in
      let b = count_ext (cell_unit g (set s m 2)) (cell_unit g s) (square g x)
      (λ j t. and_under (unlabelled g j) (unopened (set s m 2) j) (unopened s j) (λ u. unopened_stays j (unlabelled_safe g j u))) in
      omega arith

  -- each safe cell in its square costs one less
  pub flag_cost : (x : ℕ) → T (safe g x) → cost g s x ≡ cost g (set s m 2) x + bit (has m (square g x))
  unfolding cost
  flag_cost x t =
      let a = count_drop (unflagged g s) (unflagged g (set s m 2)) m (square g x) (once_square g x)
      (λ j n. ap (λ (k : ℕ). mine g j && not (eqb k 2)) (sym (get_or-set_other s m j 2 0 n)))
      (ap (λ (k : ℕ). mine g m && not (eqb k 2)) (get_or-set_same s m 2 0 (omega arith)) ∙ sym (and_false (mine g m))) in
      let b = ap (λ (b : Bool). bit (has m (square g x) && b))
      (ap (λ (k : ℕ). mine g m && not (eqb k 2)) (eqb→eq (get_or s m 0) 0 shut) ∙ ap (λ (b : Bool). b && true) (T→true (mine g m) is-mine)) in
      let c = ap bit (and_true (has m (square g x))) in
      let d = ap bit (unopened_stays x t) in
      omega arith

  -- +1 in the mine's square
  pub premium_flag : (x : ℕ) → T (safe g x) → premium g (set s m 2) x ≡ premium g s x -ℤ pos 0 +ℤ pos (bit (has m (square g x)))
  premium_flag x t = premium_shift g s (set s m 2) x 0 (bit (has m (square g x))) (flag_gain x) (flag_cost x t)

-- ---- an opening is swept

module _ (g : Grid) (s : Position) (c : ℕ) (f : Tidy g s) (z : Zero g c) (shut : T (closed s c)) where
  -- L on a closed 0-cell is a sweep
  pub reveal_sweep : reveal g s c ≡ sweep g s c
  reveal_sweep = go (reveal g s c) (revealed g s c)
    where
      go : (t : Position) → Revealed g s c t → t ≡ sweep g s c
      go t (stays n) = absurd (n (zero_safe g c z) shut)
      go t (opens a b n) = absurd (n z.none)
      go t (sweeps a b k) = refl

  swept : (j : ℕ) → j < size g → get_or (reveal g s c) j 0 ≡ cond (holds g j (joined_to g c)) 1 (get_or s j 0)
  swept j h = ap (λ (t : Position). get_or t j 0) reveal_sweep ∙ get_d_sweep g s c f z shut j h

  unswept : (j : ℕ) → j < size g → (T (holds g j (joined_to g c)) → ⊥) → get_or (reveal g s c) j 0 ≡ get_or s j 0
  unswept j h n = swept j h ∙ ap (λ (b : Bool). cond b 1 (get_or s j 0)) (no→false (holds g j (joined_to g c)) n)

  -- a swept cell costs one less if it was closed
  pub sweep_cost : (x : ℕ) → x < size g → cost g s x ≡ cost g (reveal g s c) x + bit (holds g x (joined_to g c) && closed s x)
  unfolding cost
  sweep_cost x h =
      let a = count_ext (unflagged g (reveal g s c)) (unflagged g s) (square g x)
      (λ j t. and_under (mine g j) (not (flagged (reveal g s c) j)) (not (flagged s j)) (λ u.
      let hj = (square→ g x j h t).0 in
      ap (λ (k : ℕ). not (eqb k 2)) (unswept j hj (mine_off g c j z hj u)))) in
      let b = ap (λ (k : ℕ). bit (not (eqb k 1))) (swept x h) in
      let d = one (holds g x (joined_to g c)) (get_or s x 0) (λ t. tidy_unopened g s x f h (not_T (mine g x) (λ m. mine_off g c x z h m t))) in
      omega arith
    where
      one : (b : Bool) (k : ℕ) → (T b → not (eqb k 1) ≡ eqb k 0) → bit (not (eqb k 1)) ≡ bit (not (eqb (cond b 1 k) 1)) + bit (b && eqb k 0)
      one true k e = omega (arith, ap bit (e tt))
      one false k e = omega arith

  -- a cell of the opening gains one less
  pub sweep_gain : (x : ℕ) → x < size g → gain g s x ≡ gain g (reveal g s c) x + bit (holds g x (joined_to g c))
  unfolding gain
  sweep_gain x h =
      let w = owner g c z in
      let a = count_split (λ o. holds g x o && opening_closed s o) (λ o. has c o) (openings g) in
      let b = count_each (λ o. holds g x o && opening_closed (reveal g s c) o) (λ o. holds g x o && opening_closed s o && not (has c o)) (openings g)
      (each_map (openings g) (λ o k. sym (and_inside (holds g x o) (opening_closed s o) (opening_closed (reveal g s c) o) (has c o)
      (λ _. reveal_opening g s c o z.inside f k))) (good g).full) in
      let d = w.only (λ o. holds g x o && opening_closed s o) in
      let e : bit (holds g x w.opening && opening_closed s w.opening) ≡ bit (holds g x (joined_to g c)) =
      ap (λ (b : Bool). bit (holds g x w.opening && b)) (opening_shut s w.opening c w.has_it shut)
      ∙ ap bit (sym (and_true (holds g x w.opening)) ∙ same-holds g c x w.opening z w.full w.has_it) in
      let k = count_ext (cell_unit g (reveal g s c)) (cell_unit g s) (square g x)
      (λ j t. and_under (unlabelled g j) (unopened (reveal g s c) j) (unopened s j) (λ u.
      ap (λ (k : ℕ). not (eqb k 1)) (unswept j (square→ g x j h t).0 (unlabelled_off g j c u z)))) in
      omega arith

  -- at each cell of the opening -1, and +1 if it was closed
  pub premium_sweep : (x : ℕ) → x < size g
      → premium g (reveal g s c) x ≡ premium g s x -ℤ pos (bit (holds g x (joined_to g c))) +ℤ pos (bit (holds g x (joined_to g c) && closed s x))
  premium_sweep x h =
      premium_shift g s (reveal g s c) x (bit (holds g x (joined_to g c))) (bit (holds g x (joined_to g c) && closed s x)) (sweep_gain x h) (sweep_cost x h)
