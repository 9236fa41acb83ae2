-- reveal at a 0-cell open_as what carries its label, and that is what its opening holds; so reveal does what L does. Assumes nothing.
use Prim.Native.Nat.{ℕ, ◌+◌, ◌-◌, ◌<◌, ◌≤◌}
use native.Mathlib.Omega.{arith}
use native.Mathlib.Decide.{ℕ_discrete}
use mathlib.Core.Path.{◌∙◌, ◌≡◌, ap, ap₂, refl, subst, subst₂, sym}
use mathlib.Core.Bool.{Bool, ◌&&◌, ◌||◌, cond, false, not, true}
use mathlib.Core.List.{List, [], ◌∷◌}
use lib.Dec.{T, eqb, eqb→eq, not_T}
use lib.IntN.{◌+ℤ◌, ◌-ℤ◌, negsuc, pos, ℤ}
use lib.ListN.{get_or, length, set}
use Rattle.game.specs.Grid.{Grid, cells, mine, safe, size, square, zero_cell}
use Rattle.game.specs.Lists.{bit, count, fold, has, range}
use Rattle.game.specs.Moves.{reveal, sweep}
use Rattle.game.specs.Openings.{first_label, holds, joined_to}
use Rattle.game.specs.Position.{Position, Tidy, closed, closed_safe, flagged, opened, premium, unopened}
use Rattle.original.specs.Cells.{Zcell, add-premium}
use Rattle.original.specs.Play.{State, open_cell, reveal_cell, reveal_one, with_cells}
use Rattle.game.proofs.Counts.{Once, count_ext, count_split}
use Rattle.game.proofs.Labels.{first_seat}
use Rattle.game.proofs.Members.{first_of, rest_of}
use Rattle.game.proofs.Premiums.{premium_sweep, reveal_sweep}
use Rattle.game.proofs.Reveal.{Revealed, get_d_sweep, mine_off, opens, revealed, stays, sweeps}
use Rattle.game.proofs.Squares.{cells→, once_cells, →cells}
use Rattle.game.proofs.Truth.{T→true, and_false, and_inside, and_true, and_under, no→false}
use Rattle.game.proofs.Zeros.{Zero}
use Rattle.original.proofs.Positions.{Board, Models, after_open, board_ext, board_premium, not_two, one_at, open_board, open_stands, shift}
use borrow.Author.Tests.{eq-eqb, ne_eqb}
use Rattle.original.proofs.Carries.{carries, carries_held, carries_some}

-- ---- the loop of reveal at a 0-cell

module _ (g : Grid) (o : ℕ) (some_label : 1 ≤ o) (fl : ℕ → Bool) where
  -- which cells are open, and the premiums, once the cells of M were met
  abbrev op_after : (ℕ → Bool) → (ℕ → Bool) → ℕ → Bool
  op_after M op j = (M j && carries g o j) || op j

  abbrev P_after : (ℕ → Bool) → (ℕ → Bool) → (ℕ → ℤ) → ℕ → ℤ
  P_after M op P j = cond (M j && carries g o j) (cond (op j) (P j) (P j +ℤ pos 1) +ℤ negsuc 0) (P j)

  record Swept (xs : List ℕ) (op : ℕ → Bool) (P : ℕ → ℤ) (st done : State) : Type 0 where
    board : Board g (op_after (λ j. has j xs) op) fl (P_after (λ j. has j xs) op P) done.cells
    clicks : done.zini ≡ st.zini
    closed_left : done.closed-cells ≡ st.closed-cells - count (λ j. carries g o j && not (op j)) xs

  swept_one : (op : ℕ → Bool) (P : ℕ → ℤ) (st : State) (x : ℕ) → x < size g → Board g op fl P st.cells → Swept (x ∷ []) op P st (reveal_one g.rows o st x)
  unfolding open_cell
  swept_one op P st x h t =
      subst₂ (λ p q. Swept (x ∷ []) op P st (by p q)) (sym (ap (λ (z : Zcell). eqb z.opening2 o || eqb z.opening o) (t.reads x h))) (sym (ap (λ (z : Zcell). z.opened) (t.reads x h)))
      (go (carries g o x) refl (op x) refl)
    where
      by : Bool → Bool → State
      by p q =
          elim p [
            | true ↦ with_cells (λ cs. add-premium (negsuc 0) cs x) (elim (not q) as (λ b. State) [ true ↦ open_cell g.rows st x | false ↦ st ])
            | false ↦ st
          ]

      -- x alone is met
      hit : (p : Bool) → carries g o x ≡ p → (j : ℕ) → Dec (j ≡ x) → ((eqb j x || false) && carries g o j) ≡ (eqb j x && p)
      hit p e j (yes d) = ap₂ (λ a b. (a || false) && b) (eq-eqb j x d) (ap (carries g o) d ∙ e) ∙ sym (ap (λ (a : Bool). a && p) (eq-eqb j x d))
      hit p e j (no d) = ap (λ (a : Bool). (a || false) && carries g o j) (ne_eqb j x d) ∙ sym (ap (λ (a : Bool). a && p) (ne_eqb j x d))

      op_there : (q : Bool) → op x ≡ q → (j : ℕ) → T (eqb j x) → op j ≡ q
      op_there q e j u = ap op (eqb→eq j x u) ∙ e

      -- what is met, with what it came to
      open_as : (p : Bool) (j : ℕ) → carries g o x ≡ p → (op' : Bool) → ((e : Bool) → eqb j x ≡ e → op' ≡ ((e && p) || op j)) → op' ≡ op_after (λ j. has j (x ∷ [])) op j
      open_as p j c op' f = f (eqb j x) refl ∙ ap (λ (a : Bool). a || op j) (sym (hit p c j (ℕ_discrete j x)))

      pays : (p : Bool) (j : ℕ) → carries g o x ≡ p → (v : ℤ) → ((e : Bool) → eqb j x ≡ e → v ≡ cond (e && p) (cond (op j) (P j) (P j +ℤ pos 1) +ℤ negsuc 0) (P j))
          → v ≡ P_after (λ j. has j (x ∷ [])) op P j
      pays p j c v f = f (eqb j x) refl ∙ ap (λ (a : Bool). cond a (cond (op j) (P j) (P j +ℤ pos 1) +ℤ negsuc 0) (P j)) (sym (hit p c j (ℕ_discrete j x)))

      counted : (p q : Bool) → carries g o x ≡ p → op x ≡ q → count (λ j. carries g o j && not (op j)) (x ∷ []) ≡ bit (p && not q)
      counted p q c e = ap₂ (λ a b. bit (a && not b) + 0) c e ∙ omega arith

      go : (p : Bool) → carries g o x ≡ p → (q : Bool) → op x ≡ q → Swept (x ∷ []) op P st (by p q)
      go false c q e =
          record {
            board = board_ext g op (op_after (λ j. has j (x ∷ [])) op) fl fl P (P_after (λ j. has j (x ∷ [])) op P) st.cells
                (λ j hj. open_as false j c (op j) (off j)) (λ j hj. refl) (λ j hj. pays false j c (P j) (stay j)) t;
            clicks = refl;
            closed_left = omega (arith, counted false q c e);
          }
        where
          off : (j : ℕ) (b : Bool) → eqb j x ≡ b → op j ≡ ((b && false) || op j)
          off j true d = refl
          off j false d = refl

          stay : (j : ℕ) (b : Bool) → eqb j x ≡ b → P j ≡ cond (b && false) (cond (op j) (P j) (P j +ℤ pos 1) +ℤ negsuc 0) (P j)
          stay j true d = refl
          stay j false d = refl
      go true c true e =
          record {
            board = board_ext g op (op_after (λ j. has j (x ∷ [])) op) fl fl (λ j. cond (eqb j x) (P j +ℤ negsuc 0) (P j)) (P_after (λ j. has j (x ∷ [])) op P) (by true true).cells
                (λ j hj. open_as true j c (op j) (on j)) (λ j hj. refl) (λ j hj. pays true j c (cond (eqb j x) (P j +ℤ negsuc 0) (P j)) (less j))
                (board_premium g op fl P st.cells x (negsuc 0) t);
            clicks = refl;
            closed_left = omega (arith, counted true true c e);
          }
        where
          on : (j : ℕ) (b : Bool) → eqb j x ≡ b → op j ≡ ((b && true) || op j)
          on j true d = op_there true e j (rw d tt)
          on j false d = refl

          less : (j : ℕ) (b : Bool) → eqb j x ≡ b → cond (eqb j x) (P j +ℤ negsuc 0) (P j) ≡ cond (b && true) (cond (op j) (P j) (P j +ℤ pos 1) +ℤ negsuc 0) (P j)
          less j true d =
              ap (λ (a : Bool). cond a (P j +ℤ negsuc 0) (P j)) d ∙ sym (ap (λ (a : Bool). cond a (P j) (P j +ℤ pos 1) +ℤ negsuc 0) (op_there true e j (rw d tt)))
          less j false d = ap (λ (a : Bool). cond a (P j +ℤ negsuc 0) (P j)) d
      go true c false e =
          record {
            board = board_ext g (λ j. eqb j x || op j) (op_after (λ j. has j (x ∷ [])) op) fl fl Q (P_after (λ j. has j (x ∷ [])) op P) (by true false).cells
                (λ j hj. open_as true j c (eqb j x || op j) (on j)) (λ j hj. refl) (λ j hj. pays true j c (Q j) (less j))
                (board_premium g (λ j. eqb j x || op j) fl (after_open g x P) (open_cell g.rows st x).cells x (negsuc 0) (open_board g op fl P st x h t));
            clicks = refl;
            closed_left = omega (arith, counted true false c e);
          }
        where
          Q : ℕ → ℤ
          Q j = cond (eqb j x) (after_open g x P j +ℤ negsuc 0) (after_open g x P j)

          on : (j : ℕ) (b : Bool) → eqb j x ≡ b → (eqb j x || op j) ≡ ((b && true) || op j)
          on j true d = ap (λ (a : Bool). a || op j) d
          on j false d = ap (λ (a : Bool). a || op j) d

          labelled : (j : ℕ) → after_open g x P j ≡ one_at x P j
          labelled j = ap (λ (a : Bool). cond (a && has j (square g x)) (one_at x P j +ℤ negsuc 0) (one_at x P j)) (carries_some g o x some_label (rw c tt))

          less : (j : ℕ) (b : Bool) → eqb j x ≡ b → Q j ≡ cond (b && true) (cond (op j) (P j) (P j +ℤ pos 1) +ℤ negsuc 0) (P j)
          less j true d =
              ap (λ (v : ℤ). cond (eqb j x) (v +ℤ negsuc 0) v) (labelled j) ∙ ap (λ (a : Bool). cond a (cond a (P j +ℤ pos 1) (P j) +ℤ negsuc 0) (cond a (P j +ℤ pos 1) (P j))) d
              ∙ sym (ap (λ (a : Bool). cond a (P j) (P j +ℤ pos 1) +ℤ negsuc 0) (op_there false e j (rw d tt)))
          less j false d =
              ap (λ (v : ℤ). cond (eqb j x) (v +ℤ negsuc 0) v) (labelled j) ∙ ap (λ (a : Bool). cond a (cond a (P j +ℤ pos 1) (P j) +ℤ negsuc 0) (cond a (P j +ℤ pos 1) (P j))) d

  swept_all : (xs : List ℕ) (op : ℕ → Bool) (P : ℕ → ℤ) (st : State) → Once xs → ((x : ℕ) → T (has x xs) → x < size g) → Board g op fl P st.cells
      → Swept xs op P st (fold (reveal_one g.rows o) st xs)
  swept_all [] op P st w h t = record { board = t; clicks = refl; closed_left = omega arith }
  swept_all (x ∷ xs) op P st w h t =
      let a = swept_one op P st x (first_of x xs h) t in
      let b = swept_all xs op₁ P₁ (reveal_one g.rows o st x) w.1 (rest_of x xs h) a.board in
      record {
        board = board_ext g (op_after (λ j. has j xs) op₁) (op_after (λ j. has j (x ∷ xs)) op) fl fl (P_after (λ j. has j xs) op₁ P₁) (P_after (λ j. has j (x ∷ xs)) op P)
            (fold (reveal_one g.rows o) (reveal_one g.rows o st x) xs).cells
            (λ j hj. open_as j (eqb j x) (has j xs) (carries g o j)) (λ j hj. refl) (λ j hj. pays j (eqb j x) (has j xs) (carries g o j) (op j) (apart j)) b.board;
        clicks = b.clicks ∙ a.clicks;
        closed_left = omega (arith, b.closed_left, a.closed_left, rest);
      }
    where
      op₁ : ℕ → Bool
      op₁ = op_after (λ j. has j (x ∷ [])) op

      P₁ : ℕ → ℤ
      P₁ = P_after (λ j. has j (x ∷ [])) op P

      apart : (j : ℕ) → T (eqb j x) → T (has j xs) → ⊥
      apart j u v = w.0 (subst (λ (k : ℕ). T (has k xs)) (eqb→eq j x u) v)

      open_as : (j : ℕ) (e m c : Bool) → ((m && c) || (((e || false) && c) || op j)) ≡ (((e || m) && c) || op j)
      open_as j true true true = refl
      open_as j true true false = refl
      open_as j true false c = refl
      open_as j false true c = refl
      open_as j false false c = refl

      pays : (j : ℕ) (e m c q : Bool) → (T e → T m → ⊥)
          → cond (m && c) (cond (((e || false) && c) || q) (cond ((e || false) && c) (cond q (P j) (P j +ℤ pos 1) +ℤ negsuc 0) (P j)) (cond ((e || false) && c) (cond q (P j) (P j +ℤ pos 1) +ℤ negsuc 0) (P j) +ℤ pos 1) +ℤ negsuc 0)
          (cond ((e || false) && c) (cond q (P j) (P j +ℤ pos 1) +ℤ negsuc 0) (P j))
          ≡ cond ((e || m) && c) (cond q (P j) (P j +ℤ pos 1) +ℤ negsuc 0) (P j)
      pays j true true c q n = absurd (n tt tt)
      pays j true false c q n = refl
      pays j false true c q n = refl
      pays j false false c q n = refl

      rest : count (λ j. carries g o j && not (op₁ j)) xs ≡ count (λ j. carries g o j && not (op j)) xs
      rest =
          count_ext (λ j. carries g o j && not (op₁ j)) (λ j. carries g o j && not (op j)) xs
          (λ j u. ap (λ (a : Bool). carries g o j && not (((a || false) && carries g o j) || op j)) (no→false (eqb j x) (λ v. apart j v u)))

-- ---- a whole opening is swept

sweep_stands : (g : Grid) (s : Position) (n : ℕ) (st : State) (c : ℕ) → Tidy g s → Zero g c → T (closed s c) → Models g s n st
    → Models g (sweep g s c) n (fold (reveal_one g.rows (first_label g c)) st (cells g))
unfolding closed_safe
sweep_stands g s n st c f z u k =
    record {
      kept = Q;
      board = board_ext g (op_after g o some_label (flagged s) (λ j. has j (cells g)) (opened s)) (opened (sweep g s c)) (flagged s) (flagged (sweep g s c)) Q Q (fold (reveal_one g.rows o) st (cells g)).cells
          (λ j h. open_as j h) (λ j h. flags j h) (λ j h. refl) w.board;
      exact = λ j h t. premiums j h t;
      clicks = w.clicks ∙ k.clicks;
      left = omega (arith, w.closed_left, k.left, fewer);
    }
  where
    o : ℕ
    o = first_label g c

    some_label : 1 ≤ o
    some_label = omega (arith, first_seat g c z)

    held : ℕ → Bool
    held j = holds g j (joined_to g c)

    w : Swept g o some_label (flagged s) (cells g) (opened s) k.kept st (fold (reveal_one g.rows o) st (cells g))
    w = swept_all g o some_label (flagged s) (cells g) (opened s) k.kept st (once_cells g) (cells→ g) k.board

    Q : ℕ → ℤ
    Q = P_after g o some_label (flagged s) (λ j. has j (cells g)) (opened s) k.kept

    hit : (j : ℕ) → j < size g → (has j (cells g) && carries g o j) ≡ held j
    hit j h = ap₂ (λ a b. a && b) (T→true (has j (cells g)) (→cells g j h)) (carries_held g c j z h)

    held_safe : (j : ℕ) → j < size g → T (held j) → T (safe g j)
    held_safe j h t = not_T (mine g j) (λ m. mine_off g c j z h m t)

    open_as : (j : ℕ) → j < size g → ((has j (cells g) && carries g o j) || opened s j) ≡ opened (sweep g s c) j
    open_as j h = ap (λ (a : Bool). a || opened s j) (hit j h) ∙ one (held j) (get_or s j 0) ∙ sym (ap (λ (x : ℕ). eqb x 1) (get_d_sweep g s c f z u j h))
      where
        one : (b : Bool) (x : ℕ) → (b || eqb x 1) ≡ eqb (cond b 1 x) 1
        one true x = refl
        one false x = refl

    flags : (j : ℕ) → j < size g → flagged s j ≡ flagged (sweep g s c) j
    flags j h = one (held j) (get_or s j 0) (λ t. f.safes j h (held_safe j h t)) ∙ sym (ap (λ (x : ℕ). eqb x 2) (get_d_sweep g s c f z u j h))
      where
        one : (b : Bool) (x : ℕ) → (T b → eqb x 1 ≡ not (eqb x 0)) → eqb x 2 ≡ eqb (cond b 1 x) 2
        one true x e = not_two x (e tt)
        one false x e = refl

    premiums : (j : ℕ) → j < size g → T (safe g j) → Q j ≡ premium g (sweep g s c) j
    premiums j h t =
        ap (λ (a : Bool). cond a (cond (opened s j) (k.kept j) (k.kept j +ℤ pos 1) +ℤ negsuc 0) (k.kept j)) (hit j h)
        ∙ ap (λ (a : Bool). cond (held j) (cond a (k.kept j) (k.kept j +ℤ pos 1) +ℤ negsuc 0) (k.kept j)) (f.safes j h t)
        ∙ one (held j) (closed s j) (k.kept j)
        ∙ shift (held j) (held j && closed s j) (k.kept j)
        ∙ ap (λ (p : ℤ). p -ℤ pos (bit (held j)) +ℤ pos (bit (held j && closed s j))) (k.exact j h t)
        ∙ sym (premium_sweep g s c f z u j h)
        ∙ ap (λ (p : Position). premium g p j) (reveal_sweep g s c f z u)
      where
        one : (b d : Bool) (p : ℤ) → cond b (cond (not d) p (p +ℤ pos 1) +ℤ negsuc 0) p ≡ cond b (cond (b && d) (p +ℤ pos 1) p +ℤ negsuc 0) (cond (b && d) (p +ℤ pos 1) p)
        one true true p = refl
        one true false p = refl
        one false d p = refl

    fewer : closed_safe g s ≡ closed_safe g (sweep g s c) + count (λ j. carries g o j && unopened s j) (cells g)
    fewer =
        let a = count_split (λ j. safe g j && unopened s j) held (cells g) in
        let b = count_ext (λ j. safe g j && unopened s j && not (held j)) (λ j. safe g j && unopened (sweep g s c) j) (cells g)
        (λ j t. and_inside (safe g j) (unopened s j) (unopened (sweep g s c) j) (held j)
        (λ v. ap (λ (x : ℕ). not (eqb x 1)) (get_d_sweep g s c f z u j (cells→ g j t)) ∙ shut (held j) (get_or s j 0))) in
        let d = count_ext (λ j. held j && (safe g j && unopened s j)) (λ j. carries g o j && unopened s j) (cells g)
        (λ j t. and_under (held j) (safe g j && unopened s j) (unopened s j)
        (λ v. ap (λ (a : Bool). a && unopened s j) (T→true (safe g j) (held_safe j (cells→ g j t) v)))
        ∙ ap (λ (a : Bool). a && unopened s j) (sym (carries_held g c j z (cells→ g j t)))) in
        omega arith
      where
        shut : (b : Bool) (x : ℕ) → not (eqb (cond b 1 x) 1) ≡ (not (eqb x 1) && not b)
        shut true x = and_false (not (eqb x 1))
        shut false x = and_true (not (eqb x 1))

-- ---- reveal

-- reveal at a cell that is no unflagged mine does what L does
pub reveal_stands : (g : Grid) (s : Position) (n : ℕ) (st : State) (c : ℕ) → c < size g → Tidy g s → (T (mine g c) → T (flagged s c)) → Models g s n st
    → Models g (reveal g s c) n (reveal_cell g.rows st c)
unfolding reveal_cell
reveal_stands g s n st c h f m k =
    subst (Models g (reveal g s c) n) (sym (ap by (k.board.reads c h) ∙ ap (λ (l : ℕ). whole l (opened s c || flagged s c) (zero_cell g c) (first_label g c)) k.board.long))
    (go (reveal g s c) (revealed g s c))
  where
    whole : ℕ → Bool → Bool → ℕ → State
    whole l seen blank o =
        elim seen [
          | true ↦ st
          | false ↦ elim (not blank) [
            | true ↦ open_cell g.rows st c
            | false ↦ fold (reveal_one g.rows o) st (range 0 l)
          ]
        ]

    by : Zcell → State
    by z = whole (length st.cells) (z.opened || z.flagged) (eqb z.number 0) z.opening

    closed-safe : T (safe g c) → T (closed s c) → (opened s c || flagged s c) ≡ false
    closed-safe t u = ap₂ (λ a b. a || b) (f.safes c h t ∙ ap not (T→true (closed s c) u)) (not_two (get_or s c 0) (f.safes c h t))

    -- a cell that is neither opened nor flagged is safe and closed
    shown : (T (safe g c) → T (closed s c) → ⊥) → (opened s c || flagged s c) ≡ true
    shown d = one (mine g c) refl
      where
        or_true : (a : Bool) → (a || true) ≡ true
        or_true true = refl
        or_true false = refl

        one : (b : Bool) → mine g c ≡ b → (opened s c || flagged s c) ≡ true
        one true e = ap (λ (b : Bool). opened s c || b) (T→true (flagged s c) (m (rw e tt))) ∙ or_true (opened s c)
        one false e =
            let t : T (safe g c) = rw e tt in
            ap (λ (b : Bool). b || flagged s c) (f.safes c h t ∙ ap not (no→false (closed s c) (d t)))

    go : (t : Position) → Revealed g s c t → Models g t n (whole (size g) (opened s c || flagged s c) (zero_cell g c) (first_label g c))
    go t (stays d) = subst (λ (b : Bool). Models g s n (whole (size g) b (zero_cell g c) (first_label g c))) (sym (shown d)) k
    go t (opens a b d) =
        subst₂ (λ p q. Models g (set s c 1) n (whole (size g) p q (first_label g c))) (sym (closed-safe a b)) (sym (no→false (zero_cell g c) d)) (open_stands g s n st c h f a b d k)
    go t (sweeps a b z) =
        subst₂ (λ p q. Models g (sweep g s c) n (whole (size g) p q (first_label g c))) (sym (closed-safe a b)) (sym (T→true (zero_cell g c) z))
        (sweep_stands g s n st c f (record { inside = h; none = z }) b k)
