-- The cells stand for a position: open, reveal and flag keep for each safe cell the premium of the position after them. Assumes nothing.
use Prim.Native.Nat.{ℕ, ◌+◌, ◌-◌, ◌<◌}
use native.Mathlib.Omega.{arith}
use native.Mathlib.Decide.{ℕ_discrete}
use mathlib.Core.Path.{◌∙◌, ◌≡◌, ap, ap₂, refl, subst, sym}
use mathlib.Core.Bool.{Bool, ◌&&◌, ◌||◌, cond, false, not, true}
use mathlib.Core.List.{List}
use lib.Dec.{T, eqb, eqb→eq}
use lib.IntN.{+ℤ_assoc, +ℤ_idr, ◌+ℤ◌, ◌-ℤ◌, negsuc, pos, ℤ}
use lib.ListN.{get_or, set}
use lib.Seq.{get_or-set_other, get_or-set_same}
use Rattle.game.specs.Grid.{Grid, cells, mine, safe, size, square, zero_cell}
use Rattle.game.specs.Lists.{bit, count, fold, has}
use Rattle.game.specs.Openings.{first_label, unlabelled}
use Rattle.game.specs.Position.{Position, Tidy, closed, closed_safe, flagged, opened, premium, unopened}
use Rattle.original.specs.Cells.{Cells, Zcell, add-premium, around, at, change, with_flagged, with_opened, with_premium}
use Rattle.original.specs.Play.{State, add-around, flag_cell, one_click, open_cell, with_cells}
use Rattle.game.proofs.Counts.{bit_yes, count_drop, count_ext}
use Rattle.game.proofs.Labels.{first-label}
use Rattle.game.proofs.Owners.{closed_unopened}
use Rattle.game.proofs.Premiums.{premium_flag, premium_open}
use Rattle.game.proofs.Reveal.{flag_stays}
use Rattle.game.proofs.Squares.{once_cells, once_square, square_sym, →cells}
use Rattle.game.proofs.Truth.{T→true, and_both, and_false, and_true, and_under, no→false}
use Rattle.original.proofs.Ready.{plain}
use Rattle.original.proofs.Tables.{Table, around_square, mixed, reads_celled, table_change, table_ext, table_fold}
use borrow.Author.Tests.{eq-eqb, ne_eqb}

-- ---- the cells of a round

-- each cell's number and labels, whether it is opened or flagged, and a premium
abbrev pub Board : Grid → (ℕ → Bool) → (ℕ → Bool) → (ℕ → ℤ) → Cells → Type 0
Board g op fl P cs = Table (size g) (λ i. plain g i (op i) (fl i) (P i)) cs

pub board_ext : (g : Grid) (op op' fl fl' : ℕ → Bool) (P P' : ℕ → ℤ) (cs : Cells) → ((i : ℕ) → i < size g → op i ≡ op' i) → ((i : ℕ) → i < size g → fl i ≡ fl' i)
    → ((i : ℕ) → i < size g → P i ≡ P' i) → Board g op fl P cs → Board g op' fl' P' cs
board_ext g op op' fl fl' P P' cs e f q t =
    table_ext (size g) (λ i. plain g i (op i) (fl i) (P i)) (λ i. plain g i (op' i) (fl' i) (P' i)) cs
    (λ i h. ap (λ (b : Bool). plain g i b (fl i) (P i)) (e i h) ∙ ap₂ (plain g i (op' i)) (f i h) (q i h)) t

pub board_around : (g : Grid) (op fl : ℕ → Bool) (P : ℕ → ℤ) (cs : Cells) (c : ℕ) → c < size g → Board g op fl P cs → around cs g.rows c ≡ square g c
board_around g op fl P cs c h t =
    around_square g cs c h (reads_celled g (λ i. plain g i (op i) (fl i) (P i)) cs (λ i. record { keeps = refl }) t c h)

pub board_premium : (g : Grid) (op fl : ℕ → Bool) (P : ℕ → ℤ) (cs : Cells) (c : ℕ) (d : ℤ) → Board g op fl P cs → Board g op fl (λ i. cond (eqb i c) (P i +ℤ d) (P i)) (add-premium d cs c)
board_premium g op fl P cs c d t =
    table_ext (size g) (λ i. cond (eqb i c) (plain g i (op i) (fl i) (P i +ℤ d)) (plain g i (op i) (fl i) (P i))) (λ i. plain g i (op i) (fl i) (cond (eqb i c) (P i +ℤ d) (P i)))
    (add-premium d cs c) (λ i h. out i (eqb i c)) (table_change (size g) (λ i. plain g i (op i) (fl i) (P i)) cs (λ z. with_premium (z.premium +ℤ d) z) c t)
  where
    out : (i : ℕ) (b : Bool) → cond b (plain g i (op i) (fl i) (P i +ℤ d)) (plain g i (op i) (fl i) (P i)) ≡ plain g i (op i) (fl i) (cond b (P i +ℤ d) (P i))
    out i true = refl
    out i false = refl

board_square : (g : Grid) (op fl : ℕ → Bool) (P : ℕ → ℤ) (cs : Cells) (c : ℕ) (d : ℤ) → c < size g → Board g op fl P cs
    → Board g op fl (λ i. cond (has i (square g c)) (P i +ℤ d) (P i)) (add-around d g.rows c cs)
board_square g op fl P cs c d h t =
    subst (λ (xs : List ℕ). Board g op fl (λ i. cond (has i (square g c)) (P i +ℤ d) (P i)) (fold (add-premium d) cs xs)) (sym (board_around g op fl P cs c h t))
    (table_ext (size g) (mixed f F (λ i. has i (square g c) || false)) (λ i. plain g i (op i) (fl i) (cond (has i (square g c)) (P i +ℤ d) (P i))) (fold (add-premium d) cs (square g c))
    (λ i k. out i (has i (square g c)))
    (table_fold (size g) f F (add-premium d) (square g c) (λ i. false) cs (once_square g c) (λ x u. refl) (λ N ds x u k. refl) t))
  where
    F : ℕ → Zcell
    F i = plain g i (op i) (fl i) (P i)

    f : ℕ → Zcell → Zcell
    f i z = with_premium (z.premium +ℤ d) z

    out : (i : ℕ) (b : Bool) → cond (b || false) (f i (F i)) (F i) ≡ plain g i (op i) (fl i) (cond b (P i +ℤ d) (P i))
    out i true = refl
    out i false = refl

board_opened : (g : Grid) (op fl : ℕ → Bool) (P : ℕ → ℤ) (cs : Cells) (c : ℕ) → Board g op fl P cs → Board g (λ i. eqb i c || op i) fl P (change with_opened cs c)
board_opened g op fl P cs c t =
    table_ext (size g) (λ i. cond (eqb i c) (plain g i true (fl i) (P i)) (plain g i (op i) (fl i) (P i))) (λ i. plain g i (eqb i c || op i) (fl i) (P i))
    (change with_opened cs c) (λ i h. out i (eqb i c)) (table_change (size g) (λ i. plain g i (op i) (fl i) (P i)) cs with_opened c t)
  where
    out : (i : ℕ) (b : Bool) → cond b (plain g i true (fl i) (P i)) (plain g i (op i) (fl i) (P i)) ≡ plain g i (b || op i) (fl i) (P i)
    out i true = refl
    out i false = refl

board_flagged : (g : Grid) (op fl : ℕ → Bool) (P : ℕ → ℤ) (cs : Cells) (c : ℕ) → Board g op fl P cs → Board g op (λ i. eqb i c || fl i) P (change with_flagged cs c)
board_flagged g op fl P cs c t =
    table_ext (size g) (λ i. cond (eqb i c) (plain g i (op i) true (P i)) (plain g i (op i) (fl i) (P i))) (λ i. plain g i (op i) (eqb i c || fl i) (P i))
    (change with_flagged cs c) (λ i h. out i (eqb i c)) (table_change (size g) (λ i. plain g i (op i) (fl i) (P i)) cs with_flagged c t)
  where
    out : (i : ℕ) (b : Bool) → cond b (plain g i (op i) true (P i)) (plain g i (op i) (fl i) (P i)) ≡ plain g i (op i) (b || fl i) (P i)
    out i true = refl
    out i false = refl

-- ---- open

-- one more at a cell
abbrev pub one_at : ℕ → (ℕ → ℤ) → ℕ → ℤ
one_at c P i = cond (eqb i c) (P i +ℤ pos 1) (P i)

-- one more at the cell, one less in its square if it has no label
abbrev pub after_open : Grid → ℕ → (ℕ → ℤ) → ℕ → ℤ
after_open g c P i = cond (eqb (first_label g c) 0 && has i (square g c)) (one_at c P i +ℤ negsuc 0) (one_at c P i)

pub open_board : (g : Grid) (op fl : ℕ → Bool) (P : ℕ → ℤ) (st : State) (c : ℕ) → c < size g → Board g op fl P st.cells
    → Board g (λ i. eqb i c || op i) fl (after_open g c P) (open_cell g.rows st c).cells
unfolding open_cell
open_board g op fl P st c h t =
    subst (λ (b : Bool). Board g (λ i. eqb i c || op i) fl (after_open g c P) (by b)) (sym (ap (λ (z : Zcell). eqb z.opening 0) (one.reads c h))) (go (eqb (first_label g c) 0))
  where
    cs : Cells
    cs = add-premium (pos 1) (change with_opened st.cells c) c

    by : Bool → Cells
    by b = elim b [ true ↦ add-around (negsuc 0) g.rows c cs | false ↦ cs ]

    one : Board g (λ i. eqb i c || op i) fl (one_at c P) cs
    one = board_premium g (λ i. eqb i c || op i) fl P (change with_opened st.cells c) c (pos 1) (board_opened g op fl P st.cells c t)

    go : (b : Bool) → Board g (λ i. eqb i c || op i) fl (λ i. cond (b && has i (square g c)) (one_at c P i +ℤ negsuc 0) (one_at c P i)) (by b)
    go true = board_square g (λ i. eqb i c || op i) fl (one_at c P) cs c (negsuc 0) h one
    go false = one

-- ---- a position

-- the cells, the clicks and the closed cells of a state stand for a position after n clicks; the premiums of mines are free
pub record Models (g : Grid) (s : Position) (n : ℕ) (st : State) : Type 0 where
  pub kept : ℕ → ℤ
  pub board : Board g (opened s) (flagged s) kept st.cells
  pub exact : (i : ℕ) → i < size g → T (safe g i) → kept i ≡ premium g s i
  pub clicks : st.zini ≡ n
  pub left : st.closed-cells ≡ closed_safe g s + count (mine g) (cells g)

-- one less and one more, in either order
pub shift : (u e : Bool) (p : ℤ) → cond u (cond e (p +ℤ pos 1) p +ℤ negsuc 0) (cond e (p +ℤ pos 1) p) ≡ p -ℤ pos (bit u) +ℤ pos (bit e)
shift true true p = +ℤ_assoc p (pos 1) (negsuc 0) ∙ sym (+ℤ_assoc p (negsuc 0) (pos 1))
shift true false p = sym (+ℤ_idr (p +ℤ negsuc 0))
shift false true p = ap (λ (z : ℤ). z +ℤ pos 1) (sym (+ℤ_idr p))
shift false false p = sym (+ℤ_idr (p +ℤ pos 0) ∙ +ℤ_idr p)

-- a state that is 0 or 1 is not 2
pub not_two : (x : ℕ) → eqb x 1 ≡ not (eqb x 0) → eqb x 2 ≡ false
not_two x e = no→false (eqb x 2) (λ t. subst T (sym (subst (λ (k : ℕ). eqb k 1 ≡ not (eqb k 0)) (eqb→eq x 2 t) e)) tt)

-- ---- one cell is opened

pub open_stands : (g : Grid) (s : Position) (n : ℕ) (st : State) (c : ℕ) → c < size g → Tidy g s → T (safe g c) → T (closed s c) → (T (zero_cell g c) → ⊥) → Models g s n st
    → Models g (set s c 1) n (open_cell g.rows st c)
unfolding open_cell closed_safe
open_stands g s n st c h f t u z k =
    record {
      kept = after_open g c k.kept;
      board = board_ext g (λ i. eqb i c || opened s i) (opened (set s c 1)) (flagged s) (flagged (set s c 1)) (after_open g c k.kept) (after_open g c k.kept) (open_cell g.rows st c).cells
          (λ i hi. (states i (ℕ_discrete i c)).0) (λ i hi. (states i (ℕ_discrete i c)).1) (λ i hi. refl) (open_board g (opened s) (flagged s) k.kept st c h k.board);
      exact = λ i hi si. premiums i hi si;
      clicks = k.clicks;
      left = fewer;
    }
  where
    here : get_or (set s c 1) c 0 ≡ 1
    here = get_or-set_same s c 1 0 (omega (arith, f.long))

    states : (i : ℕ) → Dec (i ≡ c) → ((eqb i c || opened s i) ≡ opened (set s c 1) i) × (flagged s i ≡ flagged (set s c 1) i)
    states i (yes e) = (
      ap (λ (b : Bool). b || opened s i) (eq-eqb i c e) ∙ sym (ap (λ (x : ℕ). eqb x 1) (ap (λ (x : ℕ). get_or (set s c 1) x 0) e ∙ here)),
      ap (flagged s) e ∙ not_two (get_or s c 0) (f.safes c h t) ∙ sym (ap (λ (x : ℕ). eqb x 2) (ap (λ (x : ℕ). get_or (set s c 1) x 0) e ∙ here)),
    )
    states i (no e) = (
      ap (λ (b : Bool). b || opened s i) (ne_eqb i c e) ∙ sym (ap (λ (x : ℕ). eqb x 1) (get_or-set_other s c i 1 0 e)),
      sym (ap (λ (x : ℕ). eqb x 2) (get_or-set_other s c i 1 0 e)),
    )

    bare : eqb (first_label g c) 0 ≡ unlabelled g c
    bare = ap (λ (b : Bool). b && eqb (first_label g c) 0) (sym (T→true (safe g c) t)) ∙ sym (first-label g c)

    swapped : (i : ℕ) → i < size g → (eqb (first_label g c) 0 && has i (square g c)) ≡ (has c (square g i) && unlabelled g c)
    swapped i hi = ap₂ (λ a b. a && b) bare (square_sym g i c hi h) ∙ and_comm (unlabelled g c) (has c (square g i))
      where
        and_comm : (a b : Bool) → (a && b) ≡ (b && a)
        and_comm true b = and_true b
        and_comm false b = and_false b

    premiums : (i : ℕ) → i < size g → T (safe g i) → after_open g c k.kept i ≡ premium g (set s c 1) i
    premiums i hi si =
        shift (eqb (first_label g c) 0 && has i (square g c)) (eqb i c) (k.kept i)
        ∙ ap₂ (λ p b. p -ℤ pos (bit b) +ℤ pos (bit (eqb i c))) (k.exact i hi si) (swapped i hi)
        ∙ sym (premium_open g s c h f.long u z i)

    fewer : st.closed-cells - 1 ≡ closed_safe g (set s c 1) + count (mine g) (cells g)
    fewer =
        let d = count_drop (λ i. safe g i && unopened s i) (λ i. safe g i && unopened (set s c 1) i) c (cells g) (once_cells g)
        (λ i e. ap (λ (x : ℕ). safe g i && not (eqb x 1)) (sym (get_or-set_other s c i 1 0 e)))
        (ap (λ (x : ℕ). safe g c && not (eqb x 1)) here ∙ sym (and_false (safe g c))) in
        let q = bit_yes (has c (cells g) && (safe g c && unopened s c))
        (and_both (has c (cells g)) (safe g c && unopened s c) (→cells g c h) (and_both (safe g c) (unopened s c) t (closed_unopened s c u))) in
        omega (arith, k.left)

-- ---- a mine is flagged

pub flag_stands : (g : Grid) (s : Position) (n : ℕ) (st : State) (m : ℕ) → m < size g → Tidy g s → T (mine g m) → T (closed s m) → Models g s n st
    → Models g (set s m 2) (n + 1) (flag_cell g.rows st m)
unfolding flag_cell closed_safe
flag_stands g s n st m h f t u k = subst (λ (b : Bool). Models g (set s m 2) (n + 1) (by b)) (sym unflagged_yet) done
  where
    by : Bool → State
    by b =
        elim b [
          | true ↦ st
          | false ↦ one_click (with_cells (λ cs. add-around (pos 1) g.rows m (change with_flagged cs m)) st)
        ]

    zero_state : get_or s m 0 ≡ 0
    zero_state = eqb→eq (get_or s m 0) 0 u

    unflagged_yet : (at st.cells m).flagged ≡ false
    unflagged_yet = ap (λ (z : Zcell). z.flagged) (k.board.reads m h) ∙ ap (λ (x : ℕ). eqb x 2) zero_state

    here : get_or (set s m 2) m 0 ≡ 2
    here = get_or-set_same s m 2 0 (omega (arith, f.long))

    P : ℕ → ℤ
    P i = cond (has i (square g m)) (k.kept i +ℤ pos 1) (k.kept i)

    states : (i : ℕ) → Dec (i ≡ m) → (opened s i ≡ opened (set s m 2) i) × ((eqb i m || flagged s i) ≡ flagged (set s m 2) i)
    states i (yes e) = (
      ap (λ (x : ℕ). eqb x 1) (ap (λ (x : ℕ). get_or s x 0) e ∙ zero_state) ∙ sym (ap (λ (x : ℕ). eqb x 1) (ap (λ (x : ℕ). get_or (set s m 2) x 0) e ∙ here)),
      ap (λ (b : Bool). b || flagged s i) (eq-eqb i m e) ∙ sym (ap (λ (x : ℕ). eqb x 2) (ap (λ (x : ℕ). get_or (set s m 2) x 0) e ∙ here)),
    )
    states i (no e) = (
      sym (ap (λ (x : ℕ). eqb x 1) (get_or-set_other s m i 2 0 e)),
      ap (λ (b : Bool). b || flagged s i) (ne_eqb i m e) ∙ sym (ap (λ (x : ℕ). eqb x 2) (get_or-set_other s m i 2 0 e)),
    )

    premiums : (i : ℕ) → i < size g → T (safe g i) → P i ≡ premium g (set s m 2) i
    premiums i hi si =
        shift false (has i (square g m)) (k.kept i)
        ∙ ap₂ (λ p b. p -ℤ pos 0 +ℤ pos (bit b)) (k.exact i hi si) (square_sym g i m hi h)
        ∙ sym (premium_flag g s m h f.long u t i si)

    same : closed_safe g s ≡ closed_safe g (set s m 2)
    same =
        count_ext (λ i. safe g i && unopened s i) (λ i. safe g i && unopened (set s m 2) i) (cells g)
        (λ i v. and_under (safe g i) (unopened s i) (unopened (set s m 2) i) (λ w. ap (λ (x : ℕ). not (eqb x 1)) (sym (flag_stays g s m i t w))))

    done : Models g (set s m 2) (n + 1) (by false)
    done =
        record {
          kept = P;
          board = board_ext g (opened s) (opened (set s m 2)) (λ i. eqb i m || flagged s i) (flagged (set s m 2)) P P (by false).cells
              (λ i hi. (states i (ℕ_discrete i m)).0) (λ i hi. (states i (ℕ_discrete i m)).1) (λ i hi. refl)
              (board_square g (opened s) (λ i. eqb i m || flagged s i) k.kept (change with_flagged st.cells m) m (pos 1) h (board_flagged g (opened s) (flagged s) k.kept st.cells m k.board));
          exact = premiums;
          clicks = ap (λ (x : ℕ). x + 1) k.clicks;
          left = k.left ∙ ap (λ (x : ℕ). x + count (mine g) (cells g)) same;
        }
