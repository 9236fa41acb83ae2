-- A cell visited on the work area, by its three cases; there stay places for all that may yet wait. Assumes nothing.
use Prim.Native.Nat.{ℕ, ◌*◌, ◌+◌, ◌-◌, ◌<◌, ◌≤◌}
use native.Mathlib.Omega.{arith}
use native.Mathlib.Decide.{ℕ_discrete}
use mathlib.Core.Path.{◌∙◌, ◌≡◌, ap, refl, subst, sym}
use mathlib.Core.Bool.{Bool, ◌&&◌, cond, false, true}
use mathlib.Core.List.{List, [], ◌∷◌}
use lib.Dec.{T, eqb, eqb→eq}
use lib.IntN.{ℤ}
use lib.ListN.{length}
use Rattle.area.specs.Numbers.{HasCell, HasCells, content_at, grid_of, natural, put_state, put_waiting, state_at, state_place, waiting_at, waiting_place}
use Rattle.area.specs.Squares.{square_of}
use Rattle.area.specs.Stages.{Shape}
use Rattle.game.specs.Lists.{bit, fold, has, range}
use Rattle.area.proofs.Cells.{cells_few}
use Rattle.area.proofs.Puts.{put_here, put_length, put_there}
use Rattle.game.proofs.Counts.{count_drop, count_ext, count_le, count_one}
use Rattle.game.proofs.Members.{fold_inv, has_cases, length_from, range_has}
use Rattle.game.proofs.Orders.{once_range}
use Rattle.game.proofs.Squares.{square→}
use Rattle.game.proofs.Truth.{T→true}
use Rattle.spread.specs.Spreads.{Fits, Spreading, closed_cells, now_spread, opens, visited}
use borrow.Author.Tests.{eq-eqb, ne_eqb}

-- ---- the three cases

pub visit_still : (w : List ℤ) (top n i state : ℕ) → state ≡ state_at w i → (state ≡ 0 → ⊥) → now_spread w top n ≡ visited (now_spread w top n) i
unfolding visited
visit_still w top n i state e f =
    sym (ap (λ (b : Bool). cond b (opens (now_spread w top n) i) (now_spread w top n)) (ne_eqb (state_at w i) 0 (λ q. f (e ∙ q))))

-- a closed cell is opened
visit_closed : (p : Spreading) (i : ℕ) → state_at p.work i ≡ 0 → visited p i ≡ opens p i
unfolding visited
visit_closed p i e = ap (λ (b : Bool). cond b (opens p i) p) (eq-eqb (state_at p.work i) 0 e)

module _ (w : List ℤ) (top n i state content : ℕ) (es : state ≡ state_at w i) (closed : state ≡ 0) (ec : content ≡ content_at w i) (w1 : List ℤ) (e1 : w1 ≡ put_state w i 1) where
  pub visit_number : (content ≡ 1 → ⊥) → now_spread w1 top (n + 1) ≡ visited (now_spread w top n) i
  visit_number f =
      ap (λ (v : List ℤ). now_spread v top (n + 1)) e1
      ∙ sym (visit_closed (now_spread w top n) i (sym es ∙ closed)
      ∙ ap (λ (b : Bool). cond b (now_spread (put_waiting (put_state w i 1) top i) (top + 1) (n + 1)) (now_spread (put_state w i 1) top (n + 1)))
      (ne_eqb (content_at w i) 1 (λ q. f (ec ∙ q))))

  pub visit_zero : (w2 : List ℤ) → w2 ≡ put_waiting w1 top i → content ≡ 1 → now_spread w2 (top + 1) (n + 1) ≡ visited (now_spread w top n) i
  visit_zero w2 e2 z =
      ap (λ (v : List ℤ). now_spread v (top + 1) (n + 1)) (e2 ∙ ap (λ (v : List ℤ). put_waiting v top i) e1)
      ∙ sym (visit_closed (now_spread w top n) i (sym es ∙ closed)
      ∙ ap (λ (b : Bool). cond b (now_spread (put_waiting (put_state w i 1) top i) (top + 1) (n + 1)) (now_spread (put_state w i 1) top (n + 1)))
      (eq-eqb (content_at w i) 1 (sym ec ∙ z)))

-- ---- what a visit leaves

-- as long as it was, with places for all that may yet wait; twice the closed cells, plus the cells that wait, do not rise
pub record Onward (n : ℕ) (p q : Spreading) : Type 0 where
  pub long : length q.work ≡ length p.work
  pub fits : Fits n q
  pub less : 2 * closed_cells n q.work + q.waiting ≤ 2 * closed_cells n p.work + p.waiting

-- nothing visited yet
pub onward_none : (n : ℕ) (p : Spreading) → Fits n p → Onward n p p
onward_none n p fits = record { long = refl; fits = fits; less = omega arith }

-- a closed cell among the first n is counted
pub closed_counted : (n : ℕ) (w : List ℤ) (i : ℕ) → i < n → state_at w i ≡ 0 → 1 ≤ closed_cells n w
unfolding closed_cells
closed_counted n w i h e =
    count_one (λ x. eqb (state_at w x) 0) i (range 0 n) (range_has 0 n i (omega arith) h) (subst T (sym (eq-eqb (state_at w i) 0 e)) tt)

-- one closed cell less
one_less : (n : ℕ) (w v : List ℤ) (i : ℕ) → i < n → state_at w i ≡ 0 → state_at v i ≡ 1 → ((x : ℕ) → (x ≡ i → ⊥) → state_at v x ≡ state_at w x) → closed_cells n w ≡ closed_cells n v + 1
unfolding closed_cells
one_less n w v i h e f other =
    count_drop (λ x. eqb (state_at w x) 0) (λ x. eqb (state_at v x) 0) i (range 0 n) (once_range 0 n)
    (λ x q. ap (λ (k : ℕ). eqb k 0) (sym (other x q))) (ap (λ (k : ℕ). eqb k 0) f)
    ∙ ap (λ (k : ℕ). closed_cells n v + k) (ap (λ (b : Bool). bit (b && eqb (state_at w i) 0)) (T→true (has i (range 0 n)) (range_has 0 n i (omega arith) h))
    ∙ ap bit (eq-eqb (state_at w i) 0 e))

module _ (n : ℕ) (few : n ≤ 65025) (w : List ℤ) (top k : ℕ) (room : HasCells w n) (fits : Fits n (now_spread w top k)) (i : ℕ) (h : i < n) (e : state_at w i ≡ 0) where
  -- the cell opened, by its state and the others'
  opened_here : state_at (put_state w i 1) i ≡ 1
  opened_here = ap natural (put_here w (state_place i) 1 (state_place i) refl (omega arith) (omega arith))

  opened_there : (x : ℕ) → (x ≡ i → ⊥) → state_at (put_state w i 1) x ≡ state_at w x
  opened_there x q = ap natural (put_there w (state_place i) 1 (state_place x) (λ r. q (omega arith)))

  fewer : closed_cells n w ≡ closed_cells n (put_state w i 1) + 1
  fewer = one_less n w (put_state w i 1) i h e opened_here opened_there

  number_onward : Onward n (now_spread w top k) (now_spread (put_state w i 1) top (k + 1))
  number_onward =
      record {
        long = put_length w (state_place i) 1;
        fits = record {
          places = omega (arith, fewer, fits.places);
          few = omega (arith, fewer, fits.few);
          inside = λ t l. subst (λ (x : ℕ). x < n) (sym (ap natural (put_there w (state_place i) 1 (waiting_place t) (λ r. omega arith)))) (fits.inside t l);
        };
        less = omega (arith, fewer);
      }

  -- a cell put to wait changes no state
  waits_fewer : closed_cells n w ≡ closed_cells n (put_waiting (put_state w i 1) top i) + 1
  waits_fewer =
      one_less n w (put_waiting (put_state w i 1) top i) i h e (same i ∙ opened_here) (λ x q. same x ∙ opened_there x q)
    where
      same : (x : ℕ) → state_at (put_waiting (put_state w i 1) top i) x ≡ state_at (put_state w i 1) x
      same x = ap natural (put_there (put_state w i 1) (waiting_place top) i (state_place x) (λ r. omega arith))

  zero_onward : Onward n (now_spread w top k) (now_spread (put_waiting (put_state w i 1) top i) (top + 1) (k + 1))
  zero_onward =
      record {
        long = put_length (put_state w i 1) (waiting_place top) i ∙ put_length w (state_place i) 1;
        fits = record {
          places = omega (arith, waits_fewer, fits.places);
          few = omega (arith, waits_fewer, fits.few);
          inside = λ t l. elim (ℕ_discrete t top) [
            | yes q ↦ subst (λ (x : ℕ). x < n) (sym (new t q)) h
            | no q ↦ subst (λ (x : ℕ). x < n) (sym (old t q)) (fits.inside t (omega arith))
          ];
        };
        less = omega (arith, waits_fewer);
      }
    where
      new : (t : ℕ) → t ≡ top → waiting_at (put_waiting (put_state w i 1) top i) t ≡ i
      new t q =
          ap natural (put_here (put_state w i 1) (waiting_place top) i (waiting_place t) (ap waiting_place q)
          (omega (arith, put_length w (state_place i) 1, waits_fewer, fits.places)) (omega arith))

      old : (t : ℕ) → (t ≡ top → ⊥) → waiting_at (put_waiting (put_state w i 1) top i) t ≡ waiting_at w t
      old t q =
          ap natural (put_there (put_state w i 1) (waiting_place top) i (waiting_place t) (λ r. q (omega arith))
          ∙ put_there w (state_place i) 1 (waiting_place t) (λ r. omega arith))

pub visit_onward : (n : ℕ) → n ≤ 65025 → (p : Spreading) → HasCells p.work n → Fits n p → (i : ℕ) → i < n → Onward n p (visited p i)
unfolding visited
visit_onward n few p room fits i h = go (eqb (state_at w i) 0) refl (eqb (content_at w i) 1)
  where
    w : List ℤ
    w = p.work

    top : ℕ
    top = p.waiting

    go : (b : Bool) → eqb (state_at w i) 0 ≡ b → (z : Bool)
        → Onward n p (cond b (cond z (now_spread (put_waiting (put_state w i 1) top i) (top + 1) (p.opened + 1)) (now_spread (put_state w i 1) top (p.opened + 1))) p)
    go true q true = zero_onward n few w top p.opened room fits i h (eqb→eq (state_at w i) 0 (rw q tt))
    go true q false = number_onward n few w top p.opened room fits i h (eqb→eq (state_at w i) 0 (rw q tt))
    go false q z = onward_none n p fits

-- and so does a visit of each of some cells
visits_onward : (n : ℕ) → n ≤ 65025 → (p : Spreading) → HasCells p.work n → Fits n p → (xs : List ℕ) → ((x : ℕ) → T (has x xs) → x < n) → Onward n p (fold visited p xs)
visits_onward n few p room fits xs b =
    fold_inv (λ q. Onward n p q) visited xs (λ q x t o.
    let v = visit_onward n few q (omega (arith, o.long)) o.fits x (b x t) in
    record { long = v.long ∙ o.long; fits = v.fits; less = omega (arith, v.less, o.less) })
    p (onward_none n p fits)

module _ (rows columns : ℕ) (shape : Shape rows columns) (p q r : Spreading) (room : HasCells p.work (rows * columns)) (o : Onward (rows * columns) p q) where
  -- some cells more
  onward_more : (xs : List ℕ) → ((x : ℕ) → T (has x xs) → x < rows * columns) → r ≡ fold visited q xs → Onward (rows * columns) p r
  onward_more xs b e =
      let v = visits_onward (rows * columns) (cells_few rows columns shape) q (omega (arith, o.long)) o.fits xs b in
      rw e (record { long = v.long ∙ o.long; fits = v.fits; less = omega (arith, v.less, o.less) })

  -- one cell more
  pub onward_one : (i : ℕ) → i < rows * columns → r ≡ visited q i → Onward (rows * columns) p r
  onward_one i h e = onward_more (i ∷ []) (λ x t. has_cases x i [] (λ d. rw d h) (λ u. absurd u) t) e

-- what a visit asks for
pub visit_ready : (rows columns : ℕ) → Shape rows columns → (p : Spreading) (w : List ℤ) (top n : ℕ) → HasCells p.work (rows * columns) → Onward (rows * columns) p (now_spread w top n)
    → (i : ℕ) → i < rows * columns → (HasCell w i × (top ≤ 65025) × (n ≤ 65025)) × (state_at w i ≡ 0 → HasCell w top)
visit_ready rows columns shape p w top n room o i h =
    let f = o.fits in
    let few = cells_few rows columns shape in (
      (omega (arith, o.long), omega (arith, f.places), omega (arith, f.few)),
      λ e. omega (arith, f.places, closed_counted (rows * columns) w i h e, o.long),
    )

-- ---- the first cell, and a waiting cell taken

-- nothing waits yet
pub fits_first : (n : ℕ) (w : List ℤ) → Fits n (now_spread w 0 0)
unfolding closed_cells
fits_first n w =
    let a = count_le (λ i. eqb (state_at w i) 0) (range 0 n) in
    let b : length (range 0 n) ≡ n = omega (arith, length_from (n - 0) 0) in
    record { places = omega arith; few = omega arith; inside = λ t l. absurd (omega arith) }

-- a waiting cell's place cleared: no state changes
closed_taken : (n : ℕ) (w : List ℤ) (top : ℕ) → closed_cells n (put_waiting w top 0) ≡ closed_cells n w
unfolding closed_cells
closed_taken n w top =
    count_ext (λ i. eqb (state_at (put_waiting w top 0) i) 0) (λ i. eqb (state_at w i) 0) (range 0 n)
    (λ i t. ap (λ (v : ℤ). eqb (natural v) 0) (put_there w (waiting_place top) 0 (state_place i) (λ r. omega arith)))

-- those that still wait have their places
pub fits_taken : (n : ℕ) (w : List ℤ) (top k : ℕ) → Fits n (now_spread w (top + 1) k) → Fits n (now_spread (put_waiting w top 0) top k)
fits_taken n w top k f =
    let e = closed_taken n w top in
    record {
      places = omega (arith, f.places);
      few = omega (arith, f.few);
      inside = λ t l. subst (λ (x : ℕ). x < n) (sym (ap natural (put_there w (waiting_place top) 0 (waiting_place t) (λ r. omega arith)))) (f.inside t (omega arith));
    }

-- a turn: the last that waits is taken, its place cleared, its square visited
module _ (rows columns : ℕ) (shape : Shape rows columns) (w : List ℤ) (top k from : ℕ) (w1 : List ℤ) (room : HasCells w (rows * columns)) (fits : Fits (rows * columns) (now_spread w (top + 1) k))
    (ef : from ≡ waiting_at w top) (e1 : w1 ≡ put_waiting w top 0) where
  -- it is a cell
  pub taken_inside : from < rows * columns
  taken_inside = omega (arith, fits.inside top (omega arith))

  pub taken_fits : Fits (rows * columns) (now_spread w1 top k)
  taken_fits = rw e1 (fits_taken (rows * columns) w top k fits)

  pub taken_onward : (r : Spreading) → r ≡ fold visited (now_spread w1 top k) (square_of rows columns from) → Onward (rows * columns) (now_spread w1 top k) r
  taken_onward r e =
      rw e (visits_onward (rows * columns) (cells_few rows columns shape) (now_spread w1 top k) (omega (arith, ap length e1, put_length w (waiting_place top) 0)) taken_fits (square_of rows columns from)
      (λ x t. (square→ (grid_of rows columns []) from x taken_inside t).0))

  -- fewer cells are closed, or fewer wait
  pub taken_less : (r : Spreading) → r ≡ fold visited (now_spread w1 top k) (square_of rows columns from)
      → 2 * closed_cells (rows * columns) r.work + r.waiting < 2 * closed_cells (rows * columns) w + (top + 1)
  taken_less r e =
      omega (arith, (taken_onward r e).less, ap (closed_cells (rows * columns)) e1, closed_taken (rows * columns) w top)
