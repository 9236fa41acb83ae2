-- Waiting cells taken one after another, until none waits: the opening is labelled. Assumes nothing.
use Prim.Native.Nat.{ℕ, ◌*◌, ◌+◌, ◌<◌, ◌≤◌}
use native.Mathlib.Omega.{arith}
use native.Mathlib.Decide.{ℕ_discrete, dec_le}
use mathlib.Core.Path.{◌∙◌, ◌≡◌, ap, refl, subst, sym}
use mathlib.Core.Logic.{◌⊎◌, inl, inr, ⊎_elim}
use mathlib.Core.Bool.{Bool, false, true}
use mathlib.Core.List.{List}
use lib.IntN.{pos, ℤ}
use lib.ListN.{get_or, set}
use lib.Seq.{get_or-set_other, get_or-set_same}
use Rattle.area.specs.Numbers.{HasCells, first_at, first_place, content_at, natural, waiting_at, waiting_place}
use Rattle.game.specs.Grid.{Grid, size}
use Rattle.labels.specs.Labels.{free_of, fresh_cell}
use Rattle.labels.specs.Spread.{Change, ClearFrom, Reach, Shut, here}
use Rattle.waiting.specs.Waits.{InSquare, Newly, Pushed, Visitable, Waited, Waiting}
use Rattle.game.proofs.Squares.{in-own-square, square→}
use Rattle.labels.proofs.Changes.{change_from, content_stays, contents_stay, reach_last, reach_trans, side_then, stays, then_side, trans_change}
use Rattle.labels.proofs.Edges.{fresh_no, fresh_yes}
use Rattle.labels.proofs.Frees.{free_few, free_le}
use Rattle.waiting.proofs.Stacks.{newly_reached, place_change, pushed_wait}
use Rattle.labels.proofs.Borders.{opened_not}

-- the work area w, w₀ before, while top cells wait: each newly labelled 0-cell waits or has its square visited
pub record Spreading (g : Grid) (k : ℕ → ℕ) (op i : ℕ) (w₀ w : List ℤ) (top : ℕ) : Type 0 where
  pub change : Change g k op i w₀ w
  pub places : top + free_of (size g) w ≤ size g
  pub stack : (t : ℕ) → t < top → Reach g k i (waiting_at w t)
  pub closed : (x : ℕ) → Newly g k w₀ w x → Waiting w 0 top x ⊎ Shut g k op w₀ w x
  pub self : i < size g → k i ≡ 1 → 1 ≤ first_at w i
  pub clear : ClearFrom g 0 w₀ → ClearFrom g top w

module _ (g : Grid) (op : ℕ) (o : 1 ≤ op) (i : ℕ) where
  -- the first cell waits, if it is a 0-cell without label
  pub spread_first : (w₀ w : List ℤ) (top : ℕ) → HasCells w₀ (size g) → Waited (size g) op i 0 w₀ top w → Spreading g (content_at w₀) op i w₀ w top
  spread_first w₀ w top room v = go (fresh_cell (size g) w₀ i) refl
    where
      go : (b : Bool) → fresh_cell (size g) w₀ i ≡ b → Spreading g (content_at w₀) op i w₀ w top
      go true e =
          let f = fresh_yes (size g) w₀ i true (sym e) refl in
          let few = free_few (size g) w₀ in
          let p = pushed_wait g op o i i w₀ (here f.inside f.zero-cell) room w i 0 top (λ h. in-own-square g i h) (omega arith) v in
          record {
            change = p.change;
            places = omega (arith, p.free);
            stack = λ t h. newly_reached g (content_at w₀) op o i w₀ w p.change (waiting_at w t) (p.waits t (omega arith) h);
            closed = λ x n. inl (p.new x n);
            self = λ h z. (p.sides i h (record { is = refl; zero-cell = z })).zero-cell z;
            clear = λ c t a h. p.above t a ∙ c t (omega arith) h;
          }
      go false e =
          let n = fresh_no (size g) w₀ i false (sym e) refl in
          let q = opened_not g op o w₀ i n in
          let p = v.none n in
          rw (p.0, p.1) (record {
            change = q.change;
            places = omega (arith, free_few (size g) w₀);
            stack = λ t h. absurd (omega arith);
            closed = λ x n. absurd (omega (arith, n.before, n.after));
            self = q.self;
            clear = q.clear;
          })

  -- the last that waits is taken, and its square is visited
  pub spread_more : (w₀ w w1 w2 : List ℤ) (s top : ℕ) → HasCells w (size g) → Spreading g (content_at w₀) op i w₀ w (s + 1) → w1 ≡ set w (waiting_place s) (pos 0)
      → Pushed g (content_at w1) op (waiting_at w s) (InSquare g (waiting_at w s)) w1 s w2 top → Spreading g (content_at w₀) op i w₀ w2 top
  spread_more w₀ w w1 w2 s top room p q1 v1 =
      let k = content_at w₀ in
      let x = waiting_at w s in
      let hs : s < size g = omega (arith, p.places) in
      let c1 : Change g k op i w w1 = rw q1 (place_change g k op o i w s (pos 0) hs) in
      let c01 = trans_change g k op o i w₀ w w1 p.change c1 in
      let v : Pushed g k op x (InSquare g x) w1 s w2 top =
      subst (λ (m : ℕ → ℕ). Pushed g m op x (InSquare g x) w1 s w2 top) (contents_stay g k op o i w₀ w1 c01) v1 in
      let rx = p.stack s (omega arith) in
      let hx = (reach_last g k rx).0 in
      let c2 = change_from g k op o w1 w2 (λ _ _. rx) v.change in
      let first_same : (y : ℕ) → first_at w1 y ≡ first_at w y = λ y. rw q1 (ap natural (get_or-set_other w (waiting_place s) (first_place y) (pos 0) (pos 0) (λ e. omega arith))) in
      let wait_same : (t : ℕ) → (t ≡ s → ⊥) → get_or w1 (waiting_place t) (pos 0) ≡ get_or w (waiting_place t) (pos 0) =
      λ t n. rw q1 (get_or-set_other w (waiting_place s) (waiting_place t) (pos 0) (pos 0) (λ e. n (omega arith))) in
      let kept : (t : ℕ) → t < s → waiting_at w2 t ≡ waiting_at w t = λ t h. ap natural (v.kept t h ∙ wait_same t (λ e. omega arith)) in
      record {
        change = trans_change g k op o i w₀ w1 w2 c01 c2;
        places = omega (arith, v.free, free_le g k op o i w w1 c1, p.places);
        stack = λ t h. elim (dec_le s t) [
          | yes l ↦ reach_trans g k rx (newly_reached g k op o x w1 w2 v.change (waiting_at w2 t) (v.waits t l h))
          | no l ↦ rw (kept t (omega arith)) (p.stack t (omega arith))
        ];
        closed = λ y n. elim (ℕ_discrete (first_at w1 y) 0) [
          | yes e ↦
              let m = v.new y (record { inside = n.inside; zero-cell = n.zero-cell; before = e; after = n.after }) in
              inl (record { place = m.place; from_top = omega arith; below = m.below; is = m.is })
          | no e ↦ ⊎_elim
              (λ (m : Waiting w 0 (s + 1) y). elim (ℕ_discrete m.place s) [
                | yes d ↦ inr (λ u t.
                    let xy : x ≡ y = ap (waiting_at w) (sym d) ∙ m.is in
                    let hu = (square→ g y u n.inside t).0 in
                    then_side g k op o i w₀ w1 w2 u hu c01 (v.sides u hu (record { beside = rw xy t })))
                | no d ↦ inl (record {
                  place = m.place;
                  from_top = omega arith;
                  below = omega (arith, m.below, v.grows);
                  is = kept m.place (omega (arith, m.below)) ∙ m.is;
                })
              ])
              (λ m. inr (λ u t. let hu = (square→ g y u n.inside t).0 in
              side_then g k op o i w₀ w w2 u hu (m u t) (trans_change g k op o i w w1 w2 c1 c2)))
              (p.closed y (record { inside = n.inside; zero-cell = n.zero-cell; before = n.before; after = omega (arith, first_same y) }))
        ];
        self = λ h z. stays g k op o i w1 w2 c2 i h (omega (arith, first_same i, p.self h z));
        clear = λ c t a h. v.above t a ∙ elim (ℕ_discrete t s) [
          | yes d ↦ rw (d, q1) (get_or-set_same w (waiting_place s) (pos 0) (pos 0) (omega arith))
          | no d ↦ wait_same t d ∙ p.clear c t (omega (arith, v.grows)) h
        ];
      }

  -- ---- the cell taken

  module _ (w₀ w w1 : List ℤ) (s : ℕ) (p : Spreading g (content_at w₀) op i w₀ w (s + 1)) (q : w1 ≡ set w (waiting_place s) (pos 0)) where
    taken_change : Change g (content_at w₀) op i w w1
    taken_change = rw q (place_change g (content_at w₀) op o i w s (pos 0) (omega (arith, p.places)))

    pub taken_visitable : Visitable (size g) (content_at w1) (waiting_at w s) s w1
    taken_visitable =
        let x = waiting_at w s in
        let l = reach_last g (content_at w₀) (p.stack s (omega arith)) in
        record {
          inside = l.0;
          zero-cell = content_stays g (content_at w₀) op o i w w1 taken_change x ∙ content_stays g (content_at w₀) op o i w₀ w p.change x ∙ l.1;
          places = omega (arith, p.places, free_le g (content_at w₀) op o i w w1 taken_change);
        }

    -- fewer 0-cells are left, or fewer wait
    pub taken_less : (P : ℕ → Type 0) (x : ℕ) (w2 : List ℤ) (top : ℕ) → Pushed g (content_at w1) op x P w1 s w2 top
        → 2 * free_of (size g) w2 + top < 2 * free_of (size g) w + (s + 1)
    taken_less P x w2 top v =
        omega (arith, v.free, free_le g (content_at w1) op o x w1 w2 v.change, free_le g (content_at w₀) op o i w w1 taken_change)
