-- Cells put to wait and taken again: each newly labelled 0-cell waits or has its square visited. Assumes nothing.
use Prim.Native.Nat.{ℕ, ◌+◌, ◌<◌, ◌≤◌}
use native.Mathlib.Omega.{arith}
use native.Mathlib.Decide.{ℕ_discrete, dec_le}
use mathlib.Core.Path.{◌∙◌, ◌≡◌, ap, refl, subst, sym}
use mathlib.Core.Logic.{◌⊎◌, inl, inr, ⊎_elim}
use mathlib.Core.Bool.{Bool, false, true}
use mathlib.Core.List.{List, [], ◌∷◌, ◌++◌}
use lib.Dec.{T}
use lib.IntN.{pos, ℤ}
use lib.ListN.{get_or, length-set, set}
use lib.Seq.{get_or-set_other, get_or-set_same}
use Rattle.area.specs.Numbers.{HasCells, first_at, first_place, content_at, content_place, natural, second_place, state_place, waiting_at, waiting_place}
use Rattle.game.specs.Grid.{Grid, size, square}
use Rattle.game.specs.Lists.{has}
use Rattle.game.specs.Openings.{places}
use Rattle.labels.specs.Labels.{Fresh, bordered, free_of, fresh_cell, put_label}
use Rattle.labels.specs.Spread.{Change, Reach, Side, here, next}
use Rattle.waiting.specs.Waits.{Newly, Pushed, Visitable, Waited}
use Rattle.game.proofs.Members.{has_append_cases, has_cases}
use Rattle.labels.proofs.Changes.{edge_some, content_stays, contents_stay, label_change, refl_change, side_then, stays, then_side, trans_change}
use Rattle.labels.proofs.Edges.{fresh_no, fresh_yes, labelled_first, labelled_long, labelled_other, labelled_second}
use Rattle.labels.proofs.Frees.{free_le, free_labelled, unlabelled_before}
use Rattle.labels.proofs.Borders.{bordering, opened_not}

module _ (g : Grid) (k : ℕ → ℕ) (op : ℕ) (o : 1 ≤ op) where
  -- a store where cells wait changes no label
  pub place_change : (from : ℕ) (w : List ℤ) (t : ℕ) (v : ℤ) → t < size g → Change g k op from w (set w (waiting_place t) v)
  place_change from w t v h =
      record {
        long = length-set w (waiting_place t) v;
        cells = λ i l. inl (record {
          one = get_or-set_other w (waiting_place t) (first_place i) v (pos 0) (λ e. omega arith);
          two = get_or-set_other w (waiting_place t) (second_place i) v (pos 0) (λ e. omega arith);
        });
        states = λ i l. get_or-set_other w (waiting_place t) (state_place i) v (pos 0) (λ e. omega arith);
        contents = λ i l. get_or-set_other w (waiting_place t) (content_place i) v (pos 0) (λ e. omega arith);
        past = λ x l. get_or-set_other w (waiting_place t) x v (pos 0) (λ e. omega arith);
      }

  -- a newly labelled 0-cell is joined to the first
  pub newly_reached : (from : ℕ) (w w1 : List ℤ) → Change g k op from w w1 → (x : ℕ) → Newly g k w w1 x → Reach g k from x
  newly_reached from w w1 c x n =
      ⊎_elim (λ s. absurd (let e : first_at w1 x ≡ first_at w x = ap natural s.one in omega (arith, n.before, n.after)))
      (λ t. next t.reached t.beside n.zero-cell) (c.cells x n.inside)

  -- what was visited, one part after the other
  pub pushed_trans : (from : ℕ) (P Q R : ℕ → Type 0) (w w1 w2 : List ℤ) (top top1 top2 : ℕ) → ((y : ℕ) → R y → P y ⊎ Q y)
      → Pushed g k op from P w top w1 top1 → Pushed g k op from Q w1 top1 w2 top2 → Pushed g k op from R w top w2 top2
  pushed_trans from P Q R w w1 w2 top top1 top2 f p q =
      record {
        change = trans_change g k op o from w w1 w2 p.change q.change;
        grows = omega (arith, p.grows, q.grows);
        free = omega (arith, p.free, q.free);
        kept = λ t h. q.kept t (omega (arith, p.grows)) ∙ p.kept t h;
        above = λ t h. q.above t h ∙ p.above t (omega (arith, q.grows));
        waits = λ t a b. elim (dec_le top1 t) [
          | yes h ↦
              let n = q.waits t h b in
              record {
                inside = n.inside;
                zero-cell = n.zero-cell;
                before = unlabelled_before g k op o from w w1 p.change (waiting_at w2 t) n.before;
                after = n.after;
              }
          | no h ↦
              let n = p.waits t a (omega arith) in
              let e : waiting_at w2 t ≡ waiting_at w1 t = ap natural (q.kept t (omega arith)) in
              rw e (record {
                inside = n.inside;
                zero-cell = n.zero-cell;
                before = n.before;
                after = stays g k op o from w1 w2 q.change (waiting_at w1 t) n.inside n.after;
              })
        ];
        new = λ x n. elim (ℕ_discrete (first_at w1 x) 0) [
          | yes e ↦
              let v = q.new x (record { inside = n.inside; zero-cell = n.zero-cell; before = e; after = n.after }) in
              record { place = v.place; from_top = omega (arith, v.from_top, p.grows); below = v.below; is = v.is }
          | no e ↦
              let v = p.new x (record { inside = n.inside; zero-cell = n.zero-cell; before = n.before; after = omega arith }) in
              record {
                place = v.place;
                from_top = v.from_top;
                below = omega (arith, v.below, q.grows);
                is = ap natural (q.kept v.place v.below) ∙ v.is;
              }
        ];
        sides = λ y h r. ⊎_elim (λ u. side_then g k op o from w w1 w2 y h (p.sides y h u) q.change)
            (λ u. then_side g k op o from w w1 w2 y h p.change (q.sides y h u)) (f y r);
      }

  -- nothing done
  pub pushed_still : (from : ℕ) (P : ℕ → Type 0) (w : List ℤ) (top : ℕ) → ((y : ℕ) → y < size g → P y → Side k op w w y) → Pushed g k op from P w top w top
  pushed_still from P w top f =
      record {
        change = refl_change g k op o from w;
        grows = omega arith;
        free = omega arith;
        kept = λ t h. refl;
        above = λ t h. refl;
        waits = λ t a b. absurd (omega arith);
        new = λ x n. absurd (omega (arith, n.before, n.after));
        sides = f;
      }

-- ---- one cell

-- the cell at, of number 1 or more; the cell at, a 0-cell
record Bordered (k : ℕ → ℕ) (at y : ℕ) : Type 0 where
  is : y ≡ at
  numbered : k at ≡ 1 → ⊥

pub record Zeroed (k : ℕ → ℕ) (at y : ℕ) : Type 0 where
  pub is : y ≡ at
  pub zero-cell : k at ≡ 1

module _ (g : Grid) (op : ℕ) (o : 1 ≤ op) (from source : ℕ) (w : List ℤ) (r : Reach g (content_at w) from source) (room : HasCells w (size g)) where
  pushed_border : (w1 : List ℤ) (at top : ℕ) → (at < size g → T (has at (square g source))) → w1 ≡ bordered (size g) w at op
      → Pushed g (content_at w) op from (Bordered (content_at w) at) w top w1 top
  pushed_border w1 at top t q =
      let b = bordering g op o from source at w w1 room r t q in
      record {
        change = b.change;
        grows = omega arith;
        free = omega (arith, free_le g (content_at w) op o from w w1 b.change);
        kept = λ x h. b.waits x;
        above = λ x h. b.waits x;
        waits = λ x a c. absurd (omega arith);
        new = λ x n. absurd (omega (arith, b.quiet x n.zero-cell, n.before, n.after));
        sides = λ y h p. rw p.is (record {
          zero-cell = λ e. absurd (p.numbered e);
          edge = λ e. b.edge (rw p.is at h) e;
        });
      }

  pub pushed_wait : (w1 : List ℤ) (at top top1 : ℕ) → (at < size g → T (has at (square g source))) → top + free_of (size g) w ≤ size g
      → Waited (size g) op at top w top1 w1 → Pushed g (content_at w) op from (Zeroed (content_at w) at) w top w1 top1
  pushed_wait w1 at top top1 t places q = go (fresh_cell (size g) w at) refl
    where
      new_at : Fresh (size g) w at → Pushed g (content_at w) op from (Zeroed (content_at w) at) w top (set (put_label w at op) (waiting_place top) (pos at)) (top + 1)
      new_at f =
          let m = put_label w at op in
          let w2 = set m (waiting_place top) (pos at) in
          let h = f.inside in
          let less = free_labelled (size g) op o w at room f in
          let ht : top < size g = omega arith in
          let c = label_change g (content_at w) op o from source w at h room (λ _. f.unlabelled) r (t h) in
          let d = place_change g (content_at w) op o from m top (pos at) ht in
          let fewer = free_le g (content_at w) op o from m w2 d in
          let there : waiting_at w2 top ≡ at = ap natural (get_or-set_same m (waiting_place top) (pos at) (pos 0) (omega (arith, labelled_long w at op))) in
          let first-at : 1 ≤ first_at w2 at =
          stays g (content_at w) op o from m w2 d at h (edge_some op o w m w2 at (record { one = labelled_first w at op (omega arith); two = labelled_second w at op (omega arith) })) in
          let away : (x : ℕ) → (x ≡ top → ⊥) → get_or w2 (waiting_place x) (pos 0) ≡ get_or w (waiting_place x) (pos 0) =
          λ x n. get_or-set_other m (waiting_place top) (waiting_place x) (pos at) (pos 0) (λ e. n (omega arith)) ∙ labelled_other w at op (waiting_place x) (λ e. omega arith) (λ e. omega arith) in
          let old : (x : ℕ) → (x ≡ at → ⊥) → first_at w2 x ≡ first_at w x =
          λ x n. ap natural (get_or-set_other m (waiting_place top) (first_place x) (pos at) (pos 0) (λ e. omega arith) ∙ labelled_other w at op (first_place x) (λ e. n (omega arith)) (λ e. omega arith)) in
          record {
            change = trans_change g (content_at w) op o from w m w2 c d;
            grows = omega arith;
            free = omega arith;
            kept = λ x l. away x (λ e. omega arith);
            above = λ x l. away x (λ e. omega arith);
            waits = λ x a b.
                let e : x ≡ top = omega arith in
                rw (e, there) (record { inside = h; zero-cell = f.zero-cell; before = f.unlabelled; after = first-at });
            new = λ x n. elim (ℕ_discrete x at) [
              | yes e ↦ record { place = top; from_top = omega arith; below = omega arith; is = there ∙ sym e }
              | no d ↦ absurd (omega (arith, old x d, n.before, n.after))
            ];
            sides = λ y l p. rw p.is (record { zero-cell = λ _. first-at; edge = λ e. absurd (e p.zero-cell) });
          }

      go : (b : Bool) → fresh_cell (size g) w at ≡ b → Pushed g (content_at w) op from (Zeroed (content_at w) at) w top w1 top1
      go true e =
          let f = fresh_yes (size g) w at true (sym e) refl in
          let p = q.fresh f in
          rw (p.0, p.1) (new_at f)
      go false e =
          let n = fresh_no (size g) w at false (sym e) refl in
          let p = q.none n in
          rw (p.0, p.1) (pushed_still g (content_at w) op o from (Zeroed (content_at w) at) w top (λ y h p. rw p.is (record {
            zero-cell = λ z. (opened_not g op o w at n).self (rw p.is at h) z;
            edge = λ z. absurd (z p.zero-cell);
          })))

-- one cell beside `from`: a border label or a place to wait
pub pushed_cell : (g : Grid) (op : ℕ) → 1 ≤ op → (from : ℕ) (w w1 w2 : List ℤ) (at top top1 : ℕ) → from < size g → content_at w from ≡ 1 → T (has at (square g from))
    → HasCells w (size g) → top + free_of (size g) w ≤ size g → w1 ≡ bordered (size g) w at op → Waited (size g) op at top w1 top1 w2
    → Pushed g (content_at w) op from (λ y. y ≡ at) w top w2 top1
pushed_cell g op o from w w1 w2 at top top1 h e t room places q v =
    let b = pushed_border g op o from from w (here h e) room w1 at top (λ _. t) q in
    let k1 = contents_stay g (content_at w) op o from w w1 b.change in
    let e1 : content_at w1 from ≡ 1 = content_stays g (content_at w) op o from w w1 b.change from ∙ e in
    let c = pushed_wait g op o from from w1 (here h e1) (omega (arith, b.change.long)) w2 at top top1 (λ _. t) (omega (arith, b.free)) v in
    pushed_trans g (content_at w) op o from (Bordered (content_at w) at) (Zeroed (content_at w) at) (λ y. y ≡ at) w w1 w2 top top top1
    (λ y i. elim (ℕ_discrete (content_at w at) 1) [ yes z ↦ inr (record { is = i; zero-cell = z }) | no z ↦ inl (record { is = i; numbered = z }) ])
    b (subst (λ (m : ℕ → ℕ). Pushed g m op from (Zeroed m at) w1 top w2 top1) k1 c)

-- a border label leaves places for those that may yet wait
pub border_places : (g : Grid) (op : ℕ) → 1 ≤ op → (from : ℕ) (w w1 : List ℤ) (at top : ℕ) → from < size g → content_at w from ≡ 1 → T (has at (square g from))
    → HasCells w (size g) → top + free_of (size g) w ≤ size g → w1 ≡ bordered (size g) w at op → top + free_of (size g) w1 ≤ size g
border_places g op o from w w1 at top h e t room places q =
    omega (arith, (pushed_border g op o from from w (here h e) room w1 at top (λ _. t) q).free)

module _ (g : Grid) (op : ℕ) (o : 1 ≤ op) (from : ℕ) where
  -- a part visited after others
  pub pushed_again : (P Q R : ℕ → Type 0) (w w1 w2 : List ℤ) (top top1 top2 : ℕ) → ((y : ℕ) → R y → P y ⊎ Q y)
      → Pushed g (content_at w) op from P w top w1 top1 → Pushed g (content_at w1) op from Q w1 top1 w2 top2 → Pushed g (content_at w) op from R w top w2 top2
  pushed_again P Q R w w1 w2 top top1 top2 f p q =
      pushed_trans g (content_at w) op o from P Q R w w1 w2 top top1 top2 f p
      (subst (λ (m : ℕ → ℕ). Pushed g m op from Q w1 top1 w2 top2) (contents_stay g (content_at w) op o from w w1 p.change) q)

  pub pushed_all : (P Q : ℕ → Type 0) (w w1 : List ℤ) (top top1 : ℕ) → ((y : ℕ) → y < size g → Q y → P y) → Pushed g (content_at w) op from P w top w1 top1
      → Pushed g (content_at w) op from Q w top w1 top1
  pushed_all P Q w w1 top top1 f p =
      record {
        change = p.change;
        grows = p.grows;
        free = p.free;
        kept = p.kept;
        above = p.above;
        waits = p.waits;
        new = p.new;
        sides = λ y h q. p.sides y h (f y h q);
      }

  pub visitable_again : (P : ℕ → Type 0) (w w1 : List ℤ) (top top1 : ℕ) → Pushed g (content_at w) op from P w top w1 top1
      → Visitable (size g) (content_at w) from top w → Visitable (size g) (content_at w1) from top1 w1
  visitable_again P w w1 top top1 p v =
      record {
        inside = v.inside;
        zero-cell = content_stays g (content_at w) op o from w w1 p.change from ∙ v.zero-cell;
        places = omega (arith, p.free, v.places);
      }

  -- before any cell of the square was passed
  pub none_passed : (w : List ℤ) (top : ℕ) → Pushed g (content_at w) op from (λ y. T (has y [])) w top w top
  none_passed w top = pushed_still g (content_at w) op o from (λ y. T (has y [])) w top (λ y h t. absurd t)

-- a cell passed is one passed before or the last
pub last_passed : (xs : List ℕ) (x y : ℕ) → T (has y (xs ++ (x ∷ []))) → T (has y xs) ⊎ (y ≡ x)
last_passed xs x y t = ⊎_elim (λ l. inl l) (λ r. has_cases y x [] (λ e. inr e) (λ u. absurd u) r) (has_append_cases y xs (x ∷ []) t)
