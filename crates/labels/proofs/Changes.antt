-- Changes of the work area while an opening is labelled: how they follow one another, and that fewer 0-cells are left. Assumes nothing.
use Prim.Native.Nat.{ℕ, ◌<◌, ◌≤◌}
use native.Mathlib.Omega.{arith}
use native.Mathlib.Decide.{ℕ_discrete, dec_le}
use mathlib.Core.Path.{◌∙◌, ◌≡◌, ap, fun_ext, refl, sym}
use mathlib.Core.Logic.{inl, inr, ⊎_elim}
use mathlib.Core.List.{List}
use lib.Dec.{T}
use lib.IntN.{pos, ℤ}
use Rattle.area.specs.Numbers.{HasCell, HasCells, first_at, first_place, content_at, content_place, natural, second_at, second_place, state_place}
use Rattle.game.specs.Grid.{Grid, size, square}
use Rattle.game.specs.Lists.{has}
use Rattle.labels.specs.Labels.{edge_first, edge_second, put_label}
use Rattle.labels.specs.Spread.{Change, Closed, Edge, Reach, Same, Side, here, next}
use Rattle.game.proofs.Squares.{square→}
use Rattle.labels.proofs.Edges.{first_some, first_twice, labelled_first, labelled_long, labelled_other, labelled_second, second_twice}

module _ (g : Grid) (k : ℕ → ℕ) where
  pub reach_first : {a b : ℕ} → Reach g k a b → (a < size g) × (k a ≡ 1)
  reach_first (here h e) = (h, e)
  reach_first (next r t e) = reach_first r

  pub reach_last : {a b : ℕ} → Reach g k a b → (b < size g) × (k b ≡ 1)
  reach_last (here h e) = (h, e)
  reach_last {b = c} (next {b = b} r t e) = ((square→ g b c (reach_last r).0 t).0, e)

  pub reach_trans : {a b c : ℕ} → Reach g k a b → Reach g k b c → Reach g k a c
  reach_trans r (here h e) = r
  reach_trans r (next q t e) = next (reach_trans r q) t e

-- ---- one cell, two changes

module _ (op : ℕ) (o : 1 ≤ op) (w w1 w2 : List ℤ) (i : ℕ) where
  same-same : Same w w1 i → Same w1 w2 i → Same w w2 i
  same-same s t = record { one = t.one ∙ s.one; two = t.two ∙ s.two }

  same-edge : Same w w1 i → Edge op w1 w2 i → Edge op w w2 i
  same-edge s t = record { one = t.one ∙ cc s.one; two = t.two ∙ cc (s.one, s.two) }

  edge_same : Edge op w w1 i → Same w1 w2 i → Edge op w w2 i
  edge_same s t = record { one = t.one ∙ s.one; two = t.two ∙ s.two }

  edge_edge : Edge op w w1 i → Edge op w1 w2 i → Edge op w w2 i
  edge_edge s t =
      let p : first_at w1 i ≡ edge_first op (first_at w i) = ap natural s.one in
      let q : second_at w1 i ≡ edge_second op (first_at w i) (second_at w i) = ap natural s.two in
      record {
        one = t.one ∙ ap (λ (a : ℕ). pos (edge_first op a)) p ∙ ap pos (first_twice op o (first_at w i));
        two = t.two ∙ ap (λ (a : ℕ). pos (edge_second op a (second_at w1 i))) p ∙ ap (λ (b : ℕ). pos (edge_second op (edge_first op (first_at w i)) b)) q
            ∙ ap pos (second_twice op o (first_at w i) (second_at w i));
      }

  pub edge_some : Edge op w w1 i → 1 ≤ first_at w1 i
  edge_some s = let p : first_at w1 i ≡ edge_first op (first_at w i) = ap natural s.one in omega (arith, first_some op o (first_at w i))

same_first : (w w1 : List ℤ) (i : ℕ) → Same w w1 i → first_at w1 i ≡ first_at w i
same_first w w1 i s = ap natural s.one

module _ (g : Grid) (k : ℕ → ℕ) (op : ℕ) (o : 1 ≤ op) where
  pub refl_change : (from : ℕ) (w : List ℤ) → Change g k op from w w
  refl_change from w =
      record { long = refl; cells = λ i h. inl (record { one = refl; two = refl }); states = λ i h. refl; contents = λ i h. refl; past = λ x h. refl }

  -- a change from a cell is one from each cell that reaches it
  pub change_from : {a b : ℕ} (w w1 : List ℤ) → (b < size g → k b ≡ 1 → Reach g k a b) → Change g k op b w w1 → Change g k op a w w1
  change_from w w1 r c =
      record {
        long = c.long;
        cells = λ i h. ⊎_elim (λ s. inl s) (λ t. inr (record {
          edge = t.edge;
          fresh = t.fresh;
          source = t.source;
          reached = let f = reach_first g k t.reached in reach_trans g k (r f.0 f.1) t.reached;
          beside = t.beside;
        })) (c.cells i h);
        states = c.states;
        contents = c.contents;
        past = c.past;
      }

  pub trans_change : (from : ℕ) (w w1 w2 : List ℤ) → Change g k op from w w1 → Change g k op from w1 w2 → Change g k op from w w2
  trans_change from w w1 w2 c d =
      record {
        long = d.long ∙ c.long;
        cells = λ i h.
            ⊎_elim
            (λ s. ⊎_elim
            (λ t. inl (same-same op o w w1 w2 i s t))
            (λ t. inr (record {
              edge = same-edge op o w w1 w2 i s t.edge;
              fresh = λ e. sym (same_first w w1 i s) ∙ t.fresh e;
              source = t.source;
              reached = t.reached;
              beside = t.beside;
            }))
            (d.cells i h))
            (λ s.
            let e : Edge op w w2 i = ⊎_elim (λ t. edge_same op o w w1 w2 i s.edge t) (λ t. edge_edge op o w w1 w2 i s.edge t.edge) (d.cells i h) in
            inr (record { edge = e; fresh = s.fresh; source = s.source; reached = s.reached; beside = s.beside }))
            (c.cells i h);
        states = λ i h. d.states i h ∙ c.states i h;
        contents = λ i h. d.contents i h ∙ c.contents i h;
        past = λ x h. d.past x h ∙ c.past x h;
      }

  -- a label stays
  pub stays : (from : ℕ) (w w1 : List ℤ) → Change g k op from w w1 → (i : ℕ) → i < size g → 1 ≤ first_at w i → 1 ≤ first_at w1 i
  stays from w w1 c i h e =
      ⊎_elim (λ s. let q = same_first w w1 i s in omega arith) (λ s. edge_some op o w w1 w1 i s.edge) (c.cells i h)

  -- contents stay
  pub content_stays : (from : ℕ) (w w1 : List ℤ) → Change g k op from w w1 → (i : ℕ) → content_at w1 i ≡ content_at w i
  content_stays from w w1 c i =
      elim (dec_le (size g) i) [
        | yes h ↦ ap natural (c.past (content_place i) (omega arith))
        | no h ↦ ap natural (c.contents i (omega arith))
      ]

  pub contents_stay : (from : ℕ) (w w1 : List ℤ) → Change g k op from w w1 → content_at w1 ≡ content_at w
  contents_stay from w w1 c = fun_ext (content_stays from w w1 c)

  -- ---- a side, before and after a change

  pub edge_then : (from : ℕ) (w w1 w2 : List ℤ) (y : ℕ) → y < size g → Edge op w w1 y → Change g k op from w1 w2 → Edge op w w2 y
  edge_then from w w1 w2 y h e d =
      ⊎_elim (λ t. edge_same op o w w1 w2 y e t) (λ t. edge_edge op o w w1 w2 y e t.edge) (d.cells y h)

  pub side_then : (from : ℕ) (w w1 w2 : List ℤ) (y : ℕ) → y < size g → Side k op w w1 y → Change g k op from w1 w2 → Side k op w w2 y
  side_then from w w1 w2 y h s d =
      record {
        zero-cell = λ e. stays from w1 w2 d y h (s.zero-cell e);
        edge = λ e. edge_then from w w1 w2 y h (s.edge e) d;
      }

  pub then_side : (from : ℕ) (w w1 w2 : List ℤ) (y : ℕ) → y < size g → Change g k op from w w1 → Side k op w1 w2 y → Side k op w w2 y
  then_side from w w1 w2 y h c s =
      record {
        zero-cell = s.zero-cell;
        edge = λ e. ⊎_elim (λ t. same-edge op o w w1 w2 y t (s.edge e)) (λ t. edge_edge op o w w1 w2 y t.edge (s.edge e)) (c.cells y h);
      }

  pub closed_then : (a b : ℕ) (w w1 w2 : List ℤ) → Change g k op a w w1 → Closed g k op w w1 → Change g k op b w1 w2 → Closed g k op w1 w2 → Closed g k op w w2
  closed_then a b w w1 w2 c p d q x h e f l y t =
      let hy = (square→ g x y h t).0 in
      elim (ℕ_discrete (first_at w1 x) 0) [
        | yes r ↦ then_side a w w1 w2 y hy c (q x h e r l y t)
        | no r ↦ side_then b w w1 w2 y hy (p x h e f (omega arith) y t) d
      ]

  -- ---- one label put

  pub label_change : (from source : ℕ) (w : List ℤ) (at : ℕ) → at < size g → HasCells w (size g) → (k at ≡ 1 → first_at w at ≡ 0)
      → Reach g k from source → T (has at (square g source)) → Change g k op from w (put_label w at op)
  label_change from source w at h room f r t =
      record {
        long = labelled_long w at op;
        cells = λ i l.
            elim (ℕ_discrete i at) [
              | yes e ↦ inr (rw e (record {
                edge = label_edge w at (omega arith);
                fresh = f;
                source = source;
                reached = r;
                beside = t;
              }))
              | no n ↦ inl (record {
                one = labelled_other w at op (first_place i) (λ e. n (omega arith)) (λ e. omega arith);
                two = labelled_other w at op (second_place i) (λ e. omega arith) (λ e. n (omega arith));
              })
            ];
        states = λ i l. labelled_other w at op (state_place i) (λ e. omega arith) (λ e. omega arith);
        contents = λ i l. labelled_other w at op (content_place i) (λ e. omega arith) (λ e. omega arith);
        past = λ x l. labelled_other w at op x (λ e. omega arith) (λ e. omega arith);
      }
    where
      label_edge : (w : List ℤ) (at : ℕ) → HasCell w at → Edge op w (put_label w at op) at
      label_edge w at h = record { one = labelled_first w at op h; two = labelled_second w at op h }
