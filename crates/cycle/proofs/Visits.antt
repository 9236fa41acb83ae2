-- The neighbours of a 0-cell one after another, each by a border label or by its own opening. Assumes nothing.
use Prim.Native.Nat.{ℕ, ◌%◌, ◌+◌, ◌/◌, ◌<◌, ◌≤◌}
use native.Mathlib.Omega.{arith}
use native.Mathlib.Decide.{ℕ_discrete}
use mathlib.Core.Path.{◌∙◌, ◌≡◌, ap, subst}
use mathlib.Core.List.{List}
use lib.Dec.{T}
use lib.IntN.{ℤ}
use Rattle.area.specs.Numbers.{HasCells, first_place, content_at, natural, waiting_place}
use Rattle.area.specs.Squares.{Neighbour}
use Rattle.game.specs.Grid.{Grid, size, square}
use Rattle.game.specs.Lists.{has}
use Rattle.labels.specs.Labels.{Fresh, bordered, free_of, put_label}
use Rattle.labels.specs.Spread.{Change, ClearFrom, Closed, OpeningLabelled, Side, here, next}
use Rattle.cycle.specs.Visits.{Visited, turn}
use Rattle.game.proofs.Squares.{in-own-square, square→, →square}
use Rattle.labels.proofs.Borders.{bordering}
use Rattle.labels.proofs.Changes.{change_from, closed_then, edge_some, edge_then, contents_stay, label_change, refl_change, side_then, stays, then_side, trans_change}
use Rattle.labels.proofs.Edges.{labelled_first, labelled_other, labelled_second}
use Rattle.labels.proofs.Frees.{free_le}

-- the neighbour number n of a 0-cell is one of its square, and the only one of that number
beside_of : (g : Grid) (i n r : ℕ) → i < size g → n < 9 → Neighbour g i (n / 3) (n % 3) r → r < size g → T (has r (square g i))
beside_of g i n r h l nb hr =
    let a = nb.row hr in
    let b = nb.column hr in
    →square g i r h hr (record { north = omega arith; south = omega arith; west = omega arith; east = omega arith })

only_of : (g : Grid) (i n r : ℕ) → i < size g → Neighbour g i (n / 3) (n % 3) r → (y : ℕ) → T (has y (square g i)) → turn g i y ≡ n → r ≡ y
only_of g i n r h nb y t e =
    let s = square→ g i y h t in
    let c = s.1 in
    nb.found y s.0 (omega (arith, c.north, c.south, c.west, c.east)) (omega (arith, c.north, c.south, c.west, c.east))

-- a square has nine cells
few_turns : (g : Grid) (i y : ℕ) → i < size g → T (has y (square g i)) → turn g i y < 9
few_turns g i y h t = let c = (square→ g i y h t).1 in omega (arith, c.north, c.south, c.west, c.east)

module _ (g : Grid) (op : ℕ) (o : 1 ≤ op) where
  pub visited_none : (w : List ℤ) (i : ℕ) → Visited g (content_at w) op i 0 w w
  visited_none w i =
      record {
        change = refl_change g (content_at w) op o i w;
        closed = λ x h e a b. absurd (omega arith);
        passed = λ y t a. absurd (omega arith);
        clear = λ c. c;
      }

  -- what one neighbour comes to
  pub record Stepped (i n : ℕ) (w w2 : List ℤ) : Type 0 where
    pub change : Change g (content_at w) op i w w2
    pub closed : Closed g (content_at w) op w w2
    pub side : (y : ℕ) → T (has y (square g i)) → turn g i y ≡ n → Side (content_at w) op w w2 y
    pub clear : ClearFrom g 0 w → ClearFrom g 0 w2

  pub stepped : (w w1 w2 : List ℤ) (i n at : ℕ) → i < size g → content_at w i ≡ 1 → n < 9 → HasCells w (size g) → Neighbour g i (n / 3) (n % 3) at
      → w1 ≡ bordered (size g) w at op → OpeningLabelled g (content_at w1) op at w1 w2 → Stepped i n w w2
  stepped w w1 w2 i n at h e l room nb q p1 =
      let k = content_at w in
      let b = bordering g op o i i at w w1 room (here h e) (beside_of g i n at h l nb) q in
      let p : OpeningLabelled g k op at w1 w2 = subst (λ (m : ℕ → ℕ). OpeningLabelled g m op at w1 w2) (contents_stay g k op o i w w1 b.change) p1 in
      let c : Change g k op i w1 w2 = change_from g k op o w1 w2 (λ ha ea. next (here h e) (beside_of g i n at h l nb ha) ea) p.change in
      record {
        change = trans_change g k op o i w w1 w2 b.change c;
        closed = closed_then g k op o i i w w1 w2 b.change (λ x hx ex u v. absurd (let s = b.quiet x ex in omega arith)) c p.closed;
        side = λ y t u.
            let hy = (square→ g i y h t).0 in
            let s : at ≡ y = only_of g i n at h nb y t u in
            subst (Side k op w w2) s (record {
              zero-cell = λ z. p.self (rw s hy) z;
              edge = λ f. edge_then g k op o i w w1 w2 at (rw s hy) (b.edge (rw s hy) f) c;
            });
        clear = λ f. p.clear (λ x a d. b.waits x ∙ f x a d);
      }

  -- some neighbours, and then one more
  pub visited_more : (w w2 w3 : List ℤ) (i n : ℕ) → i < size g → Visited g (content_at w) op i n w w2 → Stepped i n w2 w3 → Visited g (content_at w) op i (n + 1) w w3
  visited_more w w2 w3 i n h v s =
      let k = content_at w in
      let e : content_at w2 ≡ k = contents_stay g k op o i w w2 v.change in
      let c : Change g k op i w2 w3 = subst (λ (m : ℕ → ℕ). Change g m op i w2 w3) e s.change in
      record {
        change = trans_change g k op o i w w2 w3 v.change c;
        closed = closed_then g k op o i i w w2 w3 v.change v.closed c (subst (λ (m : ℕ → ℕ). Closed g m op w2 w3) e s.closed);
        passed = λ y t a.
            let hy = (square→ g i y h t).0 in
            elim (ℕ_discrete (turn g i y) n) [
              | yes q ↦ then_side g k op o i w w2 w3 y hy v.change (subst (λ (m : ℕ → ℕ). Side m op w2 w3 y) e (s.side y t q))
              | no f ↦ side_then g k op o i w w2 w3 y hy (v.passed y t (omega arith)) c
            ];
        clear = λ f. s.clear (v.clear f);
      }

  -- the cell itself, and then all its neighbours
  pub opened_all : (w w1 w2 : List ℤ) (i : ℕ) → HasCells w (size g) → Fresh (size g) w i → w1 ≡ put_label w i op
      → Visited g (content_at w1) op i 9 w1 w2 → OpeningLabelled g (content_at w) op i w w2
  opened_all w w1 w2 i room f q v1 =
      let k = content_at w in
      let h = f.inside in
      let m : Change g k op i w w1 = rw q (label_change g k op o i i w i h room (λ _. f.unlabelled) (here h f.zero-cell) (in-own-square g i h)) in
      let v : Visited g k op i 9 w1 w2 = subst (λ (m : ℕ → ℕ). Visited g m op i 9 w1 w2) (contents_stay g k op o i w w1 m) v1 in
      record {
        change = trans_change g k op o i w w1 w2 m v.change;
        closed = λ x hx ex u l y t.
            let hy = (square→ g x y hx t).0 in
            then_side g k op o i w w1 w2 y hy m (elim (ℕ_discrete x i) [
              | yes e ↦ let t1 = subst (λ (z : ℕ). T (has y (square g z))) e t in v.passed y t1 (few_turns g i y h t1)
              | no d ↦ v.closed x hx ex (rw q (ap natural (labelled_other w i op (first_place x) (λ r. d (omega arith)) (λ r. omega arith)) ∙ u)) l y t
            ]);
        self = λ _ _. stays g k op o i w1 w2 v.change i h
            (rw q (edge_some op o w (put_label w i op) w2 i (record { one = labelled_first w i op (omega arith); two = labelled_second w i op (omega arith) })));
        clear = λ c. v.clear (λ x a d. rw q (labelled_other w i op (waiting_place x) (λ r. omega arith) (λ r. omega arith) ∙ c x a d));
      }

  -- a border label leaves no more 0-cells without label
  pub border_free : (w w1 : List ℤ) (i n at : ℕ) → i < size g → content_at w i ≡ 1 → n < 9 → HasCells w (size g) → Neighbour g i (n / 3) (n % 3) at
      → w1 ≡ bordered (size g) w at op → free_of (size g) w1 ≤ free_of (size g) w
  border_free w w1 i n at h e l room nb q =
      free_le g (content_at w) op o i w w1 (bordering g op o i i at w w1 room (here h e) (beside_of g i n at h l nb) q).change
