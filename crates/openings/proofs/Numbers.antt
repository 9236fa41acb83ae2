-- The work area with the openings so far: cell after cell it holds the places of the openings that hold it. Assumes nothing.
use Prim.Native.Nat.{ℕ, ◌*◌, ◌+◌, ◌<◌, ◌≤◌, suc, zero}
use native.Mathlib.Omega.{arith}
use native.Mathlib.Nat.{add-zero}
use mathlib.Core.Path.{◌∙◌, ◌≡◌, ap, refl, subst, sym}
use mathlib.Core.Logic.{◌⊎◌, inl, inr, ⊎_elim}
use mathlib.Core.Bool.{Bool, ◌&&◌, false, not, true}
use mathlib.Core.List.{List, [], ◌++◌, ◌∷◌}
use borrow.Author.Tests.{eq-eqb, eqb-true}
use lib.Dec.{T, T_not, eqb}
use lib.IntN.{pos, ℤ}
use lib.ListN.{get_or, length, length-append}
use Rattle.area.specs.Numbers.{HasCells, content_at, first_at, first_place, natural, second_at, second_place}
use Rattle.area.specs.Stages.{content, labelled_five, loaded_five}
use Rattle.game.specs.Area.{laid}
use Rattle.game.specs.Early.{met}
use Rattle.game.specs.Grid.{Grid, size, zero_cell}
use Rattle.game.specs.Lists.{has, range, some_of}
use Rattle.game.specs.Openings.{Joined, gather, holds, joined_to, labels, openings, places}
use Rattle.labels.specs.Labels.{edge_first, fresh_of, shaped}
use Rattle.openings.specs.Numbering.{Begun, Contained, Labelling, Numbered, part_five}
use Rattle.labels.specs.Spread.{OpeningLabelled}
use Rattle.labels.proofs.Changes.{content_stays}
use Rattle.labels.proofs.Frees.{fresh_test, fresh_yes?, unlabelled_before}
use Rattle.game.proofs.Areas.{laid_at, laid_length, laid_only, laid_past}
use Rattle.game.proofs.Chains.{joined_last, joined_sym}
use Rattle.game.proofs.Members.{fold_inv, fold_more, has_range}
use Rattle.game.proofs.Openings.{Good, In, good_gather, good_none}
use Rattle.game.proofs.Truth.{and_both, and_left, and_right, no→false}
use Rattle.game.proofs.Zeros.{Zero}
use Rattle.openings.proofs.Exact.{exact_no, exact_yes, narrow_size, one→zero, zero→one}
use Rattle.openings.proofs.Places.{earlier, first_after, places_held, places_not, second_after, zero_labelled}

part_length : (g : Grid) (os : List (List ℕ)) (i : ℕ) → length (part_five g os i) ≡ 5
unfolding part_five
part_length g os i = refl

-- before the first opening, and after the last
part_none : (g : Grid) (n : ℕ) (old : List ℤ) → laid (loaded_five g) n old ≡ laid (part_five g []) n old
unfolding part_five loaded_five
part_none g n old = refl

part_all : (g : Grid) (old : List ℤ) → laid (part_five g (openings g)) (size g) old ≡ laid (labelled_five g) (size g) old
unfolding part_five labelled_five labels
part_all g old = refl

each_slot : (P : ℕ → Type 0) → P 0 → P 1 → P 2 → P 3 → P 4 → (s : ℕ) → s < 5 → P s
each_slot P a b c d e zero h = a
each_slot P a b c d e (suc zero) h = b
each_slot P a b c d e (suc (suc zero)) h = c
each_slot P a b c d e (suc (suc (suc zero))) h = d
each_slot P a b c d e (suc (suc (suc (suc zero)))) h = e
each_slot P a b c d e (suc (suc (suc (suc (suc s))))) h = absurd (omega arith)

-- ---- a work area that has the first columns of a grid

module _ (g : Grid) (columns : ℕ) (os : List (List ℕ)) (old w : List ℤ) (is : w ≡ laid (part_five g os) (g.rows * columns) old) where
  slot : (j s : ℕ) → j < g.rows * columns → s < 5 → get_or w (5 * j + s) (pos 0) ≡ get_or (part_five g os j) s (pos 0)
  slot j s h l = ap (λ (x : List ℤ). get_or x (5 * j + s) (pos 0)) is ∙ laid_at (part_five g os) (part_length g os) (g.rows * columns) old j s h l

  pub contents : (j : ℕ) → j < g.rows * columns → content_at w j ≡ content g j
  unfolding part_five
  contents j h = ap natural (slot j 2 h (omega arith))

  first_slot : (j : ℕ) → j < g.rows * columns → get_or w (first_place j) (pos 0) ≡ pos (get_or (places g j 1 os) 0 0)
  unfolding part_five
  first_slot j h = ap (λ (m : ℕ). get_or w m (pos 0)) (sym (add-zero (first_place j))) ∙ slot j 0 h (omega arith)

  pub firsts : (j : ℕ) → j < g.rows * columns → first_at w j ≡ get_or (places g j 1 os) 0 0
  firsts j h = ap natural (first_slot j h)

  seconds : (j : ℕ) → j < g.rows * columns → second_at w j ≡ get_or (places g j 1 os) 1 0
  unfolding part_five
  seconds j h = ap natural (slot j 1 h (omega arith))

  module _ (good-os : Good g os) where
    module _ (x : ℕ) (h : x < g.rows * columns) (z : Zero g x) where
      -- a 0-cell has no label exactly if it is in none of the openings so far
      pub fresh_out : eqb (first_at w x) 0 ≡ not (some_of (has x) os)
      fresh_out = ap (λ (m : ℕ). eqb m 0) (firsts x h) ∙ zero_labelled g x 0 os z good-os.full

      out : (In x os → ⊥) → first_at w x ≡ 0
      out f = eqb-true (first_at w x) 0 (fresh_out ∙ ap not (no→false (some_of (has x) os) f))

      not_in : first_at w x ≡ 0 → T (not (some_of (has x) os))
      not_in e = rw (← fresh_out, eq-eqb (first_at w x) 0 e) tt

    -- one cell more is looked at
    module _ (i : ℕ) (hi : i < g.rows * columns) (w' : List ℤ) (r : ℕ) (room : HasCells old (g.rows * columns))
        (b : Begun (shaped g.rows columns) (content_at w) (length os) i w r w') (c : Contained g columns w') where
      module _ (z : Zero g i) (n : In i os → ⊥) (q : OpeningLabelled (shaped g.rows columns) (content_at w) (length os + 1) i w w') where
        free : (x : ℕ) → x < g.rows * columns → Joined g i x → first_at w x ≡ 0
        free x h j = out x h (joined_last g i x j) (λ t. n (good-os.whole x i t (joined_sym g i x j)))

        os' : List (List ℕ)
        os' = os ++ (joined_to g i ∷ [])

        new_labels : (j : ℕ) → j < g.rows * columns → (d : Bool) → holds g j (joined_to g i) ≡ d
            → (get_or w' (first_place j) (pos 0) ≡ pos (get_or (places g j 1 os') 0 0)) × (get_or w' (second_place j) (pos 0) ≡ pos (get_or (places g j 1 os') 1 0))
        unfolding os' part_five
        new_labels j h true e =
            let d = exact_yes g columns (length os + 1) i w w' contents q c hi z free j h (rw e tt) in
            let p = places_held g j os (joined_to g i) e in (
              d.one ∙ ap pos (ap (edge_first (length os + 1)) (firsts j h) ∙ first_after (length os + 1) (places g j 1 os) (earlier g j os) ∙ ap (λ (l : List ℕ). get_or l 0 0) (sym p)),
              d.two ∙ ap pos (cc (firsts j h, seconds j h, second_after (length os + 1) (places g j 1 os) (earlier g j os), p)),
            )
        new_labels j h false e =
            let d = exact_no g columns (length os + 1) i w w' contents q c hi z free j h (λ t. subst T e t) in
            let p = places_not g j os (joined_to g i) e in (
              d.one ∙ first_slot j h ∙ ap (λ (l : List ℕ). pos (get_or l 0 0)) (sym p),
              d.two ∙ slot j 1 h (omega arith) ∙ ap (λ (l : List ℕ). pos (get_or l 1 0)) (sym p),
            )

        part_new : w' ≡ laid (part_five g os') (g.rows * columns) old
        unfolding part_five
        part_new =
            laid_only (part_five g os') (part_length g os') (g.rows * columns) old w' room
            (q.change.long ∙ ap length is ∙ laid_length (part_five g os) (part_length g os) (g.rows * columns) old room)
            (λ j s h l. each_slot (λ s. get_or w' (5 * j + s) (pos 0) ≡ get_or (part_five g os' j) s (pos 0))
            (ap (λ (m : ℕ). get_or w' m (pos 0)) (add-zero (first_place j)) ∙ (new_labels j h (holds g j (joined_to g i)) refl).0) (new_labels j h (holds g j (joined_to g i)) refl).1
            (q.change.contents j h ∙ slot j 2 h (omega arith))
            (q.change.states j h ∙ slot j 3 h (omega arith))
            (q.clear (λ x a d. slot x 4 d (omega arith)) j (omega arith) h) s l)
            (λ x h. q.change.past x h ∙ ap (λ (l : List ℤ). get_or l x (pos 0)) is ∙ laid_past (part_five g os) (part_length g os) (g.rows * columns) old x h)

      part_more : (r ≡ length (gather g os i)) × (w' ≡ laid (part_five g (gather g os i)) (g.rows * columns) old)
      unfolding os'
      part_more = go (zero_cell g i && not (some_of (has i) os)) refl
        where
          in-grid : i < size g
          in-grid = omega (arith, narrow_size g columns w' c)

          new : Bool → List (List ℕ)
          new d = elim d [ true ↦ os ++ (joined_to g i ∷ []) | false ↦ os ]

          go : (d : Bool) → (zero_cell g i && not (some_of (has i) os)) ≡ d → (r ≡ length (new d)) × (w' ≡ laid (part_five g (new d)) (g.rows * columns) old)
          go true e =
              let t : T (zero_cell g i && not (some_of (has i) os)) = rw e tt in
              let z : Zero g i = record { inside = in-grid; none = and_left (zero_cell g i) (not (some_of (has i) os)) t } in
              let n : In i os → ⊥ = λ u. T_not (some_of (has i) os) (and_right (zero_cell g i) (not (some_of (has i) os)) t) u in
              let f = b.fresh (contents i hi ∙ zero→one g i z) (out i hi z n) in
              (f.0 ∙ sym (length-append os (joined_to g i ∷ [])), part_new z n f.1)
          go false e =
              let f = b.none (λ p q.
              let z = one→zero g i in-grid (sym (contents i hi) ∙ p) in
              subst T e (and_both (zero_cell g i) (not (some_of (has i) os)) z.none (not_in i hi z q))) in
              (f.0, f.1 ∙ is)

-- ---- labels and contents stay

-- an opening was labelled as the next after n, from the cell i on, or nothing changed
abbrev pub MayLabel : Grid → ℕ → ℕ → List ℤ → List ℤ → Type 0
MayLabel g n i w w' = OpeningLabelled g (content_at w) (n + 1) i w w' ⊎ (w' ≡ w)

may_label : (g : Grid) (n i r : ℕ) (w w' : List ℤ) → Begun g (content_at w) n i w r w' → MayLabel g n i w w'
may_label g n i r w w' b = go (fresh_of w i) refl
  where
    go : (d : Bool) → fresh_of w i ≡ d → MayLabel g n i w w'
    go true e = let t = fresh_yes? w i (rw e tt) in inl (b.fresh t.0 t.1).1
    go false e = inr (b.none (λ p q. subst T (sym (fresh_test w i p q) ∙ e) tt)).1

pub past_stays : (g : Grid) (n i : ℕ) (w w' : List ℤ) → MayLabel g n i w w' → (x : ℕ) → first_place (size g) ≤ x → get_or w' x (pos 0) ≡ get_or w x (pos 0)
past_stays g n i w w' q x h = ⊎_elim (λ l. l.change.past x h) (λ e. ap (λ (v : List ℤ). get_or v x (pos 0)) e) q

-- what is contained after an opening was labelled was so before
pub contained_before : (g : Grid) (columns n i : ℕ) (w w' : List ℤ) → MayLabel (shaped g.rows columns) n i w w' → Contained g columns w' → Contained g columns w
contained_before g columns n i w w' q c =
    ⊎_elim (λ l. ⊎_elim inl (λ k. inr (k.0, λ x e o. before l x (k.1 x e (stays l x ∙ o)))) c) (λ e. subst (Contained g columns) e c) q
  where
    before : OpeningLabelled (shaped g.rows columns) (content_at w) (n + 1) i w w' → (x : ℕ) → first_at w' x ≡ 0 → first_at w x ≡ 0
    before l = unlabelled_before (shaped g.rows columns) (content_at w) (n + 1) (omega arith) i w w' l.change

    stays : OpeningLabelled (shaped g.rows columns) (content_at w) (n + 1) i w w' → (x : ℕ) → content_at w' x ≡ content_at w x
    stays l = content_stays (shaped g.rows columns) (content_at w) (n + 1) (omega arith) i w w' l.change

-- ---- the openings gathered up to a cell

pub good_met : (g : Grid) (i : ℕ) → i ≤ size g → Good g (met g i)
good_met g i h =
    fold_inv (Good g) (gather g) (range 0 i) (λ os x t p. good_gather g os x (omega (arith, (has_range 0 i x t).1)) p) [] (good_none g)

-- the work area has the openings met below i, and so many they are
abbrev Holds : Grid → ℕ → ℕ → ℕ → List ℤ → List ℤ → Type 0
Holds g columns i count old w = (count ≡ length (met g i)) × (w ≡ laid (part_five g (met g i)) (g.rows * columns) old)

met_more : (g : Grid) (columns i count r : ℕ) (old w w' : List ℤ) → i < g.rows * columns → HasCells old (g.rows * columns)
    → Begun (shaped g.rows columns) (content_at w) count i w r w' → Contained g columns w' → (Contained g columns w → Holds g columns i count old w)
    → Holds g columns (i + 1) r old w'
met_more g columns i count r old w w' h room b c p =
    let q = p (contained_before g columns count i w w' (may_label (shaped g.rows columns) count i r w w' b) c) in
    rw (fold_more (gather g) [] 0 i (omega arith))
    (part_more g columns (met g i) old w q.1 (good_met g i (omega (arith, narrow_size g columns w' c))) i h w' r room (rw (← q.0) b) c)

module _ (rows columns : ℕ) (w₀ : List ℤ) where
  pub numbered_none : Numbered rows columns w₀ 0 0 w₀
  numbered_none =
      record { inside = omega arith; few = omega arith; long = refl; past = λ x h. refl; parts = λ g old er room is c. (refl, is ∙ part_none g (rows * columns) old) }

  pub numbered_more : (i count r : ℕ) (w w' : List ℤ) → Numbered rows columns w₀ i count w → i < rows * columns
      → Begun (shaped rows columns) (content_at w) count i w r w' → Numbered rows columns w₀ (i + 1) r w'
  numbered_more i count r w w' n h b =
      record {
        inside = omega arith;
        few = omega (arith, b.few, n.few);
        long = b.long ∙ n.long;
        past = λ x k. past_stays (shaped rows columns) count i w w' (may_label (shaped rows columns) count i r w w' b) x k ∙ n.past x k;
        parts = λ g old er room is c.
            rw (← er) (met_more g columns i count r old w w' (rw er h) (rw er room) (rw er b) c (λ s. rw (← er) at (n.parts g old er room is s)));
      }

  pub numbered_all : (count : ℕ) (w : List ℤ) → Numbered rows columns w₀ (rows * columns) count w → Labelling rows columns w₀ count w
  unfolding openings
  numbered_all count w n g old er ec room is =
      let e : rows * columns ≡ size g = rw (er, ec) refl in
      let p : Holds g g.columns (size g) count old w = rw e at (n.parts g old er (rw e room) (rw e is) (inl (sym ec))) in
      (p.0, p.1 ∙ part_all g old)
