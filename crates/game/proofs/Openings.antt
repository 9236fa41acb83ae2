-- The computed openings are the largest sets of joined 0-cells, each 0-cell in one of them. Assumes nothing.
use Prim.Native.Nat.{ℕ, ◌<◌, suc, zero}
use native.Mathlib.Omega.{arith}
use native.Mathlib.Decide.{dec_le}
use mathlib.Core.Path.{refl, subst}
use mathlib.Core.Logic.{◌⊎◌, inl, inr, ⊎_elim}
use mathlib.Core.Bool.{Bool, ◌&&◌, false, not, true}
use mathlib.Core.List.{List, [], ◌++◌, ◌∷◌}
use lib.Dec.{T, T_not, eqb, eqb→eq}
use Rattle.game.specs.Grid.{Grid, cells, size, square, zero_cell}
use Rattle.game.specs.Lists.{Each, again, count, fold, has, some_of}
use Rattle.game.specs.Openings.{Chain, Joined, chained_to, gather, grow, itself, joined_to, onward, openings}
use Rattle.game.proofs.Chains.{Passes, chain_close, chain_first, chain_last, chain_trans, joined_last, joined_sym, joined_trans, zero_passes}
use Rattle.game.proofs.Counts.{count_le, count_one, count_same}
use Rattle.game.proofs.Members.{fold_inv, has_head, has_keep, keep_has, some_yes, yes_some}
use Rattle.game.proofs.Orders.{Ordered, ordered_keep, ordered_range}
use Rattle.game.proofs.Squares.{Close, cells→, close_sym, length_cells, self_close, square→, →cells, →square}
use Rattle.game.proofs.Truth.{and_both, and_left, and_right, or_cases, or_left, or_right}
use Rattle.game.proofs.Zeros.{Zero}

-- ---- one turn of `grow`

pub members : Grid → List ℕ → ℕ
members g js = count (λ k. has k js) (cells g)

module _ (g : Grid) (p : ℕ → Bool) where
  grow→ : (js : List ℕ) (k : ℕ) → T (has k (grow g p js)) → (j : ℕ) × T (has j js) × Passes g p k × Close g k j
  unfolding grow
  grow→ js k t =
      let a = keep_has (λ k. p k && some_of (λ j. has j (square g k)) js) k (cells g) t in
      let h = cells→ g k a.0 in
      let b = yes_some (λ j. has j (square g k)) js (and_right (p k) (some_of (λ j. has j (square g k)) js) a.1) in
      (b.0, b.1, record { inside = h; test = and_left (p k) (some_of (λ j. has j (square g k)) js) a.1 }, (square→ g k b.0 h b.2).1)

  →grow : (js : List ℕ) (j k : ℕ) → T (has j js) → j < size g → Passes g p k → Close g k j → T (has k (grow g p js))
  unfolding grow
  →grow js j k t hj z c =
      has_keep (λ k. p k && some_of (λ j. has j (square g k)) js) k (cells g) (→cells g k z.inside)
      (and_both (p k) (some_of (λ j. has j (square g k)) js) z.test
      (some_yes (λ j. has j (square g k)) j js t (→square g k j z.inside hj c)))

  -- a set of cells that chains join to z
  Chained : ℕ → List ℕ → Type 0
  Chained z js = (k : ℕ) → T (has k js) → Chain g p z k

  chained_grow : (z : ℕ) (js : List ℕ) → Chained z js → Chained z (grow g p js)
  unfolding Chained
  chained_grow z js h k t =
      let a = grow→ js k t in
      let j = h a.0 a.1 in
      chain_trans g p z a.0 k j (chain_close g p a.0 k (chain_last g p z a.0 j) a.2 (close_sym g k a.0 a.3))

  chained : (z : ℕ) → Passes g p z → (n : ℕ) → Chained z (again (grow g p) n (z ∷ []))
  unfolding Chained
  chained z h zero k t =
      ⊎_elim (λ e. rw (eqb→eq k z e) (itself h.inside h.test)) (λ r. absurd r) (or_cases (eqb k z) (has k []) t)
  chained z h (suc n) k t = chained_grow z (again (grow g p) n (z ∷ [])) (chained z h n) k t

  -- such a set grows, and stays as it is once it does not
  grow_more : (z : ℕ) (js : List ℕ) → Chained z js → (k : ℕ) → T (has k js) → T (has k (grow g p js))
  unfolding Chained
  grow_more z js h k t =
      let zk = chain_last g p z k (h k t) in
      →grow js k k t zk.inside zk (self_close g k)

  grow_mono : (js ks : List ℕ) → ((k : ℕ) → T (has k js) → T (has k ks)) → ((k : ℕ) → T (has k ks) → k < size g) → (k : ℕ) → T (has k (grow g p js)) → T (has k (grow g p ks))
  grow_mono js ks m s k t =
      let a = grow→ js k t in
      →grow ks a.0 k (m a.0 a.1) (s a.0 (m a.0 a.1)) a.2 a.3

  Fixed : List ℕ → Type 0
  Fixed js = (k : ℕ) → T (has k (grow g p js)) → T (has k js)

  fixed_grow : (z : ℕ) (js : List ℕ) → Chained z js → Fixed js → Fixed (grow g p js)
  unfolding Fixed Chained
  fixed_grow z js c f k t =
      grow_mono (grow g p js) js f (λ i u. (chain_last g p z i (c i u)).inside) k t

  -- after n turns the set is fixed or has more than n cells
  turns : (z : ℕ) → Passes g p z → (n : ℕ) → Fixed (again (grow g p) n (z ∷ [])) ⊎ (n < members g (again (grow g p) n (z ∷ [])))
  unfolding Fixed members
  turns z h zero = inr (count_one (λ k. has k (z ∷ [])) z (cells g) (→cells g z h.inside) (has_head z z [] refl))
  turns z h (suc n) = go (turns z h n)
    where
      js : List ℕ
      js = again (grow g p) n (z ∷ [])

      c : Chained z js
      c = chained z h n

      go : Fixed js ⊎ (n < members g js) → Fixed (grow g p js) ⊎ (suc n < members g (grow g p js))
      go (inl f) = inl (fixed_grow z js c f)
      go (inr l) =
          elim (dec_le (members g (grow g p js)) (members g js)) [
            | yes e ↦ inl (fixed_grow z js c (λ k t.
                count_same (λ k. has k js) (λ k. has k (grow g p js)) (cells g) (grow_more z js c) e k
                (→cells g k (grow→ js k t).2.inside) t))
            | no f ↦ inr (omega arith)
          ]

  fixed : (z : ℕ) → Passes g p z → Fixed (chained_to g p z)
  unfolding chained_to members
  fixed z h =
      ⊎_elim (λ f. f) (λ l. absurd (omega (arith, l, count_le (λ k. has k (chained_to g p z)) (cells g), length_cells g))) (turns z h (size g))

  -- ---- the computed set is the set of the cells that chains join to z

  pub chained_to→ : (z k : ℕ) → Passes g p z → T (has k (chained_to g p z)) → Chain g p z k
  unfolding chained_to Chained
  chained_to→ z k h t = chained z h (size g) k t

  chain_stays : (z : ℕ) → Passes g p z → (n : ℕ) → T (has z (again (grow g p) n (z ∷ [])))
  chain_stays z h zero = has_head z z [] refl
  chain_stays z h (suc n) = grow_more z (again (grow g p) n (z ∷ [])) (chained z h n) z (chain_stays z h n)

  pub →chainedTo : (z k : ℕ) → Chain g p z k → T (has k (chained_to g p z))
  unfolding chained_to Fixed
  →chainedTo z k (itself h n) = chain_stays z (record { inside = h; test = n }) (size g)
  →chainedTo z k (onward {b = b} j t n) =
      let zz = chain_first g p z b j in
      let zb = chain_last g p z b j in
      let s = square→ g b k zb.inside t in
      fixed z zz k (→grow (chained_to g p z) b k (→chainedTo z b j) zb.inside (record { inside = s.0; test = n }) (close_sym g b k s.1))

-- ---- of 0-cells

pub joined_to→ : (g : Grid) (z k : ℕ) → Zero g z → T (has k (joined_to g z)) → Joined g z k
joined_to→ g z k h t = chained_to→ g (zero_cell g) z k (zero_passes g z h) t

pub →joinedTo : (g : Grid) (z k : ℕ) → Joined g z k → T (has k (joined_to g z))
→joinedTo g z k j = →chainedTo g (zero_cell g) z k j

-- ---- the list of openings

-- a is in one of the sets
abbrev pub In : ℕ → List (List ℕ) → Type 0
In a os = T (some_of (has a) os)

in-snoc : (a : ℕ) (os : List (List ℕ)) (o : List ℕ) → In a (os ++ (o ∷ [])) → In a os ⊎ T (has a o)
in-snoc a [] o t = ⊎_elim (λ h. inr h) (λ n. absurd n) (or_cases (has a o) false t)
in-snoc a (p ∷ os) o t =
    ⊎_elim (λ h. inl (or_left (has a p) (some_of (has a) os) h))
    (λ r. ⊎_elim (λ h. inl (or_right (has a p) (some_of (has a) os) h)) (λ h. inr h) (in-snoc a os o r))
    (or_cases (has a p) (some_of (has a) (os ++ (o ∷ []))) t)

snoc_old : (a : ℕ) (os : List (List ℕ)) (o : List ℕ) → In a os → In a (os ++ (o ∷ []))
snoc_old a [] o t = absurd t
snoc_old a (p ∷ os) o t =
    ⊎_elim (λ h. or_left (has a p) (some_of (has a) (os ++ (o ∷ []))) h)
    (λ r. or_right (has a p) (some_of (has a) (os ++ (o ∷ []))) (snoc_old a os o r))
    (or_cases (has a p) (some_of (has a) os) t)

snoc_new : (a : ℕ) (os : List (List ℕ)) (o : List ℕ) → T (has a o) → In a (os ++ (o ∷ []))
snoc_new a [] o t = or_left (has a o) false t
snoc_new a (p ∷ os) o t = or_right (has a p) (some_of (has a) (os ++ (o ∷ []))) (snoc_new a os o t)

-- no cell of one set is joined to a cell of a later one
abbrev pub Apart : Grid → List (List ℕ) → Type 0
Apart g [] = Unit {0}
Apart g (o ∷ os) = ((a b : ℕ) → T (has a o) → In b os → Joined g a b → ⊥) × Apart g os

apart_snoc : (g : Grid) (os : List (List ℕ)) (o : List ℕ) → Apart g os → ((a b : ℕ) → In a os → T (has b o) → Joined g a b → ⊥) → Apart g (os ++ (o ∷ []))
apart_snoc g [] o p h = ((λ a b s t j. t), tt)
apart_snoc g (q ∷ os) o p h = (
  (λ a b s t j. ⊎_elim (λ u. p.0 a b s u j) (λ u. h a b (or_left (has a q) (some_of (has a) os) s) u j) (in-snoc b os o t)),
  apart_snoc g os o p.1 (λ a b s t. h a b (or_right (has a q) (some_of (has a) os) s) t),
)

-- a largest set of joined 0-cells, lowest first
pub record Full (g : Grid) (o : List ℕ) : Type 0 where
  pub zero-cell : (a : ℕ) → T (has a o) → Zero g a
  pub joined_in : (a b : ℕ) → T (has a o) → Joined g a b → T (has b o)
  pub linked : (a b : ℕ) → T (has a o) → T (has b o) → Joined g a b
  pub in_order : Ordered ◌<◌ o
  pub begun : (a : ℕ) × T (has a o)

each_snoc : (P : List ℕ → Type 0) (os : List (List ℕ)) (o : List ℕ) → Each P os → P o → Each P (os ++ (o ∷ []))
each_snoc P [] o e p = (p, tt)
each_snoc P (q ∷ os) o e p = (e.0, each_snoc P os o e.1 p)

pub ordered_joined_to : (g : Grid) (z : ℕ) → Ordered ◌<◌ (joined_to g z)
unfolding chained_to grow
ordered_joined_to g z = go (size g)
  where
    go : (n : ℕ) → Ordered ◌<◌ (again (grow g (zero_cell g)) n (z ∷ []))
    go zero = ((λ y t. absurd t), tt)
    go (suc n) =
        ordered_keep ◌<◌ (λ k. zero_cell g k && some_of (λ j. has j (square g k)) (again (grow g (zero_cell g)) n (z ∷ []))) (cells g) (ordered_range 0 (size g))

full_joined_to : (g : Grid) (i : ℕ) → Zero g i → Full g (joined_to g i)
full_joined_to g i z =
    record {
      zero-cell = λ a t. joined_last g i a (joined_to→ g i a z t);
      joined_in = λ a b t j. →joinedTo g i b (joined_trans g i a b (joined_to→ g i a z t) j);
      linked = λ a b t u. joined_trans g a i b (joined_sym g i a (joined_to→ g i a z t)) (joined_to→ g i b z u);
      in_order = ordered_joined_to g i;
      begun = (i, →joinedTo g i i (itself z.inside z.none));
    }

-- what holds of the openings gathered so far
pub record Good (g : Grid) (os : List (List ℕ)) : Type 0 where
  pub full : Each (Full g) os
  pub apart : Apart g os
  pub zeros : (a : ℕ) → In a os → Zero g a
  pub whole : (a b : ℕ) → In a os → Joined g a b → In b os

add-one-opening : (g : Grid) (os : List (List ℕ)) (i : ℕ) → Zero g i → (In i os → ⊥) → Good g os → Good g (os ++ (joined_to g i ∷ []))
add-one-opening g os i z n h =
    record {
      full = each_snoc (Full g) os (joined_to g i) h.full (full_joined_to g i z);
      apart = apart_snoc g os (joined_to g i) h.apart
          (λ a b s t j. n (h.whole a i s (joined_trans g a b i j (joined_sym g i b (joined_to→ g i b z t)))));
      zeros = λ a t. ⊎_elim (λ u. h.zeros a u) (λ u. joined_last g i a (joined_to→ g i a z u)) (in-snoc a os (joined_to g i) t);
      whole = λ a b t j.
          ⊎_elim (λ u. snoc_old b os (joined_to g i) (h.whole a b u j))
          (λ u. snoc_new b os (joined_to g i) (→joinedTo g i b (joined_trans g i a b (joined_to→ g i a z u) j)))
          (in-snoc a os (joined_to g i) t);
    }

pub good_gather : (g : Grid) (os : List (List ℕ)) (i : ℕ) → i < size g → Good g os → Good g (gather g os i)
good_gather g os i h p = go (zero_cell g i && not (some_of (has i) os)) (λ t. t)
  where
    go : (b : Bool) → (T b → T (zero_cell g i && not (some_of (has i) os))) → Good g (elim b [ true ↦ os ++ (joined_to g i ∷ []) | false ↦ os ])
    go true f =
        add-one-opening g os i (record { inside = h; none = and_left (zero_cell g i) (not (some_of (has i) os)) (f tt) })
        (λ t. T_not (some_of (has i) os) (and_right (zero_cell g i) (not (some_of (has i) os)) (f tt)) t) p
    go false f = p

pub good_none : (g : Grid) → Good g []
good_none g = record { full = tt; apart = tt; zeros = λ a t. absurd t; whole = λ a b t j. absurd t }

pub good : (g : Grid) → Good g (openings g)
unfolding openings
good g = fold_inv (Good g) (gather g) (cells g) (λ os i t p. good_gather g os i (cells→ g i t) p) [] (good_none g)

-- every 0-cell is in an opening
pub gather_old : (g : Grid) (os : List (List ℕ)) (i a : ℕ) → In a os → In a (gather g os i)
gather_old g os i a t = go (zero_cell g i && not (some_of (has i) os))
  where
    go : (b : Bool) → In a (elim b [ true ↦ os ++ (joined_to g i ∷ []) | false ↦ os ])
    go true = snoc_old a os (joined_to g i) t
    go false = t

pub gather_new : (g : Grid) (os : List (List ℕ)) (i : ℕ) → Zero g i → In i (gather g os i)
gather_new g os i z = go (some_of (has i) os) (λ t. t) (zero_cell g i) z.none
  where
    go : (b : Bool) → (T b → In i os) → (c : Bool) → T c → In i (elim (c && not b) [ true ↦ os ++ (joined_to g i ∷ []) | false ↦ os ])
    go true f true t = f tt
    go false f true t = snoc_new i os (joined_to g i) (→joinedTo g i i (itself z.inside z.none))
    go b f false t = absurd t

fold_old : (g : Grid) (xs : List ℕ) (os : List (List ℕ)) (a : ℕ) → In a os → In a (fold (gather g) os xs)
fold_old g [] os a t = t
fold_old g (x ∷ xs) os a t = fold_old g xs (gather g os x) a (gather_old g os x a t)

fold_new : (g : Grid) (xs : List ℕ) (os : List (List ℕ)) (a : ℕ) → Zero g a → T (has a xs) → In a (fold (gather g) os xs)
fold_new g [] os a z t = absurd t
fold_new g (x ∷ xs) os a z t =
    ⊎_elim (λ e. fold_old g xs (gather g os x) a (subst (λ (k : ℕ). In a (gather g os k)) (eqb→eq a x e) (gather_new g os a z)))
    (λ r. fold_new g xs (gather g os x) a z r) (or_cases (eqb a x) (has a xs) t)

pub covered : (g : Grid) (a : ℕ) → Zero g a → In a (openings g)
unfolding openings
covered g a z = fold_new g (cells g) [] a z (→cells g a z.inside)
