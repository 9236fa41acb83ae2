-- Safe cells revealed one after the other: each opens what it would open alone, for the 0-cells that one opens are a whole chained set. Assumes nothing.
use Prim.Native.Nat.{ℕ, ◌<◌}
use mathlib.Core.Path.{◌∙◌, ◌≡◌, ap, refl, subst, sym}
use mathlib.Core.Bool.{Bool, ◌||◌, cond, false, true}
use mathlib.Core.List.{List, [], ◌∷◌}
use lib.Dec.{T, eqb}
use lib.ListN.{get_or, length}
use Rattle.game.specs.Grid.{Grid, safe, size, square, zero_cell}
use Rattle.game.specs.Lists.{fold, has, some_of}
use Rattle.game.specs.Moves.{reveal}
use Rattle.game.specs.Openings.{Chain, itself, onward}
use Rattle.game.specs.Position.{Position, closed}
use Rattle.game.proofs.Chains.{chain_first, chain_last, chain_sym, chain_trans}
use Rattle.game.proofs.Members.{first_of, rest_of, some_same, some_yes, yes_some}
use Rattle.game.proofs.Opens.{OpenedFrom, OpensAt, Way, by_spread, click_opens, click_opens→, opens_safe, passed, reveal_at, the_cell, way_zero, →clickOpens}
use Rattle.game.proofs.Reveal.{reveal_fewer, reveal_length, zero_safe}
use Rattle.game.proofs.Truth.{and_both, and_left, and_right, cond_same, iff, no→false}

-- ---- what one click leaves closed, another opens as if the first had not been

-- a chain of another test, if each cell that the chain comes to passes that
chain_change : (g : Grid) (p q : ℕ → Bool) (a b : ℕ) → ((k : ℕ) → Chain g p a k → T (q k)) → Chain g p a b → Chain g q a b
chain_change g p q a b h (itself i t) = itself i (h a (itself i t))
chain_change g p q a b h (onward {b = m} c u t) = onward (chain_change g p q a m h c) u (h b (onward c u t))

-- the more safe cells are closed the more a click opens
pub opens_more : (g : Grid) (s t : Position) (y j : ℕ) → y < size g → j < size g → ((k : ℕ) → k < size g → T (safe g k) → T (closed s k) → T (closed t k))
    → OpenedFrom g s y j → OpenedFrom g t y j
opens_more g s t y j hy hj more o = record { is_safe = o.is_safe; is_closed = more y hy o.is_safe o.is_closed; opens = go o.opens }
  where
    there : T (closed s j) → T (closed t j)
    there = more j hj (opens_safe g s y j o.is_safe o.opens)

    way : (k : ℕ) → Way g s y k → T (passed g t k)
    way k c =
        let z = way_zero g s y k c in
        and_both (zero_cell g k) (closed t k) z.none
        (more k z.inside (zero_safe g k z) (and_right (zero_cell g k) (closed s k) (chain_last g (passed g s) y k c).test))

    go : OpensAt g s y j → OpensAt g t y j
    go (the_cell e u) = the_cell e (there u)
    go (by_spread z w u v) = by_spread z (chain_change g (passed g s) (passed g t) y z way w) u (there v)

module _ (g : Grid) (s : Position) (x y j : ℕ) (hx : x < size g) (hy : y < size g) (hj : j < size g) (l : length s ≡ size g) where
  -- what is closed stays closed unless x opens it
  closed_after : (k : ℕ) → k < size g → (OpenedFrom g s x k → ⊥) → T (closed s k) → T (closed (reveal g s x) k)
  closed_after k h n t =
      subst (λ (v : ℕ). T (eqb v 0))
      (sym (reveal_at g s x k hx h l ∙ ap (λ (b : Bool). cond b 1 (get_or s k 0)) (no→false (click_opens g s x k) (λ u. n (click_opens→ g s x k hx h u))))) t

  -- a closed 0-cell that x opens is at the end of a way from x
  way_to : (k : ℕ) → k < size g → T (passed g s k) → OpensAt g s x k → Way g s x k
  way_to k h t (the_cell e u) = subst (λ (a : ℕ). Way g s a k) e (itself h t)
  way_to k h t (by_spread z w u v) = onward w u t

  -- no cell of a way from y is opened by x, if x does not open what stands near its end
  way_apart : (z k : ℕ) → (OpenedFrom g s x j → ⊥) → Way g s y z → T (has j (square g z)) → T (closed s j) → Way g s y k → OpenedFrom g s x k → ⊥
  way_apart z k n w u v c o =
      let p = chain_last g (passed g s) y k c in
      let there = way_to k p.inside p.test o.opens in
      let back = chain_sym g (passed g s) y k c in
      let whole = chain_trans g (passed g s) x y z (chain_trans g (passed g s) x k y there back) w in
      n (record { is_safe = o.is_safe; is_closed = o.is_closed; opens = by_spread z whole u v })

  way_after : (z k : ℕ) → (OpenedFrom g s x j → ⊥) → Way g s y z → T (has j (square g z)) → T (closed s j) → Way g s y k → T (passed g (reveal g s x) k)
  way_after z k n w u v c =
      let p = chain_last g (passed g s) y k c in
      and_both (zero_cell g k) (closed (reveal g s x) k) (and_left (zero_cell g k) (closed s k) p.test)
      (closed_after k p.inside (way_apart z k n w u v c) (and_right (zero_cell g k) (closed s k) p.test))

  -- what y opens and x does not, y opens after x
  opens_after : (OpenedFrom g s x j → ⊥) → OpenedFrom g s y j → OpenedFrom g (reveal g s x) y j
  opens_after n o = go o.opens
    where
      go : OpensAt g s y j → OpenedFrom g (reveal g s x) y j
      go (the_cell e u) =
          let v = closed_after j hj n u in
          record { is_safe = o.is_safe; is_closed = rw (← e) v; opens = the_cell e v }
      go (by_spread z w u v) =
          let f = chain_first g (passed g s) y z w in
          record {
            is_safe = o.is_safe;
            is_closed = and_right (zero_cell g y) (closed (reveal g s x) y) (way_after z y n w u v (itself f.inside f.test));
            opens = by_spread z
                (chain_change g (passed g s) (passed g (reveal g s x)) y z (λ k c. way_after z k n w u v c) w)
                u (closed_after j hj n v);
          }

  -- so the tests agree on what x leaves
  opens_same : click_opens g s x j ≡ false → click_opens g (reveal g s x) y j ≡ click_opens g s y j
  opens_same e =
      iff (click_opens g (reveal g s x) y j) (click_opens g s y j)
      (λ t. →clickOpens g s y j hy hj (opens_more g (reveal g s x) s y j hy hj (λ k h u c. reveal_fewer g s x l k c) (click_opens→ g (reveal g s x) y j hy hj t)))
      (λ t. →clickOpens g (reveal g s x) y j hy hj
      (opens_after (λ o. subst T e (→clickOpens g s x j hx hj o)) (click_opens→ g s y j hy hj t)))

-- ---- several cells

-- the cells of a list are on the grid
abbrev pub Inside : Grid → List ℕ → Type 0
Inside g xs = (x : ℕ) → T (has x xs) → x < size g

-- one of xs is closed, unflagged and safe, and L on it opens j
pub record OpenedAmong (g : Grid) (s : Position) (xs : List ℕ) (j : ℕ) : Type 0 where
  pub cell : ℕ
  pub among : T (has cell xs)
  pub click : OpenedFrom g s cell j

module _ (g : Grid) (j : ℕ) (hj : j < size g) where
  -- each of them opens what it would open alone
  pub reveals_at : (xs : List ℕ) (s : Position) → length s ≡ size g → Inside g xs
      → get_or (fold (reveal g) s xs) j 0 ≡ cond (some_of (λ x. click_opens g s x j) xs) 1 (get_or s j 0)
  reveals_at [] s l h = refl
  reveals_at (x ∷ xs) s l h = reveals_at xs (reveal g s x) (reveal_length g s x l) (rest_of x xs h) ∙ go (click_opens g s x j) refl
    where
      here : get_or (reveal g s x) j 0 ≡ cond (click_opens g s x j) 1 (get_or s j 0)
      here = reveal_at g s x j (first_of x xs h) hj l

      go : (b : Bool) → click_opens g s x j ≡ b → cond (some_of (λ y. click_opens g (reveal g s x) y j) xs) 1 (get_or (reveal g s x) j 0)
          ≡ cond (b || some_of (λ y. click_opens g s y j) xs) 1 (get_or s j 0)
      go true e =
          ap (λ (v : ℕ). cond (some_of (λ y. click_opens g (reveal g s x) y j) xs) 1 v) (here ∙ ap (λ (b : Bool). cond b 1 (get_or s j 0)) e)
          ∙ cond_same (some_of (λ y. click_opens g (reveal g s x) y j) xs) 1
      go false e =
          ap (λ (v : ℕ). cond (some_of (λ y. click_opens g (reveal g s x) y j) xs) 1 v) (here ∙ ap (λ (b : Bool). cond b 1 (get_or s j 0)) e)
          ∙ ap (λ (b : Bool). cond b 1 (get_or s j 0))
          (some_same (λ y. click_opens g (reveal g s x) y j) (λ y. click_opens g s y j) xs
          (λ y t. opens_same g s x y j (first_of x xs h) (rest_of x xs h y t) hj l e))

-- the test for a list says the same as the words
pub among→ : (g : Grid) (s : Position) (xs : List ℕ) (j : ℕ) → Inside g xs → j < size g → T (some_of (λ x. click_opens g s x j) xs) → OpenedAmong g s xs j
among→ g s xs j h hj t =
    let w = yes_some (λ x. click_opens g s x j) xs t in
    record { cell = w.0; among = w.1; click = click_opens→ g s w.0 j (h w.0 w.1) hj w.2 }

pub →among : (g : Grid) (s : Position) (xs : List ℕ) (j : ℕ) → Inside g xs → j < size g → OpenedAmong g s xs j → T (some_of (λ x. click_opens g s x j) xs)
→among g s xs j h hj o =
    some_yes (λ x. click_opens g s x j) o.cell xs o.among (→clickOpens g s o.cell j (h o.cell o.among) hj o.click)

-- what none of them opens stays as it is
pub reveals_leave : (g : Grid) (s : Position) (xs : List ℕ) (j : ℕ) → length s ≡ size g → Inside g xs → j < size g → (OpenedAmong g s xs j → ⊥)
    → get_or (fold (reveal g) s xs) j 0 ≡ get_or s j 0
reveals_leave g s xs j l inside hj n =
    reveals_at g j hj xs s l inside
    ∙ ap (λ (b : Bool). cond b 1 (get_or s j 0)) (no→false (some_of (λ x. click_opens g s x j) xs) (λ t. n (among→ g s xs j inside hj t)))
