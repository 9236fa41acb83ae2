-- Cells clicked one after the other, mines too: the mines among them are opened, each safe one opens what it would open alone, in any order, the mines first or last. Assumes nothing.
use Prim.Native.Nat.{ℕ, ◌<◌}
use native.Mathlib.Omega.{arith}
use native.Mathlib.Decide.{ℕ_discrete}
use mathlib.Core.Path.{◌∙◌, ◌≡◌, ap, refl, subst, sym}
use mathlib.Core.Bool.{Bool, ◌&&◌, ◌||◌, cond, false, true}
use mathlib.Core.List.{List, [], ◌∷◌}
use lib.Dec.{T, T_not, eqb}
use lib.ListN.{get_or, length, length-set, set}
use lib.Seq.{ext_get_or, get_or-set_other, get_or-set_same}
use Rattle.game.specs.Grid.{Grid, mine, safe, size}
use Rattle.game.specs.Lists.{fold, has, some_of}
use Rattle.game.specs.Moves.{blow, click_each, reveal}
use Rattle.game.specs.Position.{Position, closed}
use Rattle.game.proofs.Members.{first_of, length_fold, rest_of, some_into, some_same}
use Rattle.game.proofs.Opens.{click_opens, click_opens→, opens_safe, →clickOpens}
use Rattle.game.proofs.Reveal.{fold_length}
use Rattle.game.proofs.Reveals.{Inside, OpenedAmong, among→, opens_more, reveals_at, reveals_leave, →among}
use Rattle.game.proofs.Truth.{T→true, and_both, and_false, and_left, and_right, and_under, iff, no→false}
use borrow.Author.Tests.{eq-eqb, ne_eqb}

-- ---- the mines

pub length_blow : (g : Grid) (s : Position) (i : ℕ) → length (blow g s i) ≡ length s
unfolding blow
length_blow g s i = go (mine g i && closed s i)
  where
    go : (b : Bool) → length {A = ℕ} (elim b [ true ↦ set s i 3 | false ↦ s ]) ≡ length s
    go true = length-set s i 3
    go false = refl

-- L on a closed unflagged mine opens it, and nothing else
pub blow_at : (g : Grid) (s : Position) (i j : ℕ) → i < size g → length s ≡ size g
    → get_or (blow g s i) j 0 ≡ cond (eqb j i && (mine g j && closed s j)) 3 (get_or s j 0)
unfolding blow
blow_at g s i j hi l = elim (ℕ_discrete j i) [ yes q ↦ rw (q, eq-eqb i i refl) (here (mine g i && closed s i)) | no n ↦ rw (ne_eqb j i n) (other (mine g i && closed s i) n) ]
  where
    here : (b : Bool) → get_or (elim b [ true ↦ set s i 3 | false ↦ s ]) i 0 ≡ cond b 3 (get_or s i 0)
    here true = get_or-set_same s i 3 0 (omega arith)
    here false = refl

    other : (b : Bool) → (j ≡ i → ⊥) → get_or (elim b [ true ↦ set s i 3 | false ↦ s ]) j 0 ≡ get_or s j 0
    other true n = get_or-set_other s i j 3 0 n
    other false n = refl

-- a cell's state once it may have been opened as a mine by one click (w) and then by the rest
blow_more : (a b m : Bool) (v w : ℕ) → w ≡ cond (a && (m && eqb v 0)) 3 v
    → cond (b && (m && eqb w 0)) 3 w ≡ cond ((a || b) && (m && eqb v 0)) 3 v
blow_more false b m v w e = ap (λ (x : ℕ). cond (b && (m && eqb x 0)) 3 x) e
blow_more true b false v w e = ap (λ (c : Bool). cond c 3 w) (sym (and_false b)) ∙ e
blow_more true b true v w e = go (eqb v 0) refl e
  where
    go : (c : Bool) → eqb v 0 ≡ c → w ≡ cond c 3 v → cond (b && eqb w 0) 3 w ≡ cond c 3 v
    go true k q = ap (λ (x : ℕ). cond (b && eqb x 0) 3 x) q ∙ ap (λ (c : Bool). cond c 3 3) (sym (and_false b))
    go false k q = ap (λ (x : ℕ). cond (b && eqb x 0) 3 x) q ∙ ap (λ (c : Bool). cond (b && c) 3 v) k ∙ ap (λ (c : Bool). cond c 3 v) (sym (and_false b))

-- the closed unflagged mines of a list are opened, and nothing else
blows_at : (g : Grid) (j : ℕ) (xs : List ℕ) (s : Position) → length s ≡ size g → Inside g xs
    → get_or (fold (blow g) s xs) j 0 ≡ cond (has j xs && (mine g j && closed s j)) 3 (get_or s j 0)
blows_at g j [] s l h = refl
blows_at g j (x ∷ xs) s l h =
    blows_at g j xs (blow g s x) (length_blow g s x ∙ l) (rest_of x xs h)
    ∙ blow_more (eqb j x) (has j xs) (mine g j) (get_or s j 0) (get_or (blow g s x) j 0) (blow_at g s x j (first_of x xs h) l)

-- ---- L on each of some cells

pub length_clicks : (g : Grid) (s : Position) (xs : List ℕ) → length s ≡ size g → length (click_each g s xs) ≡ size g
length_clicks g s xs l = length_fold (blow g) (fold (reveal g) s xs) xs (length_blow g) ∙ fold_length g xs s l

-- no click on a safe cell opens a mine
pub mine_unopened : (g : Grid) (s : Position) (xs : List ℕ) (j : ℕ) → T (mine g j) → OpenedAmong g s xs j → ⊥
mine_unopened g s xs j m o = T_not (mine g j) (opens_safe g s o.cell j o.click.is_safe o.click.opens) m

module _ (g : Grid) (s : Position) (xs : List ℕ) (j : ℕ) (l : length s ≡ size g) (inside : Inside g xs) (hj : j < size g) where
  -- a cell's state afterwards, by two tests
  pub clicks_at : get_or (click_each g s xs) j 0
      ≡ cond (has j xs && (mine g j && closed s j)) 3 (cond (some_of (λ x. click_opens g s x j) xs) 1 (get_or s j 0))
  clicks_at =
      blows_at g j xs (fold (reveal g) s xs) (fold_length g xs s l) inside
      ∙ ap (λ (b : Bool). cond (has j xs && b) 3 (get_or (fold (reveal g) s xs) j 0))
      (and_under (mine g j) (closed (fold (reveal g) s xs) j) (closed s j) (λ m. ap (λ (v : ℕ). eqb v 0) (still m)))
      ∙ ap (λ (v : ℕ). cond (has j xs && (mine g j && closed s j)) 3 v) (reveals_at g j hj xs s l inside)
    where
      still : T (mine g j) → get_or (fold (reveal g) s xs) j 0 ≡ get_or s j 0
      still m = reveals_leave g s xs j l inside hj (mine_unopened g s xs j m)

  -- a closed unflagged mine among them is opened
  pub clicks_blow : T (has j xs) → T (mine g j) → T (closed s j) → get_or (click_each g s xs) j 0 ≡ 3
  clicks_blow t m c =
      clicks_at ∙ ap (λ (b : Bool). cond b 3 (cond (some_of (λ x. click_opens g s x j) xs) 1 (get_or s j 0)))
      (T→true (has j xs && (mine g j && closed s j)) (and_both (has j xs) (mine g j && closed s j) t (and_both (mine g j) (closed s j) m c)))

  -- a cell that one of them opens is opened
  pub clicks_open : OpenedAmong g s xs j → get_or (click_each g s xs) j 0 ≡ 1
  clicks_open o =
      clicks_at ∙ ap (λ (b : Bool). cond b 3 (cond (some_of (λ x. click_opens g s x j) xs) 1 (get_or s j 0)))
      (no→false (has j xs && (mine g j && closed s j)) (λ t. mine_unopened g s xs j (and_left (mine g j) (closed s j) (and_right (has j xs) (mine g j && closed s j) t)) o))
      ∙ ap (λ (b : Bool). cond b 1 (get_or s j 0)) (T→true (some_of (λ x. click_opens g s x j) xs) (→among g s xs j inside hj o))

  -- any other cell stays as it is
  pub clicks_leave : (T (has j xs) → T (mine g j) → T (closed s j) → ⊥) → (OpenedAmong g s xs j → ⊥) → get_or (click_each g s xs) j 0 ≡ get_or s j 0
  clicks_leave m n =
      clicks_at ∙ ap (λ (b : Bool). cond b 3 (cond (some_of (λ x. click_opens g s x j) xs) 1 (get_or s j 0)))
      (no→false (has j xs && (mine g j && closed s j)) (λ t.
      let u = and_right (has j xs) (mine g j && closed s j) t in
      m (and_left (has j xs) (mine g j && closed s j) t) (and_left (mine g j) (closed s j) u) (and_right (mine g j) (closed s j) u)))
      ∙ ap (λ (b : Bool). cond b 1 (get_or s j 0)) (no→false (some_of (λ x. click_opens g s x j) xs) (λ t. n (among→ g s xs j inside hj t)))

-- ---- the mines first

module _ (g : Grid) (s : Position) (xs : List ℕ) (l : length s ≡ size g) (inside : Inside g xs) where
  -- the mines opened leave the safe cells as they are
  safe_still : (k : ℕ) → T (safe g k) → get_or (fold (blow g) s xs) k 0 ≡ get_or s k 0
  safe_still k t =
      blows_at g k xs s l inside ∙ ap (λ (b : Bool). cond b 3 (get_or s k 0))
      (no→false (has k xs && (mine g k && closed s k)) (λ u. T_not (mine g k) t (and_left (mine g k) (closed s k) (and_right (has k xs) (mine g k && closed s k) u))))

  -- so a click opens the same afterwards
  same-opens : (x j : ℕ) → x < size g → j < size g → click_opens g (fold (blow g) s xs) x j ≡ click_opens g s x j
  same-opens x j hx hj =
      let t = fold (blow g) s xs in
      iff (click_opens g t x j) (click_opens g s x j)
      (λ u. →clickOpens g s x j hx hj (opens_more g t s x j hx hj (λ k h a c. subst (λ (v : ℕ). T (eqb v 0)) (safe_still k a) c) (click_opens→ g t x j hx hj u)))
      (λ u. →clickOpens g t x j hx hj (opens_more g s t x j hx hj (λ k h a c. subst (λ (v : ℕ). T (eqb v 0)) (sym (safe_still k a)) c) (click_opens→ g s x j hx hj u)))

  -- and the mines may be opened before the others: the position is the same
  pub mines_first : fold (reveal g) (fold (blow g) s xs) xs ≡ click_each g s xs
  mines_first =
      ext_get_or 0 (fold (reveal g) t xs) (click_each g s xs) (fold_length g xs t lt ∙ sym (length_clicks g s xs l))
      (λ j b. same_at j (omega (arith, fold_length g xs t lt)))
    where
      t : Position
      t = fold (blow g) s xs

      lt : length t ≡ size g
      lt = length_fold (blow g) s xs (length_blow g) ∙ l

      -- no cell is opened in both ways
      swap : (b c : Bool) (v : ℕ) → (T b → T c → ⊥) → cond c 1 (cond b 3 v) ≡ cond b 3 (cond c 1 v)
      swap true true v n = absurd (n tt tt)
      swap true false v n = refl
      swap false c v n = refl

      same_at : (j : ℕ) → j < size g → get_or (fold (reveal g) t xs) j 0 ≡ get_or (click_each g s xs) j 0
      same_at j hj =
          reveals_at g j hj xs t lt inside
          ∙ ap (λ (b : Bool). cond b 1 (get_or t j 0)) (some_same (λ x. click_opens g t x j) (λ x. click_opens g s x j) xs (λ x u. same-opens x j (inside x u) hj))
          ∙ ap (λ (v : ℕ). cond (some_of (λ x. click_opens g s x j) xs) 1 v) (blows_at g j xs s l inside)
          ∙ swap (has j xs && (mine g j && closed s j)) (some_of (λ x. click_opens g s x j) xs) (get_or s j 0)
          (λ u c. mine_unopened g s xs j (and_left (mine g j) (closed s j) (and_right (has j xs) (mine g j && closed s j) u)) (among→ g s xs j inside hj c))
          ∙ sym (clicks_at g s xs j l inside hj)

-- ---- the order does not matter

-- lists with the same members
pub record SameCells (xs ys : List ℕ) : Type 0 where
  pub to : (x : ℕ) → T (has x xs) → T (has x ys)
  pub back : (x : ℕ) → T (has x ys) → T (has x xs)

-- clicks on the same cells in another order, or more than once, come to the same position
pub clicks_order : (g : Grid) (s : Position) (xs ys : List ℕ) → length s ≡ size g → Inside g xs → SameCells xs ys → click_each g s xs ≡ click_each g s ys
clicks_order g s xs ys l h m =
    ext_get_or 0 (click_each g s xs) (click_each g s ys) (length_clicks g s xs l ∙ sym (length_clicks g s ys l))
    (λ j b. same_at j (omega (arith, length_clicks g s xs l)))
  where
    same_at : (j : ℕ) → j < size g → get_or (click_each g s xs) j 0 ≡ get_or (click_each g s ys) j 0
    same_at j hj =
        clicks_at g s xs j l h hj
        ∙ ap (λ (b : Bool). cond (b && (mine g j && closed s j)) 3 (cond (some_of (λ x. click_opens g s x j) xs) 1 (get_or s j 0))) (iff (has j xs) (has j ys) (m.to j) (m.back j))
        ∙ ap (λ (b : Bool). cond (has j ys && (mine g j && closed s j)) 3 (cond b 1 (get_or s j 0)))
        (iff (some_of (λ x. click_opens g s x j) xs) (some_of (λ x. click_opens g s x j) ys)
        (some_into (λ x. click_opens g s x j) (λ x. click_opens g s x j) xs ys (λ x t u. (m.to x t, u)))
        (some_into (λ x. click_opens g s x j) (λ x. click_opens g s x j) ys xs (λ x t u. (m.back x t, u))))
        ∙ sym (clicks_at g s ys j l (λ x t. h x (m.back x t)) hj)
