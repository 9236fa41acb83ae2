-- What one reveal does, by its three cases, and what it leaves as it was; in a tidy position it sweeps a whole opening. Assumes nothing.
use Prim.Native.Nat.{ℕ, ◌<◌, ◌≤◌}
use native.Mathlib.Omega.{arith}
use native.Mathlib.Decide.{ℕ_discrete, dec_lt}
use mathlib.Core.Path.{◌∙◌, ◌≡◌, ap, refl, subst, sym}
use mathlib.Core.Bool.{Bool, ◌&&◌, cond, false, not, true}
use mathlib.Core.List.{List, [], ◌∷◌}
use lib.Dec.{T, T_not, eqb, eqb→eq, not_T}
use lib.ListN.{get_or-eq_default, get_or, length, length-map, length-set, set}
use lib.Seq.{get_or-set_other}
use Rattle.game.specs.Grid.{Grid, cells, mine, safe, size, square, zero_cell}
use Rattle.game.specs.Lists.{fold, has, some_of}
use Rattle.game.specs.Moves.{reveal, spread, sweep}
use Rattle.game.specs.Openings.{Joined, holds, itself, joined_to, onward, openings, unlabelled}
use Rattle.game.specs.Position.{Position, Tidy, closed}
use Rattle.game.proofs.Chains.{joined_close, joined_last, joined_trans}
use Rattle.game.proofs.Labels.{zero→labelled}
use Rattle.game.proofs.Members.{some_into, some_same, some_yes, yes_some}
use Rattle.game.proofs.Openings.{chained_to→, joined_to→, →chainedTo, →joinedTo}
use Rattle.game.proofs.Opens.{Way, passed, reveal_opens, sweep_at, the_cell}
use Rattle.game.proofs.Squares.{Close, close_sym, in-own-square, length_cells, self_close, square→, →square}
use Rattle.game.proofs.Truth.{and_both, and_false, and_left, and_right, iff, no→false}
use Rattle.game.proofs.Zeros.{Zero, zero→}

-- a reveal leaves the position, opens one cell, or sweeps an opening
pub data Revealed (g : Grid) (s : Position) (c : ℕ) : Position → Type 0 where
  stays : (T (safe g c) → T (closed s c) → ⊥) → Revealed g s c s
  opens : T (safe g c) → T (closed s c) → (T (zero_cell g c) → ⊥) → Revealed g s c (set s c 1)
  sweeps : T (safe g c) → T (closed s c) → T (zero_cell g c) → Revealed g s c (sweep g s c)

pub revealed : (g : Grid) (s : Position) (c : ℕ) → Revealed g s c (reveal g s c)
unfolding reveal
revealed g s c = go (safe g c && closed s c) refl (zero_cell g c) refl
  where
    go : (b : Bool) → (safe g c && closed s c) ≡ b → (d : Bool) → zero_cell g c ≡ d
        → Revealed g s c (elim b [ true ↦ elim d [ true ↦ sweep g s c | false ↦ set s c 1 ] | false ↦ s ])
    go false e d k = stays (λ t u. subst T e (and_both (safe g c) (closed s c) t u))
    go true e true k = sweeps (and_left (safe g c) (closed s c) (rw e tt)) (and_right (safe g c) (closed s c) (rw e tt)) (rw k tt)
    go true e false k =
        opens (and_left (safe g c) (closed s c) (rw e tt)) (and_right (safe g c) (closed s c) (rw e tt)) (λ t. subst T k t)

-- a closed safe cell of number 1 or more is opened alone
pub reveal_one : (g : Grid) (s : Position) (c : ℕ) → T (safe g c) → T (closed s c) → (T (zero_cell g c) → ⊥) → reveal g s c ≡ set s c 1
reveal_one g s c t u n = go (reveal g s c) (revealed g s c)
  where
    go : (p : Position) → Revealed g s c p → p ≡ set s c 1
    go p (stays m) = absurd (m t u)
    go p (opens a b m) = refl
    go p (sweeps a b z) = absurd (n z)

-- any other cell than a closed safe one stays as it is
pub reveal_none : (g : Grid) (s : Position) (c : ℕ) → (T (safe g c) → T (closed s c) → ⊥) → reveal g s c ≡ s
reveal_none g s c n = go (reveal g s c) (revealed g s c)
  where
    go : (p : Position) → Revealed g s c p → p ≡ s
    go p (stays m) = refl
    go p (opens a b m) = absurd (n a b)
    go p (sweeps a b z) = absurd (n a b)

-- what is closed after a sweep was closed before it
pub sweep_closed : (g : Grid) (s : Position) (c j : ℕ) → j < size g → T (closed (sweep g s c) j) → T (closed s j)
sweep_closed g s c j h t = go (closed s j && holds g j (spread g s c)) (get_or s j 0) (subst (λ (k : ℕ). T (eqb k 0)) (sweep_at g s c j h) t)
  where
    go : (b : Bool) (k : ℕ) → T (eqb (cond b 1 k) 0) → T (eqb k 0)
    go true k u = absurd u
    go false k u = u

pub length_sweep : (g : Grid) (s : Position) (c : ℕ) → length (sweep g s c) ≡ size g
unfolding sweep
length_sweep g s c = length-map (cells g) (λ j. cond (closed s j && holds g j (spread g s c)) 1 (get_or s j 0)) ∙ length_cells g

pub reveal_length : (g : Grid) (s : Position) (c : ℕ) → length s ≡ size g → length (reveal g s c) ≡ size g
reveal_length g s c l = go (reveal g s c) (revealed g s c)
  where
    go : (t : Position) → Revealed g s c t → length t ≡ size g
    go t (stays n) = l
    go t (opens a b n) = length-set s c 1 ∙ l
    go t (sweeps a b z) = length_sweep g s c

-- ---- what is closed was closed before

abbrev pub Fewer : Position → Position → Type 0
Fewer s t = (j : ℕ) → T (closed t j) → T (closed s j)

-- past the grid nothing is opened
pub past : (g : Grid) (s : Position) (j : ℕ) → length s ≡ size g → size g ≤ j → T (closed s j)
past g s j l h = rw (get_or-eq_default s 0 {n = j} (omega arith)) tt

pub set_fewer : (s : Position) (i v : ℕ) → T (closed s i) → Fewer s (set s i v)
set_fewer s i v c j t =
    elim (ℕ_discrete j i) [
      | yes e ↦ rw e c
      | no e ↦ subst (λ (k : ℕ). T (eqb k 0)) (get_or-set_other s i j v 0 e) t
    ]

pub reveal_fewer : (g : Grid) (s : Position) (i : ℕ) → length s ≡ size g → Fewer s (reveal g s i)
reveal_fewer g s i l = go (reveal g s i) (revealed g s i)
  where
    go : (p : Position) → Revealed g s i p → Fewer s p
    go p (stays n) j t = t
    go p (opens a b n) j t = set_fewer s i 1 b j t
    go p (sweeps a b z) j t =
        elim (dec_lt j (size g)) [
          | yes h ↦ sweep_closed g s i j h t
          | no h ↦ past g s j l (omega arith)
        ]

pub fold_length : (g : Grid) (xs : List ℕ) (s : Position) → length s ≡ size g → length (fold (reveal g) s xs) ≡ size g
fold_length g [] s l = l
fold_length g (x ∷ xs) s l = fold_length g xs (reveal g s x) (reveal_length g s x l)

pub fold_fewer : (g : Grid) (xs : List ℕ) (s : Position) → length s ≡ size g → Fewer s (fold (reveal g) s xs)
fold_fewer g [] s l j t = t
fold_fewer g (x ∷ xs) s l j t = reveal_fewer g s x l j (fold_fewer g xs (reveal g s x) (reveal_length g s x l) j t)

-- ---- which cells are closed afterwards

-- a flag on a mine leaves safe cells as they are
pub flag_stays : (g : Grid) (s : Position) (m j : ℕ) → T (mine g m) → T (safe g j) → get_or (set s m 2) j 0 ≡ get_or s j 0
flag_stays g s m j t u = get_or-set_other s m j 2 0 (λ e. T_not (mine g j) u (rw e t))

pub zero_safe : (g : Grid) (i : ℕ) → Zero g i → T (safe g i)
zero_safe g i z = not_T (mine g i) (zero→ g i i z z.inside (self_close g i))

-- no mine is in an opening
pub mine_off : (g : Grid) (c j : ℕ) → Zero g c → j < size g → T (mine g j) → T (holds g j (joined_to g c)) → ⊥
mine_off g c j z h m t =
    let a = yes_some (λ i. has i (joined_to g c)) (square g j) t in
    let za = joined_last g c a.0 (joined_to→ g c a.0 z a.2) in
    zero→ g a.0 j za h (close_sym g j a.0 (square→ g j a.0 h a.1).1) m

-- the opening of a 0-cell holds every cell near a 0-cell of it
pub joined_held : (g : Grid) (c a x : ℕ) → x < size g → Joined g c a → Close g a x → T (holds g x (joined_to g c))
joined_held g c a x h j l =
    some_yes (λ k. has k (joined_to g c)) a (square g x) (→square g x a h (joined_last g c a j).inside (close_sym g a x l)) (→joinedTo g c a j)

-- so it holds the cell itself
pub holds_itself : (g : Grid) (c : ℕ) → Zero g c → T (holds g c (joined_to g c))
holds_itself g c z = joined_held g c c c z.inside (itself z.inside z.none) (self_close g c)

-- ---- the spread

-- what spreads from a cell is joined to it
spread_joined : (g : Grid) (s : Position) (c k : ℕ) → Way g s c k → Joined g c k
spread_joined g s c k (itself h t) = itself h (and_left (zero_cell g c) (closed s c) t)
spread_joined g s c k (onward {b = b} j u t) = onward (spread_joined g s c b j) u (and_left (zero_cell g k) (closed s k) t)

-- so each 0-cell of the spread from a closed one is
spread_has : (g : Grid) (s : Position) (c k : ℕ) → Zero g c → T (closed s c) → T (has k (spread g s c)) → Joined g c k
spread_has g s c k z t u =
    spread_joined g s c k (chained_to→ g (passed g s) c k (record { inside = z.inside; test = and_both (zero_cell g c) (closed s c) z.none t }) u)

-- a sweep leaves what is not in the opening
pub sweep_off : (g : Grid) (s : Position) (c j : ℕ) → Zero g c → T (closed s c) → j < size g → (T (holds g j (joined_to g c)) → ⊥) → get_or (sweep g s c) j 0 ≡ get_or s j 0
sweep_off g s c j z t h n =
    sweep_at g s c j h ∙ ap (λ (b : Bool). cond b 1 (get_or s j 0)) (no→false (closed s j && holds g j (spread g s c)) (λ u.
    n (some_into (λ i. has i (spread g s c)) (λ i. has i (joined_to g c)) (square g j) (square g j) (λ i m v. (m, →joinedTo g c i (spread_has g s c i z t v)))
    (and_right (closed s j) (holds g j (spread g s c)) u))))

-- a safe cell is not closed once it is revealed
pub reveal_self : (g : Grid) (s : Position) (c : ℕ) → c < size g → length s ≡ size g → T (safe g c) → closed (reveal g s c) c ≡ false
reveal_self g s c h l t =
    no→false (closed (reveal g s c) c) (λ u.
    let b = reveal_fewer g s c l c u in
    subst (λ (v : ℕ). T (eqb v 0)) (reveal_opens g s c c h h l t b (the_cell refl b)) u)

-- any other cell stays as it is, unless it is in the opening of a revealed 0-cell
pub reveal_same : (g : Grid) (s : Position) (c j : ℕ) → c < size g → j < size g → (j ≡ c → ⊥) → (T (zero_cell g c) → T (holds g j (joined_to g c)) → ⊥)
    → get_or (reveal g s c) j 0 ≡ get_or s j 0
reveal_same g s c j hc h n f = go (reveal g s c) (revealed g s c)
  where
    go : (u : Position) → Revealed g s c u → get_or u j 0 ≡ get_or s j 0
    go u (stays m) = refl
    go u (opens a b m) = get_or-set_other s c j 1 0 n
    go u (sweeps a b z) = sweep_off g s c j (record { inside = hc; none = z }) b h (f z)

-- ---- in a tidy position

module _ (g : Grid) (s : Position) (c : ℕ) (f : Tidy g s) (z : Zero g c) (shut : T (closed s c)) where
  -- the 0-cells joined to a closed one are closed, so the spread goes through all of them
  joined_spread : (k : ℕ) → Joined g c k → Way g s c k
  joined_spread k (itself h t) = itself h (and_both (zero_cell g c) (closed s c) t shut)
  joined_spread k (onward {b = b} j u t) =
      onward (joined_spread b j) u (and_both (zero_cell g k) (closed s k) t (subst T (f.even c k (onward j u t)) shut))

  -- so it holds what the opening holds
  spread_whole : (j : ℕ) → holds g j (spread g s c) ≡ holds g j (joined_to g c)
  spread_whole j =
      some_same (λ i. has i (spread g s c)) (λ i. has i (joined_to g c)) (square g j) (λ i m. iff (has i (spread g s c)) (has i (joined_to g c))
      (λ t. →joinedTo g c i (spread_has g s c i z shut t))
      (λ t. →chainedTo g (passed g s) c i (joined_spread i (joined_to→ g c i z t))))

  -- a sweep opens the whole opening
  pub get_d_sweep : (j : ℕ) → j < size g → get_or (sweep g s c) j 0 ≡ cond (holds g j (joined_to g c)) 1 (get_or s j 0)
  get_d_sweep j h =
      sweep_at g s c j h ∙ ap (λ (b : Bool). cond (closed s j && b) 1 (get_or s j 0)) (spread_whole j)
      ∙ either (holds g j (joined_to g c)) (get_or s j 0) (λ t. f.safes j h (not_T (mine g j) (λ m. mine_off g c j z h m t)))
    where
      either : (b : Bool) (x : ℕ) → (T b → eqb x 1 ≡ not (eqb x 0)) → cond (eqb x 0 && b) 1 x ≡ cond b 1 x
      either false x e = rw (sym (and_false (eqb x 0)))
      either true x e = open_or_shut (eqb x 0) refl
        where
          open_or_shut : (a : Bool) → eqb x 0 ≡ a → cond (a && true) 1 x ≡ 1
          open_or_shut true k = refl
          open_or_shut false k = eqb→eq x 1 (rw (e tt, k) tt)

-- ---- cells without label

-- a safe cell without label
pub record Unlabelled (g : Grid) (j : ℕ) : Type 0 where
  pub inside : j < size g
  pub bare : T (unlabelled g j)

pub unlabelled_safe : (g : Grid) (j : ℕ) → T (unlabelled g j) → T (safe g j)
unlabelled_safe g j t = and_left (safe g j) (not (some_of (holds g j) (openings g))) t

-- no 0-cell stands in the square of an unlabelled cell
pub no_zero_near : (g : Grid) (j a : ℕ) → T (unlabelled g j) → T (has a (square g j)) → Zero g a → ⊥
no_zero_near g j a t u z =
    T_not (some_of (holds g j) (openings g)) (and_right (safe g j) (not (some_of (holds g j) (openings g))) t) (zero→labelled g j a u z)

pub unlabelled_off : (g : Grid) (j c : ℕ) → T (unlabelled g j) → Zero g c → T (holds g j (joined_to g c)) → ⊥
unlabelled_off g j c k z t =
    let a = yes_some (λ i. has i (joined_to g c)) (square g j) t in
    no_zero_near g j a.0 k a.1 (joined_last g c a.0 (joined_to→ g c a.0 z a.2))

pub zero_labelled : (g : Grid) (c : ℕ) → Zero g c → T (unlabelled g c) → ⊥
zero_labelled g c z t = no_zero_near g c c t (in-own-square g c z.inside) z

-- ---- openings

-- a cell that the opening of c holds is in it, if it is a 0-cell
pub held_joined : (g : Grid) (c a : ℕ) → Zero g c → Zero g a → T (holds g a (joined_to g c)) → Joined g c a
held_joined g c a z za t =
    let w = yes_some (λ j. has j (joined_to g c)) (square g a) t in
    let j = joined_to→ g c w.0 z w.2 in
    joined_trans g c w.0 a j (joined_close g w.0 a (joined_last g c w.0 j) za (close_sym g a w.0 (square→ g a w.0 za.inside w.1).1))
