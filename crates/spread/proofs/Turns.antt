-- A spread on positions, from turn to turn: a 0-cell that it opened waits, or nothing closed is left in its square. Assumes nothing.
use Prim.Native.Nat.{ℕ, ◌+◌, ◌<◌}
use native.Mathlib.Omega.{arith}
use native.Mathlib.Decide.{ℕ_discrete}
use mathlib.Core.Path.{◌∙◌, ◌≡◌, ap, refl, subst, sym}
use mathlib.Core.Logic.{◌⊎◌, inl, inr, ⊎_elim}
use mathlib.Core.Bool.{Bool, ◌&&◌, cond, false, not, true}
use mathlib.Core.List.{List, [], ◌∷◌}
use lib.Dec.{T, eqb, eqb→eq, not_T}
use lib.ListN.{get_or, length, length-set, set}
use lib.Seq.{get_or-set_other, get_or-set_same}
use Rattle.game.specs.Grid.{Grid, cells, mine, safe, size, square, zero_cell}
use Rattle.game.specs.Lists.{bit, fold, has}
use Rattle.game.specs.Openings.{Chain, itself, onward}
use Rattle.game.specs.Position.{Position, closed, closed_safe, unopened}
use Rattle.game.proofs.Chains.{chain_last}
use Rattle.game.proofs.Counts.{count_drop}
use Rattle.game.proofs.Members.{first_of, fold_inv, has_cases, has_head, has_tail, rest_of}
use Rattle.game.proofs.Squares.{once_cells, square→, →cells}
use Rattle.game.proofs.Truth.{T→true, and_both, and_false, and_left, and_right}
use Rattle.game.proofs.Zeros.{zero→}
use borrow.Author.Tests.{eq-eqb}

-- the position, the cells that wait, the last one first, and how many were opened
pub record Turn : Type 0 where
  pub position : Position
  pub waits : List ℕ
  pub so_far : ℕ

-- a closed cell is opened, and waits if it is a 0-cell
abbrev pub opening_turn : Grid → Turn → ℕ → Turn
opening_turn g m x =
    record { position = set m.position x 1; waits = cond (zero_cell g x) (x ∷ m.waits) m.waits; so_far = m.so_far + 1 }

-- a cell visited
unfoldable pub turn : Grid → Turn → ℕ → Turn
turn g m x = cond (closed m.position x) (opening_turn g m x) m

-- a 0-cell that is closed in s
abbrev pub free : Grid → Position → ℕ → Bool
free g s k = zero_cell g k && closed s k

-- a closed cell by its state
pub is_closed : (s : Position) (x : ℕ) → get_or s x 0 ≡ 0 → T (closed s x)
is_closed s x e = subst T (sym (eq-eqb (get_or s x 0) 0 e)) tt

-- x is the cell c, or in the square of a 0-cell that a chain joins to c
abbrev pub Near : Grid → Position → ℕ → ℕ → Type 0
Near g s c x = (x ≡ c) ⊎ ((z : ℕ) × Chain g (free g s) c z × T (has x (square g z)))

-- x was opened since s
pub record New (g : Grid) (s : Position) (c : ℕ) (t : Position) (x : ℕ) : Type 0 where
  pub was : get_or s x 0 ≡ 0
  pub now : get_or t x 0 ≡ 1
  pub near : Near g s c x

-- no cell of the square is closed
abbrev pub Shut : Grid → Position → ℕ → Type 0
Shut g t z = (y : ℕ) → T (has y (square g z)) → get_or t y 0 ≡ 0 → ⊥

-- from s on, L on c came to the turn m, in the middle of the square of the cell e; e is no cell where it is in none
pub record Going (g : Grid) (s : Position) (c e : ℕ) (m : Turn) : Type 0 where
  pub long : length m.position ≡ size g
  pub states : (x : ℕ) → x < size g → (get_or m.position x 0 ≡ get_or s x 0) ⊎ New g s c m.position x
  pub stack : (z : ℕ) → T (has z m.waits) → Chain g (free g s) c z
  pub done : (z : ℕ) → z < size g → T (free g s z) → get_or m.position z 0 ≡ 1 → T (has z m.waits) ⊎ ((z ≡ e) ⊎ Shut g m.position z)
  pub counted : m.so_far + closed_safe g m.position ≡ closed_safe g s

-- before the first cell
going_first : (g : Grid) (s : Position) (c : ℕ) → length s ≡ size g → Going g s c (size g) (record { position = s; waits = []; so_far = 0 })
going_first g s c l =
    record {
      long = l;
      states = λ x h. inl refl;
      stack = λ z t. absurd t;
      done = λ z h f e. absurd (omega (arith, eqb→eq (get_or s z 0) 0 (and_right (zero_cell g z) (closed s z) f)));
      counted = omega arith;
    }

-- ---- one cell more

-- one safe cell less is closed
fewer_safe : (g : Grid) (t : Position) (x : ℕ) → x < size g → length t ≡ size g → T (safe g x) → get_or t x 0 ≡ 0 → closed_safe g t ≡ closed_safe g (set t x 1) + 1
unfolding closed_safe
fewer_safe g t x h l f e =
    count_drop (λ i. safe g i && unopened t i) (λ i. safe g i && unopened (set t x 1) i) x (cells g) (once_cells g)
    (λ i q. ap (λ (k : ℕ). safe g i && not (eqb k 1)) (sym (get_or-set_other t x i 1 0 q)))
    (ap (λ (k : ℕ). safe g x && not (eqb k 1)) (get_or-set_same t x 1 0 (omega arith)) ∙ sym (and_false (safe g x)))
    ∙ ap (λ (k : ℕ). closed_safe g (set t x 1) + k)
    (ap (λ (b : Bool). bit (b && (safe g x && unopened t x))) (T→true (has x (cells g)) (→cells g x h))
    ∙ ap (λ (b : Bool). bit (b && unopened t x)) (T→true (safe g x) f) ∙ ap (λ (k : ℕ). bit (not (eqb k 1))) e)

module _ (g : Grid) (s : Position) (c e : ℕ) (m : Turn) (p : Going g s c e m) (x : ℕ) (h : x < size g) (f : T (safe g x)) (n : Near g s c x) where
  abbrev before_it : Position
  before_it = m.position

  abbrev after_it : Position
  after_it = set m.position x 1

  here : get_or after_it x 0 ≡ 1
  here = get_or-set_same before_it x 1 0 (omega (arith, p.long))

  there : (y : ℕ) → (y ≡ x → ⊥) → get_or after_it y 0 ≡ get_or before_it y 0
  there y q = get_or-set_other before_it x y 1 0 q

  module _ (o : get_or m.position x 0 ≡ 0) where
    -- a cell that is closed now was closed before
    was_closed : get_or s x 0 ≡ 0
    was_closed = ⊎_elim (λ q. omega arith) (λ (w : New g s c before_it x). absurd (omega (arith, w.now))) (p.states x h)

    chain_here : T (zero_cell g x) → Chain g (free g s) c x
    chain_here z =
        let b = and_both (zero_cell g x) (closed s x) z (is_closed s x was_closed) in
        ⊎_elim (λ q. subst (λ (k : ℕ). Chain g (free g s) k x) q (itself h b)) (λ w. onward w.1 w.2 b) n

    open_states : (y : ℕ) → y < size g → (get_or after_it y 0 ≡ get_or s y 0) ⊎ New g s c after_it y
    open_states y k =
        elim (ℕ_discrete y x) [
          | yes q ↦ subst (λ (i : ℕ). (get_or after_it i 0 ≡ get_or s i 0) ⊎ New g s c after_it i) (sym q) (inr (record { was = was_closed; now = here; near = n }))
          | no q ↦ ⊎_elim (λ d. inl (there y q ∙ d)) (λ (w : New g s c before_it y). inr (record { was = w.was; now = there y q ∙ w.now; near = w.near })) (p.states y k)
        ]

    still_shut : (z : ℕ) → Shut g before_it z → Shut g after_it z
    still_shut z u y b d =
        elim (ℕ_discrete y x) [
          | yes q ↦ absurd (omega (arith, here, ap (λ (i : ℕ). get_or after_it i 0) q))
          | no q ↦ u y b (omega (arith, there y q))
        ]

    -- the turn that opens it, by whether it is a 0-cell
    open_going : (b : Bool) → zero_cell g x ≡ b → Going g s c e (record { position = after_it; waits = cond b (x ∷ m.waits) m.waits; so_far = m.so_far + 1 })
    open_going true q =
        record {
          long = length-set before_it x 1 ∙ p.long;
          states = open_states;
          stack = λ z u. has_cases z x m.waits (λ d. rw d (chain_here (rw q tt))) (p.stack z) u;
          done = λ z hz fz oz. elim (ℕ_discrete z x) [
            | yes d ↦ inl (has_head z x m.waits d)
            | no d ↦ ⊎_elim (λ u. inl (has_tail z x m.waits u)) (λ r. inr (⊎_elim (λ u. inl u) (λ u. inr (still_shut z u)) r)) (p.done z hz fz (omega (arith, there z d)))
          ];
          counted = omega (arith, p.counted, fewer_safe g before_it x h p.long f o);
        }
    open_going false q =
        record {
          long = length-set before_it x 1 ∙ p.long;
          states = open_states;
          stack = p.stack;
          done = λ z hz fz oz. elim (ℕ_discrete z x) [
            | yes d ↦ absurd (subst T (ap (zero_cell g) d ∙ q) (and_left (zero_cell g z) (closed s z) fz))
            | no d ↦ ⊎_elim (λ u. inl u) (λ r. inr (⊎_elim (λ u. inl u) (λ u. inr (still_shut z u)) r)) (p.done z hz fz (omega (arith, there z d)))
          ];
          counted = omega (arith, p.counted, fewer_safe g before_it x h p.long f o);
        }

  going_on : Going g s c e (turn g m x)
  unfolding turn
  going_on = go (closed before_it x) refl
    where
      go : (b : Bool) → closed before_it x ≡ b → Going g s c e (cond b (opening_turn g m x) m)
      go true q = open_going (eqb→eq (get_or before_it x 0) 0 (rw q tt)) (zero_cell g x) refl
      go false q = p

-- ---- a position keeps its length, what is open stays open, and a cell visited is not closed

pub turn_long : (g : Grid) (m : Turn) (x : ℕ) → length (turn g m x).position ≡ length m.position
unfolding turn
turn_long g m x = go (closed m.position x)
  where
    go : (b : Bool) → length (cond b (opening_turn g m x) m).position ≡ length m.position
    go true = length-set m.position x 1
    go false = refl

-- a position of n cells in which y is not closed
pub record NotClosed (n y : ℕ) (m : Turn) : Type 0 where
  pub long : length m.position ≡ n
  pub open_there : get_or m.position y 0 ≡ 0 → ⊥

stays_open : (g : Grid) (n y : ℕ) → y < n → (m : Turn) (x : ℕ) → NotClosed n y m → NotClosed n y (turn g m x)
unfolding turn
stays_open g n y h m x u = go (closed m.position x)
  where
    go : (b : Bool) → NotClosed n y (cond b (opening_turn g m x) m)
    go true =
        record {
          long = length-set m.position x 1 ∙ u.long;
          open_there = λ d. elim (ℕ_discrete y x) [
            | yes q ↦ omega (arith, ap (λ (i : ℕ). get_or (set m.position x 1) i 0) q, get_or-set_same m.position x 1 0 (omega (arith, u.long)))
            | no q ↦ u.open_there (sym (get_or-set_other m.position x y 1 0 q) ∙ d)
          ];
        }
    go false = u

visited_open : (g : Grid) (n x : ℕ) → x < n → (m : Turn) → length m.position ≡ n → NotClosed n x (turn g m x)
unfolding turn
visited_open g n x h m l = go (closed m.position x) refl
  where
    go : (b : Bool) → closed m.position x ≡ b → NotClosed n x (cond b (opening_turn g m x) m)
    go true q = record { long = length-set m.position x 1 ∙ l; open_there = λ d. omega (arith, get_or-set_same m.position x 1 0 (omega arith)) }
    go false q = record { long = l; open_there = λ d. subst T q (is_closed m.position x d) }

all_open : (g : Grid) (n : ℕ) (xs : List ℕ) → ((x : ℕ) → T (has x xs) → x < n) → (m : Turn) → length m.position ≡ n → (y : ℕ) → T (has y xs) → NotClosed n y (fold (turn g) m xs)
all_open g n [] b m l y t = absurd t
all_open g n (x ∷ xs) b m l y t =
    let v = visited_open g n x (first_of x xs b) m l in
    has_cases y x xs (λ q. rw q (fold_inv (NotClosed n x) (turn g) xs (λ k i u. stays_open g n x (first_of x xs b) k i) (turn g m x) v))
    (λ u. all_open g n xs (rest_of x xs b) (turn g m x) v.long y u) t

-- ---- the last that waits is taken, and its square is visited

module _ (g : Grid) (s : Position) (c : ℕ) where
  -- what stands in the square of a waiting cell is safe, and near
  beside_safe : (z x : ℕ) → Chain g (free g s) c z → T (has x (square g z)) → T (safe g x)
  beside_safe z x j t =
      let l = chain_last g (free g s) c z j in
      let b = square→ g z x l.inside t in
      not_T (mine g x) (zero→ g z x (record { inside = l.inside; none = and_left (zero_cell g z) (closed s z) l.test }) b.0 b.1)

  -- taken
  going_taken : (t : Position) (z : ℕ) (zs : List ℕ) (n : ℕ) → Going g s c (size g) (record { position = t; waits = z ∷ zs; so_far = n }) → Going g s c z (record { position = t; waits = zs; so_far = n })
  going_taken t z zs n p =
      record {
        long = p.long;
        states = p.states;
        stack = λ y u. p.stack y (has_tail y z zs u);
        done = λ y hy fy oy. ⊎_elim (λ u. has_cases y z zs (λ q. inr (inl q)) (λ r. inl r) u) (λ r. ⊎_elim (λ q. absurd (omega arith)) (λ u. inr (inr u)) r) (p.done y hy fy oy);
        counted = p.counted;
      }

  -- visited
  going_visited : (z : ℕ) (m : Turn) → Going g s c z m → Shut g m.position z → Going g s c (size g) m
  going_visited z m p u =
      record {
        long = p.long;
        states = p.states;
        stack = p.stack;
        done = λ y hy fy oy. ⊎_elim (λ w. inl w) (λ r. inr (inr (⊎_elim (λ q. subst (Shut g m.position) (sym q) u) (λ w. w) r))) (p.done y hy fy oy);
        counted = p.counted;
      }

  going_square : (t : Position) (z : ℕ) (zs : List ℕ) (n : ℕ) → Going g s c (size g) (record { position = t; waits = z ∷ zs; so_far = n })
      → Going g s c (size g) (fold (turn g) (record { position = t; waits = zs; so_far = n }) (square g z))
  going_square t z zs n p =
      let m : Turn = record { position = t; waits = zs; so_far = n } in
      let j = p.stack z (has_head z z zs refl) in
      let h = (chain_last g (free g s) c z j).inside in
      going_visited z (fold (turn g) m (square g z))
      (fold_inv (Going g s c z) (turn g) (square g z)
      (λ k x u q. going_on g s c z k q x (square→ g z x h u).0 (beside_safe z x j u) (inr (z, j, u))) m (going_taken t z zs n p))
      (λ y u. (all_open g (size g) (square g z) (λ x v. (square→ g z x h v).0) m p.long y u).open_there)

-- ---- a whole spread

-- L on c came to the turn m, and c is open if it was closed
pub record Midway (g : Grid) (s : Position) (c : ℕ) (m : Turn) : Type 0 where
  pub going : Going g s c (size g) m
  pub first : NotClosed (size g) c m

-- the first cell is visited
pub midway_first : (g : Grid) (s : Position) (c : ℕ) → length s ≡ size g → c < size g → T (safe g c) → Midway g s c (turn g (record { position = s; waits = []; so_far = 0 }) c)
midway_first g s c l h f =
    let m : Turn = record { position = s; waits = []; so_far = 0 } in
    record { going = going_on g s c (size g) m (going_first g s c l) c h f (inl refl); first = visited_open g (size g) c h m l }

-- one that waits is taken, and its square is visited
pub midway_more : (g : Grid) (s : Position) (c : ℕ) → c < size g → (t : Position) (z : ℕ) (zs : List ℕ) (n : ℕ) → Midway g s c (record { position = t; waits = z ∷ zs; so_far = n })
    → Midway g s c (fold (turn g) (record { position = t; waits = zs; so_far = n }) (square g z))
midway_more g s c h t z zs n p =
    record {
      going = going_square g s c t z zs n p.going;
      first = fold_inv (NotClosed (size g) c) (turn g) (square g z) (λ k i u. stays_open g (size g) c h k i)
          (record { position = t; waits = zs; so_far = n }) (record { long = p.first.long; open_there = p.first.open_there });
    }
