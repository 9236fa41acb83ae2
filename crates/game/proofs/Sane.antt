-- Each cell of a position that legal play comes to has a state it may have: each move keeps it. Assumes nothing.
use Prim.Native.Nat.{ℕ, ◌<◌, ◌≤◌}
use native.Mathlib.Omega.{arith}
use mathlib.Core.Path.{◌∙◌, ◌≡◌, ap, refl, subst}
use mathlib.Core.Bool.{Bool, ◌&&◌, cond, false, true}
use mathlib.Core.List.{List, [], ◌∷◌}
use lib.Dec.{T, T_not, eqb}
use lib.ListN.{get_or, length-replicate, length-set, set}
use Rattle.game.specs.Grid.{Grid, mine, size, square}
use Rattle.game.specs.Lists.{has, some_of}
use Rattle.game.specs.Moves.{AllLegal, Move, Reached, after, chord, click_each, flag, left, legal, play, unflag}
use Rattle.game.specs.Position.{Position, Sane, closed, untouched}
use Rattle.game.proofs.Clicks.{clicks_at, length_clicks, mine_unopened}
use Rattle.game.proofs.Narrow.{legal→}
use Rattle.game.proofs.Opens.{click_opens}
use Rattle.game.proofs.Reveals.{Inside, among→}
use Rattle.game.proofs.Truth.{and_left, and_right, no→false}
use Rattle.game.proofs.Turns.{one_inside, set_at, square_inside}
use Rattle.game.proofs.Untouched.{untouched_at}

-- ---- the states that play comes to

-- the position before any move is sane
pub untouched_sane : (g : Grid) → Sane g (untouched g)
untouched_sane g =
    record {
      long = length-replicate (size g) 0;
      states = λ j h. omega (arith, untouched_at g j h);
      safes = λ j h t. ap (λ (v : ℕ). eqb v 3) (untouched_at g j h);
      mines = λ j h t. ap (λ (v : ℕ). eqb v 1) (untouched_at g j h);
    }

-- a flag put or taken away
set_sane : (g : Grid) (s : Position) (i v : ℕ) → i < size g → v ≤ 3 → eqb v 3 ≡ false → eqb v 1 ≡ false → Sane g s → Sane g (set s i v)
set_sane g s i v h k e f o =
    record {
      long = length-set s i v ∙ o.long;
      states = λ j hj. omega (arith, at j, small (eqb j i) (get_or s j 0) (o.states j hj));
      safes = λ j hj t. ap (λ (x : ℕ). eqb x 3) (at j) ∙ not_put 3 (eqb j i) (get_or s j 0) e (o.safes j hj t);
      mines = λ j hj t. ap (λ (x : ℕ). eqb x 1) (at j) ∙ not_put 1 (eqb j i) (get_or s j 0) f (o.mines j hj t);
    }
  where
    at : (j : ℕ) → get_or (set s i v) j 0 ≡ cond (eqb j i) v (get_or s j 0)
    at j = set_at s i j v (omega (arith, o.long))

    small : (b : Bool) (w : ℕ) → w ≤ 3 → cond b v w ≤ 3
    small true w l = k
    small false w l = l

    not_put : (x : ℕ) (b : Bool) (w : ℕ) → eqb v x ≡ false → eqb w x ≡ false → eqb (cond b v w) x ≡ false
    not_put x true w p q = p
    not_put x false w p q = q

-- cells clicked
clicks_sane : (g : Grid) (s : Position) (xs : List ℕ) → Inside g xs → Sane g s → Sane g (click_each g s xs)
clicks_sane g s xs h o =
    record {
      long = length_clicks g s xs o.long;
      states = λ j hj. omega (arith, at j hj, small (has j xs && (mine g j && closed s j)) (some_of (λ x. click_opens g s x j) xs) (get_or s j 0) (o.states j hj));
      safes = λ j hj t. ap (λ (x : ℕ). eqb x 3) (at j hj)
          ∙ off_3 (has j xs && (mine g j && closed s j)) (some_of (λ x. click_opens g s x j) xs) (get_or s j 0)
          (no→false (has j xs && (mine g j && closed s j)) (λ u. T_not (mine g j) t (and_left (mine g j) (closed s j) (and_right (has j xs) (mine g j && closed s j) u))))
          (o.safes j hj t);
      mines = λ j hj t. ap (λ (x : ℕ). eqb x 1) (at j hj)
          ∙ off_1 (has j xs && (mine g j && closed s j)) (some_of (λ x. click_opens g s x j) xs) (get_or s j 0)
          (no→false (some_of (λ x. click_opens g s x j) xs) (λ u. mine_unopened g s xs j t (among→ g s xs j h hj u)))
          (o.mines j hj t);
    }
  where
    at : (j : ℕ) → j < size g → get_or (click_each g s xs) j 0 ≡ cond (has j xs && (mine g j && closed s j)) 3 (cond (some_of (λ x. click_opens g s x j) xs) 1 (get_or s j 0))
    at j hj = clicks_at g s xs j o.long h hj

    small : (b c : Bool) (v : ℕ) → v ≤ 3 → cond b 3 (cond c 1 v) ≤ 3
    small true c v l = omega arith
    small false true v l = omega arith
    small false false v l = l

    off_3 : (b c : Bool) (v : ℕ) → b ≡ false → eqb v 3 ≡ false → eqb (cond b 3 (cond c 1 v)) 3 ≡ false
    off_3 true c v e k = absurd (subst T e tt)
    off_3 false true v e k = refl
    off_3 false false v e k = k

    off_1 : (b c : Bool) (v : ℕ) → c ≡ false → eqb v 1 ≡ false → eqb (cond b 3 (cond c 1 v)) 1 ≡ false
    off_1 true c v e k = refl
    off_1 false true v e k = absurd (subst T e tt)
    off_1 false false v e k = k

-- a legal move keeps it
pub play_sane : (g : Grid) (s : Position) (m : Move) → T (legal g s m) → Sane g s → Sane g (play g s m)
unfolding play
play_sane g s (left i) t o = clicks_sane g s (i ∷ []) (one_inside g i (legal→ g s (left i) t).1) o
play_sane g s (flag i) t o = set_sane g s i 2 (legal→ g s (flag i) t).1 (omega arith) refl refl o
play_sane g s (chord i) t o = clicks_sane g s (square g i) (square_inside g i (legal→ g s (chord i) t).1) o
play_sane g s (unflag i) t o = set_sane g s i 0 (legal→ g s (unflag i) t).1 (omega arith) refl refl o

after_sane : (g : Grid) (ms : List Move) (s : Position) → AllLegal g s ms → Sane g s → Sane g (after g s ms)
after_sane g [] s a o = o
after_sane g (m ∷ ms) s a o = after_sane g ms (play g s m) a.1 (play_sane g s m a.0 o)

-- so every position that legal play comes to is sane
pub reached_sane : (g : Grid) (s : Position) → Reached g s → Sane g s
reached_sane g s r = subst (Sane g) r.comes_to (after_sane g r.moves (untouched g) r.all_legal (untouched_sane g))
