-- How a game ends: which moves lose, what lost and won mean, and that nothing follows a won or lost game. Assumes nothing.
use Prim.Native.Nat.{ℕ, ◌<◌}
use native.Mathlib.Omega.{arith}
use mathlib.Core.Path.{◌∙◌, ◌≡◌, refl, subst}
use mathlib.Core.Logic.{◌⊎◌, inl, inr, ⊎_elim}
use mathlib.Core.Bool.{Bool, ◌&&◌, ◌||◌, cond, false, not, true}
use mathlib.Core.List.{List, [], ◌∷◌}
use lib.Dec.{T, T_not, eqb, eqb→eq, not_T}
use lib.ListN.{get_or, length, set}
use Rattle.game.specs.Grid.{Grid, cells, mine, safe, size, square}
use Rattle.game.specs.Lists.{bit, has, some_of}
use Rattle.game.specs.Moves.{Move, Reached, chord, click_each, flag, left, legal, play, unflag}
use Rattle.game.specs.Position.{Position, Sane, blown, closed, closed_safe, ending, lost, opened, unopened, untouched, won}
use Rattle.game.proofs.Clicks.{clicks_at, clicks_blow}
use Rattle.game.proofs.Counts.{count_none, none_counted}
use Rattle.game.proofs.Members.{some_yes, yes_some}
use Rattle.game.proofs.Narrow.{legal→}
use Rattle.game.proofs.Opens.{click_opens}
use Rattle.game.proofs.Reveals.{Inside}
use Rattle.game.proofs.Sane.{reached_sane}
use Rattle.game.proofs.Squares.{cells→, →cells}
use Rattle.game.proofs.Truth.{and_both, and_left, and_right, iff, no→false}
use Rattle.game.proofs.Turns.{one_inside, set_at, square_inside}
use Rattle.game.proofs.Untouched.{untouched_at}

-- ---- won and lost

-- no game is both won and lost
pub won_lost : (g : Grid) (s : Position) → T (won g s) → T (lost g s) → ⊥
won_lost g s w t = T_not (lost g s) (and_right (eqb (closed_safe g s) 0) (not (lost g s)) w) t

-- a won or lost game is finished
ended : (a b : Bool) → T a ⊎ T b → eqb (cond b 2 (bit a)) 0 ≡ false
ended true true w = refl
ended true false w = refl
ended false true w = refl
ended false false w = absurd (⊎_elim (λ t. t) (λ t. t) w)

-- any move after a won or lost game is refused
pub after_end : (g : Grid) (s : Position) (m : Move) → T (won g s) ⊎ T (lost g s) → legal g s m ≡ false
unfolding ending
after_end g s m w = no→false (legal g s m) (λ t. subst T (ended (won g s) (lost g s) w) (legal→ g s m t).0)

-- before a legal move the game is not lost
not_lost : (g : Grid) (s : Position) (m : Move) → T (legal g s m) → T (lost g s) → ⊥
not_lost g s m t u = subst T (after_end g s m (inr u)) t

-- no mine was open, so one is open afterwards just if a closed unflagged mine is among the cells
lost_clicks : (g : Grid) (s : Position) (xs : List ℕ) → length s ≡ size g → Inside g xs → (T (lost g s) → ⊥) → lost g (click_each g s xs) ≡ some_of (λ j. mine g j && closed s j) xs
unfolding lost
lost_clicks g s xs l h n =
    iff (lost g (click_each g s xs)) (some_of (λ j. mine g j && closed s j) xs)
    (λ t. let w = yes_some (blown (click_each g s xs)) (cells g) t in struck w.0 (cells→ g w.0 w.1) w.2)
    (λ t.
    let w = yes_some (λ j. mine g j && closed s j) xs t in
    let hj = h w.0 w.1 in
    let e = clicks_blow g s xs w.0 l h hj w.1 (and_left (mine g w.0) (closed s w.0) w.2) (and_right (mine g w.0) (closed s w.0) w.2) in
    some_yes (blown (click_each g s xs)) w.0 (cells g) (→cells g w.0 hj) (rw e tt))
  where
    either : (b c : Bool) (v : ℕ) → T (eqb (cond b 3 (cond c 1 v)) 3) → T b ⊎ T (eqb v 3)
    either true c v t = inl tt
    either false true v t = absurd t
    either false false v t = inr t

    struck : (j : ℕ) → j < size g → T (blown (click_each g s xs) j) → T (some_of (λ j. mine g j && closed s j) xs)
    struck j hj t =
        ⊎_elim
        (λ u. some_yes (λ j. mine g j && closed s j) j xs (and_left (has j xs) (mine g j && closed s j) u) (and_right (has j xs) (mine g j && closed s j) u))
        (λ u. absurd (n (some_yes (blown s) j (cells g) (→cells g j hj) u)))
        (either (has j xs && (mine g j && closed s j)) (some_of (λ x. click_opens g s x j) xs) (get_or s j 0)
        (subst (λ (v : ℕ). T (eqb v 3)) (clicks_at g s xs j l h hj) t))

-- a flag put or taken away does not lose
lost_set : (g : Grid) (s : Position) (i v : ℕ) → length s ≡ size g → i < size g → eqb v 3 ≡ false → (T (lost g s) → ⊥) → lost g (set s i v) ≡ false
unfolding lost
lost_set g s i v l h e n =
    no→false (lost g (set s i v)) (λ t.
    let w = yes_some (blown (set s i v)) (cells g) t in
    n (some_yes (blown s) w.0 (cells g) w.1 (old (eqb w.0 i) (get_or s w.0 0) (subst (λ (x : ℕ). T (eqb x 3)) (set_at s i w.0 v (omega arith)) w.2))))
  where
    old : (b : Bool) (x : ℕ) → T (eqb (cond b v x) 3) → T (eqb x 3)
    old true x t = absurd (subst T e t)
    old false x t = t

-- the move meets a closed unflagged mine: L on a mine, C with one or more in its square
unfoldable pub strikes : Grid → Position → Move → Bool
strikes g s (left i) = mine g i
strikes g s (flag i) = false
strikes g s (chord i) = some_of (λ j. mine g j && closed s j) (square g i)
strikes g s (unflag i) = false

-- a legal move loses just if it meets one
pub lost_so : (g : Grid) (s : Position) (m : Move) → Sane g s → T (legal g s m) → lost g (play g s m) ≡ strikes g s m
unfolding play strikes
lost_so g s (left i) o t =
    let r = legal→ g s (left i) t in
    lost_clicks g s (i ∷ []) o.long (one_inside g i r.1) (not_lost g s (left i) t)
    ∙ alone (mine g i) (closed s i) r.2
  where
    alone : (a b : Bool) → T b → ((a && b) || false) ≡ a
    alone true true u = refl
    alone false b u = refl
    alone true false u = absurd u
lost_so g s (flag i) o t = lost_set g s i 2 o.long (legal→ g s (flag i) t).1 refl (not_lost g s (flag i) t)
lost_so g s (chord i) o t =
    lost_clicks g s (square g i) o.long (square_inside g i (legal→ g s (chord i) t).1) (not_lost g s (chord i) t)
lost_so g s (unflag i) o t = lost_set g s i 0 o.long (legal→ g s (unflag i) t).1 refl (not_lost g s (unflag i) t)

-- ---- what lost means

-- a mine of state 3
pub record OpenMine (g : Grid) (s : Position) : Type 0 where
  pub cell : ℕ
  pub inside : cell < size g
  pub is-mine : T (mine g cell)
  pub state : get_or s cell 0 ≡ 3

-- a test that cannot fail passes
sure : (b : Bool) → (T (not b) → ⊥) → T b
sure true n = tt
sure false n = n tt

-- no safe cell has state 3
pub safe_whole : (g : Grid) (s : Position) (j : ℕ) → Reached g s → j < size g → T (safe g j) → get_or s j 0 ≡ 3 → ⊥
safe_whole g s j r h t e = subst T ((reached_sane g s r).safes j h t) (rw e tt)

-- a lost game has one
pub lost→mine : (g : Grid) (s : Position) → Reached g s → T (lost g s) → OpenMine g s
unfolding lost
lost→mine g s r t =
    let w = yes_some (blown s) (cells g) t in
    let h = cells→ g w.0 w.1 in
    let e = eqb→eq (get_or s w.0 0) 3 w.2 in
    record { cell = w.0; inside = h; is-mine = sure (mine g w.0) (λ u. safe_whole g s w.0 r h u e); state = e }

-- and a game that has one is lost
pub mine→lost : (g : Grid) (s : Position) → OpenMine g s → T (lost g s)
unfolding lost
mine→lost g s o = some_yes (blown s) o.cell (cells g) (→cells g o.cell o.inside) (rw o.state tt)

-- ---- what won means: all safe cells open and no mine

-- in a won game every safe cell is open
pub won→opened : (g : Grid) (s : Position) (j : ℕ) → T (won g s) → j < size g → T (safe g j) → get_or s j 0 ≡ 1
unfolding closed_safe
won→opened g s j w h t =
    eqb→eq (get_or s j 0) 1 (sure (opened s j) (λ u.
    none_counted (λ i. safe g i && unopened s i) (cells g) none_left j (→cells g j h) (and_both (safe g j) (unopened s j) t u)))
  where
    none_left : closed_safe g s ≡ 0
    none_left = eqb→eq (closed_safe g s) 0 (and_left (eqb (closed_safe g s) 0) (not (lost g s)) w)

-- and a game where they are, and that is not lost, is won
pub opened→won : (g : Grid) (s : Position) → ((j : ℕ) → j < size g → T (safe g j) → get_or s j 0 ≡ 1) → (T (lost g s) → ⊥) → T (won g s)
unfolding closed_safe
opened→won g s h n =
    let e = count_none (λ i. safe g i && unopened s i) (cells g)
    (λ j t u. T_not (opened s j) (and_right (safe g j) (unopened s j) u) (rw (h j (cells→ g j t) (and_left (safe g j) (unopened s j) u)) tt)) in
    and_both (eqb (closed_safe g s) 0) (not (lost g s)) (rw e tt) (not_T (lost g s) n)

-- a grid without safe cells is won before any move
pub no_safe_won : (g : Grid) → ((i : ℕ) → i < size g → T (mine g i)) → T (won g (untouched g))
unfolding lost
no_safe_won g h =
    opened→won g (untouched g) (λ j k t. absurd (T_not (mine g j) t (h j k)))
    (λ t.
    let w = yes_some (blown (untouched g)) (cells g) t in
    subst (λ (v : ℕ). T (eqb v 3)) (untouched_at g w.0 (cells→ g w.0 w.1)) w.2)
