-- What is left after a change of states: a mine opened loses and leaves the safe cells, safe cells opened and flags leave whether a mine is open. Assumes nothing.
use Prim.Native.Nat.{ℕ, ◌<◌}
use native.Mathlib.Omega.{arith}
use mathlib.Core.Path.{◌∙◌, ◌≡◌, ap, refl, subst, sym}
use mathlib.Core.Bool.{Bool, ◌&&◌, cond, false, not, true}
use lib.Dec.{T, eqb, eqb→eq}
use lib.ListN.{get_or, length, set}
use Rattle.game.specs.Grid.{Grid, cells, safe, size}
use Rattle.game.specs.Moves.{reveal}
use Rattle.game.specs.Position.{Position, blown, closed, closed_safe, lost, opened, unopened}
use Rattle.game.proofs.Counts.{count_ext}
use Rattle.game.proofs.Members.{some_same, some_yes}
use Rattle.game.proofs.Opens.{click_opens, click_opens→, opens_closed, reveal_at}
use Rattle.game.proofs.Squares.{cells→, →cells}
use Rattle.game.proofs.Truth.{T→true, and_under}
use Rattle.game.proofs.Turns.{set_at}
use borrow.Author.Tests.{eq-eqb}

-- the safe cells still closed, where the same safe cells are open
closed_same : (g : Grid) (s t : Position) → ((j : ℕ) → j < size g → T (safe g j) → opened t j ≡ opened s j) → closed_safe g t ≡ closed_safe g s
unfolding closed_safe
closed_same g s t e =
    count_ext (λ i. safe g i && unopened t i) (λ i. safe g i && unopened s i) (cells g)
    (λ j u. and_under (safe g j) (unopened t j) (unopened s j) (λ k. ap not (e j (cells→ g j u) k)))

-- whether the game is lost, where the same mines are open
lost_same : (g : Grid) (s t : Position) → ((j : ℕ) → j < size g → blown t j ≡ blown s j) → lost g t ≡ lost g s
unfolding lost
lost_same g s t e = some_same (blown t) (blown s) (cells g) (λ j u. e j (cells→ g j u))

-- safe cells opened
pub reveal_lost : (g : Grid) (s : Position) (i : ℕ) → i < size g → length s ≡ size g → lost g (reveal g s i) ≡ lost g s
reveal_lost g s i h l = lost_same g s (reveal g s i) (λ j b. ap (λ (v : ℕ). eqb v 3) (reveal_at g s i j h b l) ∙ go j b (click_opens g s i j) refl)
  where
    go : (j : ℕ) → j < size g → (b : Bool) → click_opens g s i j ≡ b → eqb (cond b 1 (get_or s j 0)) 3 ≡ blown s j
    go j b true e =
        sym (ap (λ (v : ℕ). eqb v 3) (eqb→eq (get_or s j 0) 0 (opens_closed g s i j (click_opens→ g s i j h b (subst T (sym e) tt)).opens)))
    go j b false e = refl

module _ (g : Grid) (s : Position) (i : ℕ) (h : i < size g) (l : length s ≡ size g) where
  -- a state put in place of one that says the same to a test
  set_test : (p : ℕ → Bool) (v j : ℕ) → p v ≡ p (get_or s i 0) → p (get_or (set s i v) j 0) ≡ p (get_or s j 0)
  set_test p v j e = ap p (set_at s i j v (omega arith)) ∙ go (eqb j i) refl
    where
      go : (b : Bool) → eqb j i ≡ b → p (cond b v (get_or s j 0)) ≡ p (get_or s j 0)
      go true q = e ∙ ap (λ (k : ℕ). p (get_or s k 0)) (sym (eqb→eq j i (subst T (sym q) tt)))
      go false q = refl

  -- a state put: the safe cells still closed, and whether a mine is open, are as before where the tests of the two states agree
  pub set_closed : (v : ℕ) → eqb v 1 ≡ opened s i → closed_safe g (set s i v) ≡ closed_safe g s
  set_closed v e = closed_same g s (set s i v) (λ j b t. set_test (λ (x : ℕ). eqb x 1) v j e)

  pub set_lost : (v : ℕ) → eqb v 3 ≡ blown s i → lost g (set s i v) ≡ lost g s
  set_lost v e = lost_same g s (set s i v) (λ j b. set_test (λ (x : ℕ). eqb x 3) v j e)

  -- a closed mine opened
  pub mine_closed : T (closed s i) → closed_safe g (set s i 3) ≡ closed_safe g s
  mine_closed c = set_closed 3 (sym (ap (λ (v : ℕ). eqb v 1) (eqb→eq (get_or s i 0) 0 c)))

  pub mine_lost : true ≡ lost g (set s i 3)
  unfolding lost
  mine_lost =
      sym (T→true (lost g (set s i 3)) (some_yes (blown (set s i 3)) i (cells g) (→cells g i h) (rw (set_at s i i 3 (omega arith), eq-eqb i i refl) tt)))
