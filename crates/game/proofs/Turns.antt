-- What each move does, cell by cell, as a referee reads it: each from what clicks on cells do. Assumes nothing.
use Prim.Native.Nat.{ℕ, ◌<◌}
use native.Mathlib.Omega.{arith}
use native.Mathlib.Decide.{ℕ_discrete}
use mathlib.Core.Path.{◌∙◌, ◌≡◌, ap, refl, subst, sym}
use mathlib.Core.Bool.{Bool, cond}
use mathlib.Core.List.{List, [], ◌∷◌}
use lib.Dec.{T, T_not, eqb, eqb→eq}
use lib.ListN.{get_or, length, set}
use lib.Seq.{get_or-set_other, get_or-set_same}
use Rattle.game.specs.Grid.{Grid, mine, safe, size, square}
use Rattle.game.specs.Lists.{count, has}
use Rattle.game.specs.Moves.{chord, chordable, click_each, flag, left, play, unflag}
use Rattle.game.specs.Position.{Position, blown, closed, flagged, opened, unflagged, unopened}
use Rattle.game.proofs.Clicks.{clicks_blow, clicks_leave, clicks_open}
use Rattle.game.proofs.Members.{has_head, only_one}
use Rattle.game.proofs.Opens.{OpensAt, flagged_off, opens_closed}
use Rattle.game.proofs.Reveals.{Inside, OpenedAmong}
use Rattle.game.proofs.Squares.{square→}
use Rattle.game.proofs.Truth.{T→true}
use borrow.Author.Tests.{eq-eqb, ne_eqb}

pub one_inside : (g : Grid) (i : ℕ) → i < size g → Inside g (i ∷ [])
one_inside g i h x t = rw (only_one x i t) h

pub square_inside : (g : Grid) (i : ℕ) → i < size g → Inside g (square g i)
square_inside g i h x t = (square→ g i x h t).0

-- a state put at one cell
pub set_at : (s : Position) (i j v : ℕ) → i < length s → get_or (set s i v) j 0 ≡ cond (eqb j i) v (get_or s j 0)
set_at s i j v h =
    elim (ℕ_discrete j i) [
      | yes q ↦ rw (q, eq-eqb i i refl) (get_or-set_same s i v 0 h)
      | no n ↦ rw (ne_eqb j i n) (get_or-set_other s i j v 0 n)
    ]

-- clicks leave whatever is not closed and unflagged
settled : (g : Grid) (s : Position) (xs : List ℕ) (j : ℕ) → length s ≡ size g → Inside g xs → j < size g → (T (closed s j) → ⊥) → get_or (click_each g s xs) j 0 ≡ get_or s j 0
settled g s xs j l h hj n =
    clicks_leave g s xs j l h hj (λ t m c. n c) (λ o. n (opens_closed g s o.cell j o.click.opens))

module _ (g : Grid) (s : Position) (i j : ℕ) (hi : i < size g) (l : length s ≡ size g) (hj : j < size g) where
  -- ---- L

  -- L on a closed unflagged mine opens it alone
  pub left_on_mine : T (mine g i) → T (closed s i) → get_or (play g s (left i)) j 0 ≡ cond (eqb j i) 3 (get_or s j 0)
  unfolding play
  left_on_mine m c =
      elim (ℕ_discrete j i) [
        | yes q ↦ clicks_blow g s (i ∷ []) j l (one_inside g i hi) hj (has_head j i [] q) (rw q m) (rw q c)
            ∙ sym (ap (λ (b : Bool). cond b 3 (get_or s j 0)) (eq-eqb j i q))
        | no n ↦ clicks_leave g s (i ∷ []) j l (one_inside g i hi) hj (λ t a b. n (only_one j i t))
            (λ o. T_not (mine g i) (subst (λ (x : ℕ). T (safe g x)) (only_one o.cell i o.among) o.click.is_safe) m)
            ∙ sym (ap (λ (b : Bool). cond b 3 (get_or s j 0)) (ne_eqb j i n))
      ]

  -- L on a closed unflagged safe cell opens it, and what spreads from it if its number is 0
  pub left_on_safe : T (safe g i) → T (closed s i) → OpensAt g s i j → get_or (play g s (left i)) j 0 ≡ 1
  unfolding play
  left_on_safe t c o =
      clicks_open g s (i ∷ []) j l (one_inside g i hi) hj
      (record { cell = i; among = has_head i i [] refl; click = record { is_safe = t; is_closed = c; opens = o } })

  -- and leaves the others
  pub left_on_safe_leaves : T (safe g i) → (OpensAt g s i j → ⊥) → get_or (play g s (left i)) j 0 ≡ get_or s j 0
  unfolding play
  left_on_safe_leaves t n =
      clicks_leave g s (i ∷ []) j l (one_inside g i hi) hj
      (λ u m c. T_not (mine g i) t (subst (λ (x : ℕ). T (mine g x)) (only_one j i u) m))
      (λ o. n (subst (λ (x : ℕ). OpensAt g s x j) (only_one o.cell i o.among) o.click.opens))

  -- ---- F, and the taking away of a flag

  -- F puts a flag on its cell alone
  pub flag_turn : get_or (play g s (flag i)) j 0 ≡ cond (eqb j i) 2 (get_or s j 0)
  unfolding play
  flag_turn = set_at s i j 2 (omega arith)

  -- a flag taken away leaves its cell closed, and the others as they are
  pub unflag_turn : get_or (play g s (unflag i)) j 0 ≡ cond (eqb j i) 0 (get_or s j 0)
  unfolding play
  unflag_turn = set_at s i j 0 (omega arith)

  -- ---- C

  -- C opens the closed unflagged mines of the square
  pub chord_blows : T (has j (square g i)) → T (mine g j) → T (closed s j) → get_or (play g s (chord i)) j 0 ≡ 3
  unfolding play
  chord_blows = clicks_blow g s (square g i) j l (square_inside g i hi) hj

  -- C opens what L on a closed unflagged safe cell of the square would open
  pub chord_opens : OpenedAmong g s (square g i) j → get_or (play g s (chord i)) j 0 ≡ 1
  unfolding play
  chord_opens = clicks_open g s (square g i) j l (square_inside g i hi) hj

  -- and leaves the others
  pub chord_leaves : (T (has j (square g i)) → T (mine g j) → T (closed s j) → ⊥) → (OpenedAmong g s (square g i) j → ⊥) → get_or (play g s (chord i)) j 0 ≡ get_or s j 0
  unfolding play
  chord_leaves = clicks_leave g s (square g i) j l (square_inside g i hi) hj

  -- ---- flags

  -- a flagged cell stays flagged under L and C
  pub spread_stops : T (flagged s j) → (get_or (play g s (left i)) j 0 ≡ 2) × (get_or (play g s (chord i)) j 0 ≡ 2)
  unfolding play
  spread_stops f = (
    settled g s (i ∷ []) j l (one_inside g i hi) hj (flagged_off s j f) ∙ eqb→eq (get_or s j 0) 2 f,
    settled g s (square g i) j l (square_inside g i hi) hj (flagged_off s j f) ∙ eqb→eq (get_or s j 0) 2 f,
  )

-- ---- what flags and opened mines count for

-- C asks how many flags stand in its square, not where they stand
pub chord_blind : (g : Grid) (s t : Position) (i : ℕ) → opened s i ≡ opened t i → count (flagged s) (square g i) ≡ count (flagged t) (square g i)
    → chordable g s i ≡ chordable g t i
unfolding chordable
chord_blind g s t i e k = rw (e, k)

-- a flagged cell is not opened: as a safe cell it counts as closed
pub flagged_closed : (s : Position) (j : ℕ) → T (flagged s j) → T (unopened s j)
flagged_closed s j t = rw (eqb→eq (get_or s j 0) 2 t) tt

-- an opened mine is unflagged
pub blown_unflagged : (g : Grid) (s : Position) (j : ℕ) → T (mine g j) → T (blown s j) → T (unflagged g s j)
blown_unflagged g s j m t = rw (T→true (mine g j) m, eqb→eq (get_or s j 0) 3 t) tt
