-- L if the cell is closed; and the moves at a chosen cell one after the other. Assumes nothing.
use Prim.Native.Nat.{ℕ, ◌*◌, ◌<◌}
use native.Mathlib.Decide.{ℕ_discrete}
use mathlib.Core.Path.{◌∙◌, ◌≡◌, ap, refl, subst, sym}
use mathlib.Core.Bool.{Bool, ◌&&◌, cond, false, not, true}
use mathlib.Core.List.{List, [], ◌++◌, ◌∷◌, map}
use lib.Dec.{T, T_not, eqb}
use lib.IntN.{ℤ}
use lib.ListN.{set}
use lib.Seq.{get_or-set_other}
use Rattle.area.specs.Numbers.{state_at}
use Rattle.moves.specs.declared.State.{State}
use Rattle.area.specs.Stages.{Stands}
use Rattle.game.specs.Grid.{Grid, mine, safe, size, square, zero_cell}
use Rattle.game.specs.Lists.{keep}
use Rattle.game.specs.Moves.{after, chord, flag, left}
use Rattle.game.specs.Position.{Position, Tidy, closed, closed_units, flagged, unflagged}
use Rattle.game.specs.Rounds.{moves_at}
use Rattle.play.specs.Promises.{MinesFlagged}
use Rattle.moves.specs.Promises.{Made}
use Rattle.game.proofs.Members.{keep_ext}
use Rattle.game.proofs.Legal.{flagged_mines}
use Rattle.game.proofs.Narrow.{after_append, play_left}
use Rattle.game.proofs.Reveal.{reveal_one}
use Rattle.game.proofs.Truth.{T→true, and_under, no→false}
use Rattle.play.proofs.Reveals.{is_closed, not_closed}
use Rattle.moves.proofs.Joins.{made_both, made_none}

module _ (rows columns : ℕ) (g : Grid) (s : Position) (old w : List ℤ) (i : ℕ) (h : i < rows * columns) (st : Stands rows columns g s old w) where
  pub left_none : (k : ℕ) (list : List ℕ) (t : State) → k ≡ state_at w i → (k ≡ 0 → ⊥) → Tidy g s → t.units ≡ closed_units g s
      → Made rows columns g s old (cond (closed s i) (left i ∷ []) []) list t w list t
  left_none k list t e n f c =
      rw (no→false (closed s i) (not_closed rows columns g s old w i h st k e n)) (made_none rows columns g s old w list t st f c)

  pub left_one : (k : ℕ) (list : List ℕ) (t : State) (w' : List ℤ) (list' : List ℕ) (t' : State) → k ≡ state_at w i → k ≡ 0
      → (T (closed s i) → Made rows columns g s old (left i ∷ []) list t w' list' t')
      → Made rows columns g s old (cond (closed s i) (left i ∷ []) []) list t w' list' t'
  left_one k list t w' list' t' e z q =
      let u = is_closed rows columns g s old w i h st k e z in
      rw (T→true (closed s i) u) (q u)

-- ---- at a chosen cell

-- L on a safe cell that is no 0-cell leaves the flags around it to be set
flags_left : (g : Grid) (s : Position) (i : ℕ) → T (safe g i) → (T (zero_cell g i) → ⊥)
    → keep (unflagged g (after g s (cond (closed s i) (left i ∷ []) []))) (square g i) ≡ keep (unflagged g s) (square g i)
flags_left g s i t n = go (closed s i) refl
  where
    same : (y : ℕ) → unflagged g (set s i 1) y ≡ unflagged g s y
    same y =
        elim (ℕ_discrete y i) [
          | yes e ↦ and_under (mine g y) (not (flagged (set s i 1) y)) (not (flagged s y)) (λ u. absurd (T_not (mine g i) t (rw e at u)))
          | no e ↦ ap (λ (k : ℕ). mine g y && not (eqb k 2)) (get_or-set_other s i y 1 0 e)
        ]

    go : (b : Bool) → closed s i ≡ b → keep (unflagged g (after g s (cond b (left i ∷ []) []))) (square g i) ≡ keep (unflagged g s) (square g i)
    go true e =
        ap (λ (p : Position). keep (unflagged g p) (square g i)) (play_left g s i t ∙ reveal_one g s i t (rw e tt) n)
        ∙ keep_ext (unflagged g (set s i 1)) (unflagged g s) (square g i) (λ y u. same y)
    go false e = refl

pub acted : (rows columns : ℕ) (g : Grid) (s : Position) (old : List ℤ) (i : ℕ) (list : List ℕ) (t : State) (w₁ : List ℤ) (l₁ : List ℕ) (t₁ : State)
    (w₂ : List ℤ) (l₂ : List ℕ) (t₂ : State) (w₃ : List ℤ) (l₃ : List ℕ) (t₃ : State) → Tidy g s → i < size g → T (safe g i) → (T (zero_cell g i) → ⊥)
    → Made rows columns g s old (cond (closed s i) (left i ∷ []) []) list t w₁ l₁ t₁
    → ((p : Position) → Stands rows columns g p old w₁ → Tidy g p → t₁.units ≡ closed_units g p → Made rows columns g p old (map flag (keep (unflagged g p) (square g i))) l₁ t₁ w₂ l₂ t₂)
    → ((p : Position) → Stands rows columns g p old w₂ → Tidy g p → MinesFlagged g p i → t₂.units ≡ closed_units g p → Made rows columns g p old (chord i ∷ []) l₂ t₂ w₃ l₃ t₃)
    → Made rows columns g s old (moves_at g s i) list t w₃ l₃ t₃
unfolding moves_at
acted rows columns g s old i list t w₁ l₁ t₁ w₂ l₂ t₂ w₃ l₃ t₃ tidy inside k n a f h =
    let first = cond (closed s i) (left i ∷ []) [] in
    let flags = map flag (keep (unflagged g s) (square g i)) in
    let p = after g s first in
    let b : Made rows columns g p old flags l₁ t₁ w₂ l₂ t₂ =
    subst (λ (js : List ℕ). Made rows columns g p old (map flag js) l₁ t₁ w₂ l₂ t₂) (flags_left g s i k n) (f p a.stands a.tidy a.left_units) in
    let ab = made_both rows columns g s old first flags list t w₁ l₁ t₁ w₂ l₂ t₂ a b in
    made_both rows columns g s old (first ++ flags) (chord i ∷ []) list t w₂ l₂ t₂ w₃ l₃ t₃ ab (h (after g s (first ++ flags)) ab.stands ab.tidy
    (subst (λ (p : Position). MinesFlagged g p i) (sym (after_append g first flags s)) (flagged_mines g s i tidy inside k n)) ab.left_units)
