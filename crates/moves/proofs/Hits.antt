-- L on closed 0-cells in turn: what is read of a cell says whether its number is 0. Assumes nothing.
use Prim.Native.Nat.{ℕ, ◌*◌, ◌<◌}
use native.Mathlib.Omega.{arith}
use mathlib.Core.Path.{◌∙◌, ◌≡◌, ap, refl, subst, sym}
use mathlib.Core.Bool.{Bool, ◌&&◌, cond, false, true}
use mathlib.Core.List.{List, [], ◌++◌, ◌∷◌}
use lib.Dec.{T, eqb→eq}
use lib.IntN.{ℤ}
use Rattle.area.specs.Numbers.{content_at}
use Rattle.moves.specs.declared.State.{State}
use Rattle.area.specs.Stages.{Stands}
use Rattle.game.specs.Grid.{Grid, safe, zero_cell}
use Rattle.game.specs.Moves.{Move, after, left, play}
use Rattle.game.specs.Position.{Position, Tidy, closed, closed_units}
use Rattle.game.specs.Rounds.{after_step, click_step, moves_of, opening_clicks}
use Rattle.moves.specs.Promises.{Made}
use Rattle.moves.specs.Walks.{Over, hits_from}
use Rattle.game.proofs.Truth.{and_left, no→false}
use Rattle.play.proofs.Reveals.{is_safe, is_zero}
use Rattle.moves.proofs.Joins.{made_none}
use borrow.Author.Tests.{eq-eqb}

-- ---- cells in turn

abbrev HitsFrom : Grid → Position → ℕ → List ℕ → Bool → List Move
HitsFrom g s x xs b =
    moves_of (elim b [ true ↦ click_step x ∷ opening_clicks g (after_step g s (click_step x)) xs | false ↦ opening_clicks g s xs ])

pub hits_append : (g : Grid) (xs ys : List ℕ) (s : Position) → hits_from g s (xs ++ ys) ≡ hits_from g s xs ++ hits_from g (after g s (hits_from g s xs)) ys
hits_append g [] ys s = refl
hits_append g (x ∷ xs) ys s = go (zero_cell g x && closed s x) (hits_append g xs ys (play g s (left x))) (hits_append g xs ys s)
  where
    go : (b : Bool)
        → hits_from g (play g s (left x)) (xs ++ ys) ≡ hits_from g (play g s (left x)) xs ++ hits_from g (after g (play g s (left x)) (hits_from g (play g s (left x)) xs)) ys
        → hits_from g s (xs ++ ys) ≡ hits_from g s xs ++ hits_from g (after g s (hits_from g s xs)) ys
        → HitsFrom g s x (xs ++ ys) b ≡ HitsFrom g s x xs b ++ hits_from g (after g s (HitsFrom g s x xs b)) ys
    go true hit miss = ap (λ (ms : List Move). left x ∷ ms) hit
    go false hit miss = miss

-- ---- one cell

module _ (rows columns : ℕ) (w : List ℤ) (list : List ℕ) (t : State) (i : ℕ) (h : i < rows * columns) (k : ℕ) (e : k ≡ content_at w i) where
  pub hit_none : (k ≡ 1 → ⊥) → Over hits_from (i ∷ []) rows columns w list t w list t
  hit_none n = record { made = on }
    where
      on : (g : Grid) (s : Position) (old : List ℤ) → Stands rows columns g s old w → Tidy g s → t.units ≡ closed_units g s → Made rows columns g s old (hits_from g s (i ∷ [])) list t w list t
      on g s old st f c =
          subst (λ (ms : List Move). Made rows columns g s old ms list t w list t) (sym (ap (HitsFrom g s i []) (no→false (zero_cell g i && closed s i) not_zero)))
          (made_none rows columns g s old w list t st f c)
        where
          not_zero : T (zero_cell g i && closed s i) → ⊥
          not_zero u =
              let z = and_left (zero_cell g i) (closed s i) u in
              n (eqb→eq k 1 (subst T (sym (is_zero rows columns g s old w i h st k e)) z))

  pub hit_zero : (w' : List ℤ) (list' : List ℕ) (t' : State) → k ≡ 1
      → ((g : Grid) (s : Position) (old : List ℤ) → Stands rows columns g s old w → Tidy g s → T (safe g i) → t.units ≡ closed_units g s
      → Made rows columns g s old (cond (closed s i) (left i ∷ []) []) list t w' list' t')
      → Over hits_from (i ∷ []) rows columns w list t w' list' t'
  hit_zero w' list' t' one q = record { made = on }
    where
      either : (g : Grid) (s : Position) (b : Bool) → cond b (left i ∷ []) [] ≡ HitsFrom g s i [] b
      either g s true = refl
      either g s false = refl

      on : (g : Grid) (s : Position) (old : List ℤ) → Stands rows columns g s old w → Tidy g s → t.units ≡ closed_units g s → Made rows columns g s old (hits_from g s (i ∷ [])) list t w' list' t'
      on g s old st f c =
          let v = is_safe rows columns g s old w i h st k e (λ z. absurd (omega arith)) in
          let z : zero_cell g i ≡ true = sym (is_zero rows columns g s old w i h st k e) ∙ eq-eqb k 1 one in
          subst (λ (ms : List Move). Made rows columns g s old ms list t w' list' t')
          (either g s (closed s i) ∙ ap (λ (b : Bool). HitsFrom g s i [] (b && closed s i)) (sym z)) (q g s old st f v c)
