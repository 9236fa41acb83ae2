-- A refusal, which names one thing at most, leaves a key's run. Assumes nothing.
use Prim.Native.Nat.{ℕ, ◌≤◌}
use native.Mathlib.Omega.{arith}
use mathlib.Core.Path.{◌∙◌, ◌≡◌, ap, refl, sym}
use mathlib.Core.Bool.{Bool, cond, false, true}
use mathlib.Core.List.{List, [], ◌∷◌}
use lib.Dec.{eqb}
use lib.ListN.{drop, length}
use Rattle.game.specs.Calls.{Answer, named_by, refuses}
use Rattle.game.specs.Calls as Game
use Rattle.refusals.proofs.ReadBack.{names_one}
use Rattle.c_answers.specs.Names.{key_left, key_put}

-- a refusal's values are fewer than a key stands behind
few_values : (vs : List ℕ) → length vs ≤ 1 → drop 2 vs ≡ []
few_values [] h = refl
few_values (v ∷ []) h = refl
few_values (v ∷ u ∷ vs) h = absurd (omega arith)

-- nothing is put after a refusal
pub left_alone : (run : List ℕ) {a : Answer} (f : Game.Refusal) → a ≡ refuses f → run ≡ key_left a run
left_alone run f so = sym (ap (λ (x : Answer). key_left x run) so ∙ ap (λ (vs : List ℕ). key_put vs run) (few_values (named_by f) (names_one f)) ∙ either (eqb (length run) 6))
  where
    either : (b : Bool) → cond b run run ≡ run
    either true = refl
    either false = refl
