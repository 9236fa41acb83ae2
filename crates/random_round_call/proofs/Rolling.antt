-- A random round by what it comes to. Assumes nothing.
use Prim.Native.Nat.{ℕ, ◌*◌, ◌≤◌}
use native.Mathlib.Omega.{arith}
use mathlib.Core.Path.{◌∙◌, ◌≡◌, ap, refl, subst}
use mathlib.Core.List.{List, [], ◌∷◌}
use mathlib.Core.Option.{Option, none, some}
use lib.IntN.{ℤ, pos}
use lib.ListN.{length}
use Rattle.game.specs.Draws.{Places, Source}
use Rattle.game.specs.Grid.{Grid, size}
use Rattle.game.specs.Position.{Position}
use Rattle.game.specs.Area.{area_of}
use Rattle.game.specs.Rounds.{Round, moves_of, random_round}
use Rattle.game.specs.Calls.{drawn_round, gives}
use Rattle.game.proofs.Randoms.{random_sound}
use Rattle.area.specs.Stages.{held}
use Rattle.random.specs.Promises.{HandsOn, Rolling, finish_answer}
use Rattle.random.specs.declared.Finish.{Finish}
use Rattle.std.specs.Prelude as Code
use Rattle.std.specs.Prelude.{None, Some}
use Rattle.supplies.specs.Origins.{Origin, Reads}
use Rattle.supplies.proofs.Standing.{at_used}
use Rattle.rounds.proofs.Ending.{listed_moves}
use Rattle.answers.specs.Answers.{KeepsList}
use Rattle.clears.specs.Clearing.{Cleared}
use Rattle.clears.proofs.Clearing.{area_cleared, list_cleared}

module _ (rows columns : ℕ) (g : Grid) (origin : Origin) (old w w' : List ℤ) (x : Code.Option Finish) where
  pub round_ended : (o : Option Round) (before l : List ℕ) → ((r : Round) → o ≡ some r → length (moves_of r.steps) ≤ length before)
      → (ended : Finish) → x ≡ Some ended → ((s : Position) → w ≡ held g s old → w' ≡ area_of g s old) → Rolling rows columns g old origin o before w l x → KeepsList (drawn_round g o old before) (finish_answer x) w' l
  round_ended none before l few ended e f p = cc (e, p.answer)
  round_ended (some r) before l few ended e f p =
      record {
        answers = ap finish_answer p.answer ∙ ap (λ (used : ℕ). gives (length (moves_of r.steps) ∷ used ∷ [])) p.reads.used_is;
        leaves = f _ p.stands.holds_it;
        lists = p.noted ∙ listed_moves (moves_of r.steps) before (few r refl);
      }

  pub round_dry : (o : Option Round) (before l l' : List ℕ) → 5 * size g ≤ length old → size g ≤ length before → x ≡ None → Cleared (pos 0) (5 * size g) w w' → Cleared 0 (size g) l l'
      → Rolling rows columns g old origin o before w l x → KeepsList (drawn_round g o old before) (finish_answer x) w' l'
  round_dry none before l l' h b e cw cl p =
      record {
        answers = ap finish_answer e;
        leaves = area_cleared g p.position old w w' h p.stands.holds_it cw;
        lists = list_cleared g before l l' b p.long p.past cl;
      }
  round_dry (some r) before l l' h b e cw cl p = cc (p.answer, e)

-- the supply after it stands where its bytes used say
pub round_hands : (rows columns : ℕ) (g : Grid) (origin : Origin) (old w : List ℤ) (x : Code.Option Finish) (o : Option Round) (before l : List ℕ) → Rolling rows columns g old origin o before w l x → HandsOn origin x
round_hands rows columns g origin old w x none before l p = record { ended = λ f e. cc (e, p.answer) }
round_hands rows columns g origin old w x (some r) before l p =
    record {
      ended = λ f e.
          let q : record { clicks = length (moves_of r.steps); supply = p.supply } ≡ f = cc (p.answer, e) in
          subst (λ (x : Finish). Reads origin x.supply.used x.supply) q (at_used origin r.next p.supply p.reads);
    }

-- the moves of a random round are no more than the cells
pub few_moves : (g : Grid) (source : Source) → Places source → (n : ℕ) (r : Round) → size g ≤ n → random_round g source 0 ≡ some r → length (moves_of r.steps) ≤ n
few_moves g source p n r h e = let d = random_sound g source p 0 r e in omega (arith, d.at_most_units, d.units_at_most)
