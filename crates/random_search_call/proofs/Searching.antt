-- A random search by what it comes to. Assumes nothing.
use Prim.Native.Nat.{ℕ, ◌*◌, ◌≤◌}
use mathlib.Core.Path.{◌∙◌, ◌≡◌, ap, subst}
use mathlib.Core.List.{List, [], ◌∷◌}
use mathlib.Core.Option.{Option, none, some}
use lib.IntN.{ℤ, pos}
use lib.ListN.{length}
use Rattle.game.specs.Grid.{Grid, size}
use Rattle.game.specs.Position.{Position}
use Rattle.game.specs.Area.{area_of}
use Rattle.game.specs.Rounds.{Searched}
use Rattle.game.specs.Calls.{drawn_search, gives}
use Rattle.area.specs.Stages.{held}
use Rattle.random.specs.Promises.{HandsOn, Searching, finish_answer}
use Rattle.random.specs.declared.Finish.{Finish}
use Rattle.std.specs.Prelude as Code
use Rattle.std.specs.Prelude.{None, Some}
use Rattle.supplies.specs.Origins.{Origin, Reads}
use Rattle.supplies.proofs.Standing.{at_used}
use Rattle.answers.specs.Answers.{Keeps}
use Rattle.clears.specs.Clearing.{Cleared}
use Rattle.clears.proofs.Clearing.{area_cleared}

module _ (rows columns : ℕ) (g : Grid) (origin : Origin) (old w w' : List ℤ) (x : Code.Option Finish) where
  pub search_ended : (o : Option Searched) → (ended : Finish) → x ≡ Some ended → ((s : Position) → w ≡ held g s old → w' ≡ area_of g s old) → Searching rows columns g old origin o w x → Keeps (drawn_search g o old) (finish_answer x) w'
  search_ended none ended e f p = cc (e, p.answer)
  search_ended (some r) ended e f p =
      record { answers = ap finish_answer p.answer ∙ ap (λ (used : ℕ). gives (r.least ∷ used ∷ [])) p.reads.used_is; leaves = f _ p.stands.holds_it }

  pub search_dry : (o : Option Searched) → 5 * size g ≤ length old → x ≡ None → Cleared (pos 0) (5 * size g) w w' → Searching rows columns g old origin o w x → Keeps (drawn_search g o old) (finish_answer x) w'
  search_dry none h e cw p = record { answers = ap finish_answer e; leaves = area_cleared g p.position old w w' h p.stands.holds_it cw }
  search_dry (some r) h e cw p = cc (p.answer, e)

-- the supply after it stands where its bytes used say
pub search_hands : (rows columns : ℕ) (g : Grid) (origin : Origin) (old w : List ℤ) (x : Code.Option Finish) (o : Option Searched) → Searching rows columns g old origin o w x → HandsOn origin x
search_hands rows columns g origin old w x none p = record { ended = λ f e. cc (e, p.answer) }
search_hands rows columns g origin old w x (some r) p =
    record {
      ended = λ f e.
          let q : record { clicks = r.least; supply = p.supply } ≡ f = cc (p.answer, e) in
          subst (λ (x : Finish). Reads origin x.supply.used x.supply) q (at_used origin r.next p.supply p.reads);
    }
