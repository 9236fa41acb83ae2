-- The 3BV count and the early count by what they come to. Assumes nothing.
use Prim.Native.Nat.{ℕ, ◌*◌}
use mathlib.Core.Path.{◌∙◌, ◌≡◌, ap, sym}
use mathlib.Core.Bool.{Bool}
use mathlib.Core.List.{List, [], ◌∷◌}
use mathlib.Core.Option.{none, some}
use lib.Dec.{eqb, leb}
use lib.IntN.{ℤ, pos}
use Rattle.game.specs.Grid.{Grid, size}
use Rattle.game.specs.Lists.{bit}
use Rattle.game.specs.Openings.{three_bv}
use Rattle.game.specs.Position.{untouched}
use Rattle.game.specs.Area.{area_of, cleared_area}
use Rattle.game.specs.Calls.{Refusal, at_least_call, first_given, grid_checks, gives, refuses, three_bv_call}
use Rattle.area.specs.Numbers.{HasCells}
use Rattle.answers.specs.Answers.{Keeps}
use Rattle.clears.specs.Clearing.{Cleared}
use Rattle.early.specs.Walks.{Stopped}
use Rattle.early.specs.declared.walks.Stop.{Stop}
use Rattle.game.proofs.Early.{lacking_tells, stops_inside}
use Rattle.answers.proofs.Promises.{keeps_else, keeps_refused}
use Rattle.clears.proofs.Clearing.{cells_cleared}

pub count_refused : (g : Grid) (w : List ℤ) (f : Refusal) → some f ≡ first_given (grid_checks g w) → Keeps (three_bv_call g w) (refuses f) w
unfolding three_bv_call
count_refused g w f e = keeps_refused (first_given (grid_checks g w)) f w (record { answer = gives (three_bv g ∷ []); work = area_of g (untouched g) w }) e

pub count_answered : (g : Grid) (w w' : List ℤ) (u : ℕ) → none ≡ first_given (grid_checks g w) → u ≡ three_bv g → w' ≡ area_of g (untouched g) w
    → Keeps (three_bv_call g w) (gives (u ∷ [])) w'
unfolding three_bv_call
count_answered g w w' u e p q =
    keeps_else (first_given (grid_checks g w)) (gives (u ∷ [])) w w' (record { answer = gives (three_bv g ∷ []); work = area_of g (untouched g) w }) e
    (record { answers = ap (λ (n : ℕ). gives (n ∷ [])) p; leaves = q })

pub least_refused : (g : Grid) (w : List ℤ) (units : ℕ) (f : Refusal) → some f ≡ first_given (grid_checks g w) → Keeps (at_least_call g w units) (refuses f) w
unfolding at_least_call
least_refused g w units f e =
    keeps_refused (first_given (grid_checks g w)) f w (record { answer = gives (bit (leb units (three_bv g)) ∷ []); work = cleared_area g w }) e

-- where the walk stopped it is certain, so whether any unit lacks tells
pub least_answered : (g : Grid) (w w₁ w' : List ℤ) (units : ℕ) (r : Stop) (b : Bool) → none ≡ first_given (grid_checks g w) → HasCells w (size g) → Stopped g units w r w₁
    → Cleared (pos 0) (5 * size g) w₁ w' → b ≡ eqb r.lacking 0 → Keeps (at_least_call g w units) (gives (bit b ∷ [])) w'
unfolding at_least_call
least_answered g w w₁ w' units r b e room s c k =
    let i = r.cell in
    let tells = lacking_tells g units i r.lacking s.counts (stops_inside g units i s.stops) s.stops.is_certain in
    keeps_else (first_given (grid_checks g w)) (gives (bit b ∷ [])) w w' (record { answer = gives (bit (leb units (three_bv g)) ∷ []); work = cleared_area g w }) e
    (record { answers = ap (λ (x : Bool). gives (bit x ∷ [])) (k ∙ sym tells); leaves = cells_cleared g w w₁ w' room s.beyond.long s.beyond.past c })
