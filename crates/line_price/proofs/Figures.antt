-- A board that was taken is refused by no call: the calls answer its figures, and a price is its parts. Assumes nothing.
use Prim.Native.Nat.{ℕ, ◌*◌}
use native.Mathlib.Omega.{arith}
use mathlib.Core.Path.{◌≡◌, ap, sym}
use mathlib.Core.Bool.{Bool}
use mathlib.Core.List.{List, [], ◌∷◌, ◌++◌}
use mathlib.Core.Option.{Option, none}
use lib.IntN.{ℤ, pos}
use lib.ListN.{length, length-replicate, replicate}
use Rattle.std.specs.Prelude.{Result}
use Rattle.std.specs.Result.{result_unwrap_or}
use Rattle.refusals.specs.Names.{answer_of}
use Rattle.refusals.specs.declared.Refusal as Refused
use Rattle.game.specs.Grid.{Grid}
use Rattle.game.specs.Openings.{three_bv}
use Rattle.game.specs.Position.{untouched}
use Rattle.game.specs.Area.{area_of}
use Rattle.game.specs.Rounds.{greedy_steps, moves_of, openings_first_steps, round_steps}
use Rattle.game.specs.Calls.{Refusal, first_given, gives, grid_checks, list_check, price_call, priced_round, three_bv_call, trace, unless, unless_listed}
use Rattle.checks.proofs.Verdict.{all_fine}
use Rattle.checks.proofs.More.{enough}
use Rattle.lines.specs.PriceLine.{Price}
use Rattle.lines.proofs.LineRead.{given_one}
use Rattle.line_price.specs.Prices.{price_or}
use Rattle.line_price.specs.Taken.{Taken}

-- the value that a call gives
pub value_given : (r : Result ℕ Refused.Refusal) (n : ℕ) → answer_of (λ (k : ℕ). k ∷ []) r ≡ gives (n ∷ []) → result_unwrap_or r 0 ≡ n
value_given r n e = ap (λ (x : Result ℕ Refused.Refusal). result_unwrap_or x 0) (given_one r n e)

-- the work area and the list that are lent
abbrev pub area : List ℤ
area = replicate 10240 (pos 0)

abbrev pub list : List ℕ
list = replicate 2048 0

module _ (g : Grid) (taken : Taken g.rows g.columns g.values) where
  fine : none ≡ first_given (grid_checks g area)
  fine =
      all_fine g area (record { shaped = taken.shaped; whole = taken.whole; room = omega (arith, taken.few, length-replicate 10240 (pos 0)) })

  list_fine : none ≡ first_given (grid_checks g area ++ list_check g list ∷ [])
  list_fine = enough (grid_checks g area) (length list) (g.rows * g.columns) trace fine (omega (arith, taken.few, length-replicate {A = ℕ} 2048 0))

  pub units_answer : (three_bv_call g area).answer ≡ gives (three_bv g ∷ [])
  unfolding three_bv_call
  units_answer = ap (λ (o : Option Refusal). (unless o area (record { answer = gives (three_bv g ∷ []); work = area_of g (untouched g) area })).answer) (sym fine)

  pub clicks_answer : (openings-first : Bool) → (price_call openings-first g area list).answer ≡ gives (length (moves_of (round_steps openings-first g)) ∷ [])
  unfolding price_call
  clicks_answer openings-first = ap (λ (o : Option Refusal). (unless_listed o area list (priced_round openings-first g area list)).answer) (sym list_fine)

-- ---- a price by its parts

pub by_figures : (g : Grid) (p : Price) → p.number ≡ 0 → p.units ≡ three_bv g → p.greedy ≡ length (moves_of (greedy_steps g)) → p.openings-first ≡ length (moves_of (openings_first_steps g)) → p ≡ price_or none g
by_figures g p n u k o = λ i. record { number = n i; units = u i; greedy = k i; openings-first = o i }
