-- There is only one price of a line: the promise is a function, and a price or a line's refusal is read back from the numbers. Assumes nothing.
use Prim.Native.Nat.{ℕ, ◌≤◌}
use native.Mathlib.Omega.{arith}
use mathlib.Core.Path.{◌≡◌, ap, refl, sym, ◌∙◌}
use mathlib.Core.Bool.{cond}
use mathlib.Core.List.{List, []}
use mathlib.Core.Option.{Option, none, some}
use lib.Dec.{eqb}
use Rattle.std.specs.Prelude.{Result, Ok, Err}
use Rattle.game.specs.Grid.{Grid}
use Rattle.game.specs.Calls.{Refusal}
use Rattle.refusals.proofs.ReadBack.{refusal_by}
use Rattle.refusals.specs.declared.Refusal as Refused
use Rattle.refusals.specs.declared.Refusal.TheVariants.{Shape, Board, Work, Trace, Rounds, Draws, Move, Frame, Size, File, Number, Key}
use Rattle.lines.specs.BoardLine.{line_grid, line_refusal}
use Rattle.lines.specs.PriceLine.{Price, held_price}
use Rattle.lines.specs.declared.price.Price as Struct
use Rattle.lines.proofs.Verdict.{line_numbers, number_if}
use Rattle.line_price.specs.Prices.{price_of, price_or}

-- a line's number is no more than SIZE's
low_number : (line : List ℕ) → (price_of line).number ≤ 9
unfolding price_of
low_number line = omega (arith, line_numbers line, go (line_refusal line) (line_grid line))
  where
    go : (o : Option Refusal) (g : Grid) → (price_or o g).number ≡ number_if o
    go none g = refl
    go (some f) g = refl

-- a price or a refusal, from its numbers
priced_by : Price → Result Struct.Price Refused.Refusal
priced_by p =
    cond (eqb p.number 0) (Ok (record { units = p.units; greedy = p.greedy; openings_first = p.openings-first })) (Err (refusal_by (record { number = p.number; values = [] })))

back : (r : Result Struct.Price Refused.Refusal) → (held_price r).number ≤ 9 → priced_by (held_price r) ≡ r
unfolding priced_by
back (Ok p) h = refl
back (Err Shape) h = refl
back (Err Board) h = refl
back (Err Work) h = refl
back (Err Trace) h = refl
back (Err Rounds) h = refl
back (Err Draws) h = refl
back (Err Move) h = refl
back (Err Frame) h = refl
back (Err Size) h = refl
back (Err File) h = refl
back (Err (Number cell)) h = absurd (omega arith)
back (Err Key) h = refl

-- a line priced
pub price_once : (line : List ℕ) (r r' : Result Struct.Price Refused.Refusal) → held_price r ≡ price_of line → held_price r' ≡ price_of line → r ≡ r'
price_once line r r' e e' =
    let n : (held_price r).number ≡ (price_of line).number = ap (λ (p : Price). p.number) e in
    let n' : (held_price r').number ≡ (price_of line).number = ap (λ (p : Price). p.number) e' in
    sym (back r (omega (arith, low_number line))) ∙ ap priced_by (e ∙ sym e') ∙ back r' (omega (arith, low_number line))
