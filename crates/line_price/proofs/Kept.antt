-- The first 517 bytes of a line decide its answer: over 516 digits are FRAME whatever they are. Assumes nothing.
use Prim.Native.Nat.{ℕ, ◌<◌}
use native.Mathlib.Omega.{arith}
use mathlib.Core.Path.{◌≡◌, refl, ap, sym, ◌∙◌}
use mathlib.Core.Bool.{Bool, false, true}
use mathlib.Core.List.{List, [], ◌∷◌, ◌++◌}
use mathlib.Core.Option.{Option, some}
use lib.Dec.{ltb}
use lib.ListN.{length, take}
use lib.Seq.{length-take-le, take_all}
use borrow.Author.Tests.{ltb-false, ltb-true}
use Rattle.game.specs.Grid.{Grid}
use Rattle.game.specs.Calls.{Refusal, frame}
use Rattle.lines.specs.BoardLine.{line_grid}
use Rattle.lines.specs.PriceLine.{Price, price_digits}
use Rattle.lines.proofs.Verdict.{long_refused}
use Rattle.line_price.specs.Prices.{answer_line, price_of, price_or}

-- fourteen digits and a line feed
pub answer_long : (line : List ℕ) → length (answer_line line) ≡ 15
unfolding answer_line price_digits
answer_long line = refl

-- a line of more than 516 bytes is answered with FRAME
long_answer : (line : List ℕ) → 516 < length line → (g : Grid) → price_of line ≡ price_or (some frame) g
unfolding price_of
long_answer line h g = ap (λ (o : Option Refusal). price_or o (line_grid line)) (long_refused line h)

pub answer_kept : (line : List ℕ) → answer_line (take 517 line) ≡ answer_line line
unfolding answer_line
answer_kept line = go (ltb 517 (length line)) refl
  where
    go : (t : Bool) → ltb 517 (length line) ≡ t → answer_line (take 517 line) ≡ answer_line line
    go false e = ap answer_line (take_all 517 line (ltb-false 517 (length line) e))
    go true e =
        let h = ltb-true 517 (length line) e in
        ap (λ (p : Price). price_digits p ++ 10 ∷ [])
        (long_answer (take 517 line) (omega (arith, length-take-le 517 line (omega arith))) (line_grid line)
        ∙ sym (long_answer line (omega arith) (line_grid line)))
