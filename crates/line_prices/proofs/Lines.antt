-- A line that ended: its fourteen digits and a line feed, put one after the other, are its answer put at once. Assumes nothing.
use Prim.Native.Nat.{ℕ, ◌+◌, ◌≤◌}
use native.Mathlib.Omega.{arith}
use mathlib.Core.Path.{◌≡◌, ap, sym, ◌∙◌}
use mathlib.Core.List.{List, [], ◌∷◌, ◌++◌}
use lib.ListN.{length, length-append, set, take}
use Rattle.hex_digits.specs.Hex.{put_digits}
use Rattle.lines.specs.PriceLine.{Price, price_digits}
use Rattle.hex_digits.proofs.Bytes.{sets_more}
use Rattle.lines.proofs.Priced.{length_price, put_there}
use Rattle.line_price.specs.Prices.{answer_line, price_of}
use Rattle.line_prices.specs.Blocks.{Desk}
use Rattle.line_prices.specs.Bytes.{Room, byte_read}

pub feed_put : (at : ℕ) (line old : List ℕ) (p : Price) → at + 15 ≤ length old → p ≡ price_of line → set (put_digits at (price_digits p) old) (at + 14) 10 ≡ put_digits at (answer_line line) old
unfolding answer_line
feed_put at line old p room e =
    let ds = price_digits p in
    let long : length ds ≡ 14 = length_price p in
    ap (λ (l : List ℕ). set l (at + 14) 10) (sym (put_there at ds old (omega arith)))
    ∙ sets_more old at (at + 14) ds (10 ∷ []) (omega arith)
    ∙ put_there at (ds ++ 10 ∷ []) old (omega (arith, length-append ds (10 ∷ [])))
    ∙ ap (λ (x : Price). put_digits at (price_digits x ++ 10 ∷ []) old) e

pub line_fed : (d : Desk) (out : List ℕ) (p : Price) (kept written : ℕ) → Room d 1 → p ≡ price_of (take d.count d.held) → out ≡ put_digits d.written (price_digits p) d.out
    → kept ≡ 0 → written ≡ d.written + 15 → ◌≡◌ {A = Desk} (record { held = d.held; count = kept; out = set out (d.written + 14) 10; written = written }) (byte_read d 10)
line_fed d out p kept written r e q k w =
    let put : set out (d.written + 14) 10 ≡ put_digits d.written (answer_line (take d.count d.held)) d.out =
    ap (λ (l : List ℕ). set l (d.written + 14) 10) q ∙ feed_put d.written (take d.count d.held) d.out p (omega (arith, r.out_room)) e in
    λ i. record { held = d.held; count = k i; out = put i; written = w i }
