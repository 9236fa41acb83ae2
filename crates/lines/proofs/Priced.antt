-- Digits put one after the other are the digits put at once, where they have room. Assumes nothing.
use Prim.Native.Nat.{ℕ, ◌+◌, ◌%◌, ◌<◌, ◌≤◌}
use native.Mathlib.Omega.{arith}
use mathlib.Core.Path.{◌≡◌, ap, refl, sym, ◌∙◌}
use mathlib.Core.Bool.{Bool, cond}
use mathlib.Core.List.{List, ◌++◌}
use lib.ListN.{drop, length, take}
use lib.Seq.{sets, sets-eq}
use borrow.Author.Tests.{le-leb, lt-leb}
use Rattle.game.specs.Lists.{concat_map}
use Rattle.hex_digits.specs.Hex.{byte_digits, put_digits}
use Rattle.lines.specs.PriceLine.{Price, price_digits}
use Rattle.hex_digits.specs.Hex.{two_bytes}
use Rattle.hex_digits.proofs.Bytes.{sets_more}

pub put_none : (at : ℕ) (ds old : List ℕ) → length old < at + length ds → old ≡ put_digits at ds old
unfolding put_digits
put_none at ds old h =
    sym (ap (λ (t : Bool). cond t (take at old ++ ds ++ drop (at + length ds) old) old) (lt-leb (at + length ds) (length old) h))

pub put_there : (at : ℕ) (ds old : List ℕ) → at + length ds ≤ length old → sets old at ds ≡ put_digits at ds old
unfolding put_digits
put_there at ds old h =
    sets-eq ds old at h
    ∙ sym (ap (λ (t : Bool). cond t (take at old ++ ds ++ drop (at + length ds) old) old) (le-leb (at + length ds) (length old) h))

-- the digits of two bytes
abbrev pub two_digits : ℕ → List ℕ
two_digits n = concat_map byte_digits (two_bytes n)

pub length_price : (p : Price) → length (price_digits p) ≡ 14
unfolding price_digits
length_price p = refl

pub price_none : (at : ℕ) (p : Price) (old : List ℕ) → length old < at + 14 → old ≡ put_digits at (price_digits p) old
price_none at p old h = put_none at (price_digits p) old (omega (arith, length_price p))

pub price_there : (at : ℕ) (p : Price) (old a b c new : List ℕ) (number units greedy first : ℕ) → at + 14 ≤ length old
    → a ≡ sets old at (byte_digits number) → b ≡ sets a (at + 2) (two_digits units) → c ≡ sets b (at + 6) (two_digits greedy) → new ≡ sets c (at + 10) (two_digits first)
    → number ≡ p.number % 256 → units ≡ p.units → greedy ≡ p.greedy → first ≡ p.openings-first
    → new ≡ put_digits at (price_digits p) old
unfolding price_digits
price_there at p old a b c new number units greedy first h e f g k n u r o =
    k
    ∙ ap (λ (l : List ℕ). sets l (at + 10) (two_digits first))
    (g ∙ ap (λ (l : List ℕ). sets l (at + 6) (two_digits greedy))
    (f ∙ ap (λ (l : List ℕ). sets l (at + 2) (two_digits units)) e ∙ sets_more old at (at + 2) (byte_digits number) (two_digits units) refl)
    ∙ sets_more old at (at + 6) (byte_digits number ++ two_digits units) (two_digits greedy) refl)
    ∙ sets_more old at (at + 10) ((byte_digits number ++ two_digits units) ++ two_digits greedy) (two_digits first) refl
    ∙ (λ i. sets old at (byte_digits (n i) ++ two_digits (u i) ++ two_digits (r i) ++ two_digits (o i)))
    ∙ put_there at (price_digits p) old (omega (arith, length_price p))
