-- Bytes of two digits: each stands where its digits stand. Assumes nothing.
use Prim.Native.Nat.{ℕ, zero, suc, ◌+◌, ◌*◌, ◌/◌, ◌%◌, ◌≤◌}
use native.Mathlib.Omega.{arith}
use native.Mathlib.Nat.{zero-add}
use mathlib.Core.Path.{◌≡◌, ap, refl, sym, ◌∙◌}
use mathlib.Core.List.{List, [], ◌∷◌, ◌++◌}
use lib.ListN.{drop, get_or, length}
use lib.Seq.{sets, sets-eq}
use Rattle.game.specs.Lists.{concat_map}
use Rattle.game.specs.Area.{begun}
use Rattle.hex_digits.specs.Hex.{byte_digits, bytes_of, hex_value}
use Rattle.hex_digits.specs.Hex.{two_bytes}

two_more : (k : ℕ) → 2 * suc k ≡ suc (suc (2 * k))
two_more k = omega arith

three_more : (k : ℕ) → 2 * suc k + 1 ≡ suc (suc (2 * k + 1))
three_more k = omega arith

pub byte_here : (line : List ℕ) (k : ℕ) → 2 * k + 2 ≤ length line → get_or (bytes_of line) k 0 ≡ 16 * hex_value (get_or line (2 * k) 0) + hex_value (get_or line (2 * k + 1) 0)
byte_here [] k h = absurd (omega arith)
byte_here (d ∷ []) k h = absurd (omega arith)
byte_here (d ∷ e ∷ ds) zero h = refl
byte_here (d ∷ e ∷ ds) (suc k) h =
    byte_here ds k (omega arith)
    ∙ sym (λ i. 16 * hex_value (get_or (d ∷ e ∷ ds) (two_more k i) 0) + hex_value (get_or (d ∷ e ∷ ds) (three_more k i) 0))

pub length_bytes : (line : List ℕ) → length (bytes_of line) ≡ length line / 2
length_bytes [] = refl
length_bytes (d ∷ []) = refl
length_bytes (d ∷ e ∷ ds) = let h = length_bytes ds in omega arith

-- digits put one after the other
pub sets_more : (l : List ℕ) (i j : ℕ) (vs ws : List ℕ) → j ≡ i + length vs → sets (sets l i vs) j ws ≡ sets l i (vs ++ ws)
sets_more l i j [] ws e = ap (λ (k : ℕ). sets l k ws) (e ∙ bare i)
  where
    bare : (i : ℕ) → i + 0 ≡ i
    bare i = omega arith
sets_more l i j (v ∷ vs) ws e = sets_more _ (suc i) j vs ws (omega arith)

-- digits put at the start of a run
pub sets_begun : (front old : List ℕ) → length front ≤ length old → sets old 0 front ≡ begun front old
sets_begun front old h = sets-eq front old 0 (omega arith) ∙ ap (λ (n : ℕ). front ++ drop n old) (zero-add (length front))

-- two bytes' digits put one after the other
pub two_there : (old a new : List ℕ) (at n high low : ℕ) → a ≡ sets old at (byte_digits high) → new ≡ sets a (at + 2) (byte_digits low) → high ≡ n / 256 % 256 → low ≡ n % 256
    → new ≡ sets old at (concat_map byte_digits (two_bytes n))
two_there old a new at n high low e f g h =
    f
    ∙ (λ i. sets (e i) (at + 2) (byte_digits (h i)))
    ∙ ap (λ (b : ℕ). sets (sets old at (byte_digits b)) (at + 2) (byte_digits (n % 256))) g
    ∙ sets_more old at (at + 2) (byte_digits (n / 256 % 256)) (byte_digits (n % 256)) refl
