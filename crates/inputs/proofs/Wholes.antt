-- What follows the bytes at which reading stopped changes no answer that enough bytes decide: nothing follows, or they are enough. Assumes nothing.
use Prim.Native.Nat.{ℕ}
use mathlib.Core.Path.{◌≡◌, refl, ap, ◌∙◌}
use mathlib.Core.Bool.{Bool, ◌||◌, false, true}
use mathlib.Core.List.{List, [], ◌++◌, append-nil}
use lib.Dec.{T}
use lib.ListN.{length, take}
use Rattle.inputs.specs.Beginnings.{Stopped, enough}

-- enough bytes of an input decide its answer
pub record Decided (answer : List ℕ → List ℕ) (line : Bool) (room : ℕ) : Type 0 where
  pub decides : (bytes rest : List ℕ) → T (enough line room bytes) → answer (bytes ++ rest) ≡ answer bytes

-- nothing follows where the input has ended
pub whole-input : (answer : List ℕ → List ℕ) (line : Bool) (held : List ℕ) (n : ℕ) → Decided answer line (length held) → (s : Stopped line held n) (rest : List ℕ)
    → (s.ended ≡ true → rest ≡ []) → answer (take n held ++ rest) ≡ answer (take n held)
whole-input answer line held n d s rest over = go s.ended refl s.stops
  where
    go : (ended : Bool) → s.ended ≡ ended → T (ended || enough line (length held) (take n held)) → answer (take n held ++ rest) ≡ answer (take n held)
    go true e t = ap (λ (r : List ℕ). answer (take n held ++ r)) (over e) ∙ ap answer (append-nil (take n held))
    go false e t = d.decides (take n held) rest t
