-- The line of the bytes that were read is the line of the whole input: 4,101 bytes of a file decide. Assumes nothing.
use Prim.Native.Nat.{ℕ}
use native.Mathlib.Omega.{arith}
use mathlib.Core.Path.{◌≡◌}
use mathlib.Core.Bool.{false, true}
use mathlib.Core.List.{List, [], ◌++◌}
use mathlib.Core.Logic.{⊎_elim}
use lib.Dec.{eqb, eqb→eq}
use lib.ListN.{length, take}
use Rattle.game.proofs.Truth.{or_cases}
use Rattle.inputs.specs.Beginnings.{Stopped}
use Rattle.inputs.proofs.Wholes.{Decided, whole-input}
use Rattle.mbf_lines.specs.Conversions.{file_line}
use Rattle.mbf_lines.proofs.Cuts.{file_decided}

full_decides : (room : ℕ) → room ≡ 4101 → Decided file_line false room
full_decides room h =
    record {
      decides = λ bytes rest t. ⊎_elim (λ full. let all = eqb→eq (length bytes) room full in file_decided bytes rest (omega arith)) (λ none. absurd none) (or_cases (eqb (length bytes) room) false t);
    }

-- however the input was cut
pub whole_file : (held : List ℕ) (n : ℕ) → length held ≡ 4101 → (s : Stopped false held n) (rest : List ℕ) → (s.ended ≡ true → rest ≡ []) → file_line (take n held ++ rest) ≡ file_line (take n held)
whole_file held n h = whole-input file_line false held n (full_decides (length held) h)
