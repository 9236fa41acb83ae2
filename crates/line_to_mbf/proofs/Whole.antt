-- The file of the bytes that were read is the file of the whole input: a line feed decides, and so do 517 bytes. Assumes nothing.
use Prim.Native.Nat.{ℕ}
use native.Mathlib.Omega.{arith}
use mathlib.Core.Path.{◌≡◌}
use mathlib.Core.Bool.{true}
use mathlib.Core.List.{List, [], ◌++◌}
use mathlib.Core.Logic.{⊎_elim}
use lib.Dec.{eqb, eqb→eq}
use lib.ListN.{length, take}
use Rattle.game.specs.Lists.{has}
use Rattle.game.proofs.Truth.{or_cases}
use Rattle.inputs.specs.Beginnings.{Stopped}
use Rattle.inputs.proofs.Wholes.{Decided, whole-input}
use Rattle.mbf_lines.specs.Conversions.{line_file}
use Rattle.mbf_lines.proofs.Cuts.{line_decided, line_feed_decides}

line_decides : (room : ℕ) → room ≡ 517 → Decided line_file true room
line_decides room h =
    record {
      decides = λ bytes rest t.
          ⊎_elim (λ full. let all = eqb→eq (length bytes) room full in line_decided bytes rest (omega arith)) (λ feed. line_feed_decides bytes rest feed)
          (or_cases (eqb (length bytes) room) (has 10 bytes) t);
    }

-- however the input was cut
pub whole_line : (held : List ℕ) (n : ℕ) → length held ≡ 517 → (s : Stopped true held n) (rest : List ℕ) → (s.ended ≡ true → rest ≡ []) → line_file (take n held ++ rest) ≡ line_file (take n held)
whole_line held n h = whole-input line_file true held n (line_decides (length held) h)
