-- `stored::put_word`: its high two bytes, then its low two. Assumes nothing.
use Prim.Native.Nat.{ℕ, ◌+◌, ◌/◌, ◌%◌}
use native.Mathlib.Omega.{arith}
use mathlib.Core.Path.{ap, ◌∙◌}
use mathlib.Core.List.{List}
use lib.Seq.{sets}
use Rattle.hex_digits.proofs.Bytes.{sets_more}
use Rattle.lines.proofs.Priced.{two_digits}
use Rattle.stored.proofs.Words.{word-digits}
use Rattle.stored.proofs.put_word.Goals as goal

pub returns : goal.returns
returns c =
    let a = c.args in
    let w = a.word in
    c.put_two-2.ensures
    ∙ ap (λ (l : List ℕ). sets l (a.at + 4) (two_digits (w % 65536))) c.put_two.ensures
    ∙ sets_more a.out.now a.at (a.at + 4) (two_digits (w / 65536)) (two_digits (w % 65536)) (omega arith)
    ∙ ap (λ (ds : List ℕ). sets a.out.now a.at ds) (word-digits w)
