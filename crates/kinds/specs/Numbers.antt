-- The numbers that stand for kinds of moves and for endings. Assumes nothing.
use Rattle.std.specs.Prelude.{ℕ, ◌≡◌, ◌≢◌, Result, MatchResult}
use Rattle.kinds.specs.declared.Ending.{Ending}
use Rattle.kinds.specs.declared.Ending.TheVariants.{Lost, Unfinished, Won}
use Rattle.kinds.specs.declared.Kind.{Kind}
use Rattle.kinds.specs.declared.Kind.TheVariants.{Chord, Flag, Left, Unflag}
use Rattle.kinds.specs.declared.NoKind.{NoKind}

-- a kind's number: 1 for L, 2 for F, 3 for C, 4 for the taking away of a flag
abbrev pub kind_number : Kind → ℕ
kind_number Left = 1
kind_number Flag = 2
kind_number Chord = 3
kind_number Unflag = 4

-- a number was read: it is the kind's, or no kind's
abbrev pub Reads : ℕ → Result Kind NoKind → Type 0
Reads number read = MatchResult read (λ kind. kind_number kind ≡ number) (λ _. (kind : Kind) → kind_number kind ≢ number)

-- an ending's number: 0 unfinished, 1 won, 2 lost
abbrev pub ending_number : Ending → ℕ
ending_number Unfinished = 0
ending_number Won = 1
ending_number Lost = 2
