-- One check more after those of every call. Assumes nothing.
use Rattle.std.specs.Prelude.{ℕ, List, [], ◌∷◌, ltb}
use Rattle.game.specs.Calls.{Check}
use Rattle.refusals.specs.Names.{named}
use Rattle.refusals.specs.declared.Refusal.{Refusal}

-- one check more: a value below its least
abbrev pub below : ℕ → ℕ → Refusal → List Check
below value least f = record { given = ltb value least; refusal = named f } ∷ []
