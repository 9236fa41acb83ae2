-- `hex_digits::is_end`: a line feed alone ends a line. Assumes nothing.
use mathlib.Core.Path.{ap, sym, ◌∙◌}
use Rattle.hex_digits.proofs.Digits.{character_end, end_as, no_end}
use Rattle.hex_digits.proofs.is_end.Goals as goal

pub returns-in-End : goal.returns-in-End
returns-in-End c = ap end_as (sym c.in-End.is ∙ c.character_of.ensures) ∙ character_end _

pub returns-in_default : goal.returns-in_default
returns-in_default c = sym (no_end _ c.in_default.not-End) ∙ ap end_as c.character_of.ensures ∙ character_end _
